use Rattle.std.proofs.Common.{true, ◌≡◌, ◌&&◌, refl, sym, ◌∙◌, ap, ap₂, arith}
use Rattle.std.proofs.lemmas.Bool.{and_parts, false≢true}
use Rattle.std.proofs.lemmas.Bool.Decides.{nat_tests, Decides-int_eq}
use Rattle.std.proofs.lemmas.Slice.Eq.{slice_eq-Decides}
use Rattle.run_model.specs.contracts.call.ReplyPartialEq.TheImpl.{eq-value}
use Rattle.run_model.specs.declared.call.Reply.{Reply}
use Rattle.run_model.specs.declared.call.Reply.TheVariants as reply
use Rattle.run_record.proofs.same_replies.are_same_replies.Goals as goal

-- replies that the test takes for the same are the same
same : (one other : Reply) → eq-value.it one other ≡ true → one ≡ other
same (reply.Done a b) (reply.Done g h) agrees = grind (arith, nat_tests)
same (reply.Done a b) other agrees = absurd (false≢true agrees)
same reply.Granted reply.Granted agrees = refl
same reply.Granted other agrees = absurd (false≢true agrees)
same reply.Released reply.Released agrees = refl
same reply.Released other agrees = absurd (false≢true agrees)
same (reply.TooHeavy a b c d) (reply.TooHeavy g h i j) agrees = grind (arith, nat_tests)
same (reply.TooHeavy a b c d) other agrees = absurd (false≢true agrees)
same (reply.WaitHeld a b c d e) (reply.WaitHeld g h i j k) agrees = grind (arith, nat_tests)
same (reply.WaitHeld a b c d e) other agrees = absurd (false≢true agrees)
same (reply.WaitShare a b c d e f) (reply.WaitShare g h i j k l) agrees = grind (arith, nat_tests)
same (reply.WaitShare a b c d e f) other agrees = absurd (false≢true agrees)
same (reply.WaitLent a b c d e) (reply.WaitLent g h i j k) agrees = grind (arith, nat_tests)
same (reply.WaitLent a b c d e) other agrees = absurd (false≢true agrees)
same (reply.WaitOrder a b c d) (reply.WaitOrder g h i j) agrees = grind (arith, nat_tests)
same (reply.WaitOrder a b c d) other agrees = absurd (false≢true agrees)
same (reply.WaitStale a b c d) (reply.WaitStale g h i j) agrees = grind (arith, nat_tests)
same (reply.WaitStale a b c d) other agrees = absurd (false≢true agrees)
same (reply.NotHeld a b c) (reply.NotHeld g h i) agrees = grind (arith, nat_tests)
same (reply.NotHeld a b c) other agrees = absurd (false≢true agrees)
same (reply.Value a b) (reply.Value c d) agrees =
    let parts = and_parts _ _ agrees in
    ap₂ reply.Value ((Decides-int_eq a c).0 parts.0) ((slice_eq-Decides Decides-int_eq b d _ refl).0 parts.1)
same (reply.Value a b) other agrees = absurd (false≢true agrees)

itself : (one : Reply) → eq-value.it one one ≡ true
itself (reply.Done a b) = grind (arith, nat_tests)
itself reply.Granted = refl
itself reply.Released = refl
itself (reply.TooHeavy a b c d) = grind (arith, nat_tests)
itself (reply.WaitHeld a b c d e) = grind (arith, nat_tests)
itself (reply.WaitShare a b c d e f) = grind (arith, nat_tests)
itself (reply.WaitLent a b c d e) = grind (arith, nat_tests)
itself (reply.WaitOrder a b c d) = grind (arith, nat_tests)
itself (reply.WaitStale a b c d) = grind (arith, nat_tests)
itself (reply.NotHeld a b c) = grind (arith, nat_tests)
itself (reply.Value a b) = ap₂ (λ x y. x && y) ((Decides-int_eq a a).1 refl) ((slice_eq-Decides Decides-int_eq b b _ refl).1 refl)

pub returns : goal.returns
returns c =
    let is : c.eq.result ≡ eq-value.it c.args.one.now c.args.other.now = c.eq.ensures in (
      λ agrees. same c.args.one.now c.args.other.now (sym is ∙ agrees),
      λ alike. is ∙ ap (eq-value.it c.args.one.now) (sym alike) ∙ itself c.args.one.now,
    )
