-- Of a record there is one verdict.
use Rattle.std.proofs.Common.{◌≡◌, ◌≢◌, ℕ, ◌<◌, ◌≤◌, List, [], ◌∷◌, ◌++◌, length, Option, None, Some, refl, sym, ap, ap₂, ◌∙◌, subst, ⊎_elim, arith}
use Rattle.std.specs.Prelude.{MatchOption}
use Rattle.std.proofs.lemmas.Bool.{cases_eq, cases_lt}
use Rattle.std.proofs.lemmas.Option.{same_Some}
use Rattle.tact_base.specs.Setup.{Setup}
use Rattle.run_model.specs.declared.cause.Cause.{Cause}
use Rattle.run_model.specs.declared.cause.Cause.TheVariants as cause
use Rattle.run_model.specs.declared.entry.Entry.{Entry}
use Rattle.run_model.specs.declared.entry.Message.{Message}
use Rattle.run_record.specs.Records.{Held}
use Rattle.run_record.specs.declared.short.Short.{Short}
use Rattle.run_check.specs.declared.verdict.Verdict.{Verdict}
use Rattle.run_check.specs.declared.verdict.Verdict.TheVariants.{Run, Bad}
use Rattle.run_check.specs.Expanded.{expanded}
use Rattle.run_check.specs.Causes.{taken_of, Fails, place_of_test, IsFirstCause}
use Rattle.run_check.specs.Verdicts.{IsFirstBad, IsVerdictOf}
use Rattle.run_check.proofs.NoFailure.{lawful_never_fails, bad_is_no_record}
use Rattle.run_check.proofs.Records.{lawful_is_record}

-- a pair that was found twice, as a cause
same_pair : {A : Type 0} (as_cause : A → A → Cause) (found : Option (A × A)) (told due other wanted : A)
    → found ≡ Some (told, due)
    → found ≡ Some (other, wanted)
    → as_cause told due ≡ as_cause other wanted
same_pair {A} as_cause found told due other wanted here there =
    ap (λ (p : A × A). as_cause p.0 p.1) (same_Some (told, due) (other, wanted) (sym here ∙ there))

same_receiver : (found : Option Message) (replica one other : ℕ)
    → MatchOption found ⊥ (λ message. (one ≡ message.to) × (one ≢ replica))
    → MatchOption found ⊥ (λ message. (other ≡ message.to) × (other ≢ replica))
    → one ≡ other
same_receiver None replica one other here there = absurd here
same_receiver (Some message) replica one other here there = here.0 ∙ sym there.0

-- An entry after a history.
module _ (setup : Setup) (history : List Entry) (short : Short) where
  abbrev Fails_here : Cause → Type 0
  Fails_here = Fails setup history short

  -- the least origin is one
  not_before : (origin told due other one wanted : ℕ)
      → Fails_here (cause.First origin told due)
      → Fails_here (cause.First other one wanted)
      → origin < other
      → ⊥
  not_before origin told due other one wanted (within, (found, differ), earlier) fails before = differ (fails.2 origin told due before found)

  same_first : (origin told due other one wanted : ℕ)
      → Fails_here (cause.First origin told due)
      → Fails_here (cause.First other one wanted)
      → cause.First origin told due ≡ cause.First other one wanted
  same_first origin told due other one wanted here there = ⊎_elim
      (λ (same : origin ≡ other).
      subst (λ (o : ℕ). Fails_here (cause.First o one wanted) → cause.First origin told due ≡ cause.First o one wanted) same
      (λ there. same_pair (cause.First origin) _ told due one wanted here.1.0 there.1.0) there)
      (λ (differ : origin ≡ other → ⊥). ⊎_elim
      (λ (before : origin < other). absurd (not_before origin told due other one wanted here there before))
      (λ (past : other ≤ origin). absurd (not_before other one wanted origin told due there here (omega arith)))
      (cases_lt origin other))
      (cases_eq origin other)

  same_cause : (one other : Cause)
      → Fails_here one
      → Fails_here other
      → place_of_test one ≡ place_of_test other
      → one ≡ other
  same_cause (cause.Full a) (cause.Full b) here there at = ap cause.Full (here.0 ∙ sym there.0)
  same_cause (cause.Moment a b) (cause.Moment c d) here there at = ap₂ cause.Moment (here.0 ∙ sym there.0) (here.1 ∙ sym there.1)
  same_cause (cause.Number a b) (cause.Number c d) here there at = same_pair cause.Number _ a b c d here.0 there.0
  same_cause (cause.First a b c) (cause.First d e f) here there at = same_first a b c d e f here there
  same_cause (cause.NoSend a b) (cause.NoSend c d) (takes, none) (takes_too, none_too) at = cc
  same_cause (cause.NotAddressed a) (cause.NotAddressed b) here there at = ap cause.NotAddressed (same_receiver (taken_of history short.act) short.replica a b here there)
  same_cause (cause.Home a b) (cause.Home c d) here there at = same_pair cause.Home _ a b c d here.0 there.0
  same_cause (cause.Free a b) (cause.Free c d) here there at = same_pair cause.Free _ a b c d here.0 there.0
  same_cause (cause.Reply a b) (cause.Reply c d) here there at = same_pair cause.Reply _ a b c d here.0 there.0
  same_cause one other here there at = absurd (omega (arith, at))

  one_first_cause : (one other : Cause)
      → IsFirstCause setup history short one
      → IsFirstCause setup history short other
      → one ≡ other
  one_first_cause one other here there =
      same_cause one other here.fails there.fails (omega (arith, here.first other there.fails, there.first one here.fails))

-- ---- places

module _ {A : Type 0} where
  -- a list cut at two places
  cut_before : (front front' : List A) (x x' : A) (rest rest' : List A)
      → front ++ x ∷ rest ≡ front' ++ x' ∷ rest'
      → length front < length front'
      → (between : List A) × (front' ≡ front ++ x ∷ between)
  cut_before [] [] x x' rest rest' same short = absurd (omega (arith, short))
  cut_before [] (y ∷ front') x x' rest rest' same short =
      let head : y ≡ x = cc in
      (front', ap (λ (z : A). z ∷ front') head)
  cut_before (z ∷ front) [] x x' rest rest' same short = absurd (omega (arith, short))
  cut_before (z ∷ front) (y ∷ front') x x' rest rest' same short =
      let head : y ≡ z = cc in
      let tail : front ++ x ∷ rest ≡ front' ++ x' ∷ rest' = cc in
      let between = cut_before front front' x x' rest rest' tail (omega (arith, short)) in
      (between.0, ap₂ (λ (h : A) (t : List A). h ∷ t) head between.1)

  cut_same : (front front' : List A) (x x' : A) (rest rest' : List A)
      → front ++ x ∷ rest ≡ front' ++ x' ∷ rest'
      → length front ≡ length front'
      → (front ≡ front') × (x ≡ x')
  cut_same [] [] x x' rest rest' same sized = (refl, cc)
  cut_same [] (y ∷ front') x x' rest rest' same sized = absurd (omega (arith, sized))
  cut_same (z ∷ front) [] x x' rest rest' same sized = absurd (omega (arith, sized))
  cut_same (z ∷ front) (y ∷ front') x x' rest rest' same sized =
      let head : z ≡ y = cc in
      let tail : front ++ x ∷ rest ≡ front' ++ x' ∷ rest' = cc in
      let parts = cut_same front front' x x' rest rest' tail (omega (arith, sized)) in
      (ap₂ (λ (h : A) (t : List A). h ∷ t) head parts.0, parts.1)

-- Two first bad entries of a record.
module _ (held : Held) (place place' : ℕ) (one other : Cause) (bad : IsFirstBad held place one) (bad' : IsFirstBad held place' other) where
  not_later : place < place' → ⊥
  not_later before =
      let cut = cut_before bad.before bad'.before bad.short bad'.short bad.after bad'.after (sym bad.stands ∙ bad'.stands) (omega (arith, before, bad.at, bad'.at)) in
      lawful_never_fails held.setup (expanded held.setup bad.before) bad.short one (bad'.lawful bad.before cut.0 bad.short cut.1) bad.fails.fails

  at_one_place : place ≡ place' → one ≡ other
  at_one_place same =
      let cut = cut_same bad.before bad'.before bad.short bad'.short bad.after bad'.after (sym bad.stands ∙ bad'.stands) (omega (arith, same, bad.at, bad'.at)) in
      one_first_cause held.setup (expanded held.setup bad.before) bad.short one other bad.fails
      (subst (λ (b : List Short). IsFirstCause held.setup (expanded held.setup b) bad.short other) (sym cut.0)
      (subst (λ (s : Short). IsFirstCause held.setup (expanded held.setup bad'.before) s other) (sym cut.1) bad'.fails))

same_bad : (held : Held) (place place' : ℕ) (one other : Cause)
    → IsFirstBad held place one
    → IsFirstBad held place' other
    → Bad place one ≡ Bad place' other
same_bad held place place' one other bad bad' = ⊎_elim
    (λ (same : place ≡ place'). ap₂ Bad same (at_one_place held place place' one other bad bad' same))
    (λ (differ : place ≡ place' → ⊥). ⊎_elim
    (λ (before : place < place'). absurd (not_later held place place' one other bad bad' before))
    (λ (past : place' ≤ place). absurd (not_later held place' place other one bad' bad (omega arith)))
    (cases_lt place place'))
    (cases_eq place place')

pub one_verdict : (held : Held) (one other : Verdict)
    → IsVerdictOf held one
    → IsVerdictOf held other
    → one ≡ other
one_verdict held (Run s) (Run t) here there = ap Run (here.1 ∙ sym there.1)
one_verdict held (Run s) (Bad entry found) here there = absurd (bad_is_no_record held entry found (expanded held.setup held.entries) there (lawful_is_record held here.0))
one_verdict held (Bad entry found) (Run s) here there = absurd (bad_is_no_record held entry found (expanded held.setup held.entries) here (lawful_is_record held there.0))
one_verdict held (Bad entry found) (Bad entry' found') here there = same_bad held entry entry' found found' here there
