use Rattle.std.proofs.Common.{◌≡◌, ◌≤◌, ◌-◌, ℕ, false, refl, arith}
use Rattle.std.proofs.lemmas.List.{length_push}
use Rattle.std.proofs.lemmas.List.Elements.{All-nil, All-push}
use Rattle.std.proofs.lemmas.Result.{err_from_is_err_and}
use Rattle.run_record.specs.Fields.{Tokens, number_at}
use Rattle.run_record.specs.Splitting.{tokens}
use Rattle.run_record.specs.Lists.{list_at}
use Rattle.run_record.proofs.ListLoop.{at_first, goes_on, fails, fails_alike, is_full}
use Rattle.run_record.proofs.lists.numbers_at.Goals as goal

pub loop-place-init : goal.loop-place-init
loop-place-init c =
    let whole : c.args.count - 0 ≡ c.args.count = omega arith in
    rw c.new-numbers.ensures (record {
      size = refl;
      within = All-nil (λ (number : ℕ). number ≤ c.args.most);
      read = rw whole (at_first _);
    })

pub returns-clause-size : goal.returns-clause-size
returns-clause-size c = omega (arith, c.loop-place.invariant.size)

pub returns-clause-within : goal.returns-clause-within
returns-clause-within c = c.loop-place.invariant.within

pub returns-in_err-number-clause-numbers : goal.returns-in_err-number-clause-numbers
returns-in_err-number-clause-numbers c =
    let p = err_from_is_err_and c.from_residual.result c.from_residual.ensures.1 in
    let item = λ (least : ℕ). number_at c.args.most in
    let total = list_at item (λ (number : ℕ). 0) (λ (rest : Tokens). false) c.args.count 0 (tokens c.args.line.now) in
    rw (p.1, p.2) (fails_alike c.in_err-number.field-0.0 (number_at c.args.most (tokens c.loop-place.rest.now)) total
    (λ kind is. fails item (λ (number : ℕ). 0) (λ (rest : Tokens). false) c.loop-place.numbers c.args.count c.loop-place._place 0 (tokens c.loop-place.rest.now) kind total
    (omega arith) refl is c.loop-place.invariant.read) c.in_err-number.ensures.number)

pub loop-place-preserved : goal.loop-place-preserved
loop-place-preserved c =
    let item = λ (least : ℕ). number_at c.args.most in
    let total = list_at item (λ (number : ℕ). 0) (λ (rest : Tokens). false) c.args.count 0 (tokens c.args.line.now) in
    let w = c.in_ok-number.number in
    rw c.in_ok-push.ensures.ok (record {
      size = omega (arith, length_push c.loop-place.numbers w, c.loop-place.invariant.size);
      within = All-push (λ (number : ℕ). number ≤ c.args.most) c.loop-place.numbers w c.loop-place.invariant.within c.in_ok-number.ensures.within;
      read = goes_on item (λ (number : ℕ). 0) (λ (rest : Tokens). false) c.loop-place.numbers c.args.count c.loop-place._place 0 (tokens c.loop-place.rest.now) w
          (tokens c.in_ok-number.after.now) total (omega arith) refl c.in_ok-number.ensures.number c.loop-place.invariant.read;
    })

pub returns-clause-numbers : goal.returns-clause-numbers
returns-clause-numbers c =
    let item = λ (least : ℕ). number_at c.args.most in
    let total = list_at item (λ (number : ℕ). 0) (λ (rest : Tokens). false) c.args.count 0 (tokens c.args.line.now) in
    is_full item (λ (number : ℕ). 0) (λ (rest : Tokens). false) c.loop-place.numbers c.args.count c.loop-place._place 0 (tokens c.loop-place.rest.now) total
    (omega arith) c.loop-place.invariant.read
