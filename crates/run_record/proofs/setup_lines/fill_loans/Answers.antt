use Rattle.std.proofs.Common.{◌≡◌, ◌∷◌, ◌++◌, [], add-one, arith, length, slice_set, take, ◌+◌}
use Rattle.std.proofs.Math.Seq.{take-suc-set}
use Rattle.std.proofs.Math.ListN.{length-set}
use Rattle.std.proofs.lemmas.List.{take_all}
use Rattle.std.proofs.lemmas.Result.{err_from_is_err_and}
use Rattle.run_record.specs.Fields.{number_at}
use Rattle.run_record.specs.RecordLines.{loans_at, loan_most}
use Rattle.run_record.specs.Splitting.{tokens}
use Rattle.run_record.proofs.ListLoop.{fails_alike}
use Rattle.run_record.proofs.TextBounds.{loan_goes_on, loan_fails, loans_are_done}
use Rattle.run_record.proofs.setup_lines.fill_loans.Goals as goal

pub returns-in_err-loan : goal.returns-in_err-loan
returns-in_err-loan c =
    let p = err_from_is_err_and c.from_residual.result c.from_residual.ensures.1 in
    let items = c.loop-item.items in
    let same : length c.args.items.now ≡ length items = omega arith in
    let total = loans_at c.args.owner (length items) 0 (tokens c.args.line.now) in
    let failed = rw c.loan_most-most.ensures at c.in_err-loan.ensures.number in
    rw (p.1, p.2, same) (fails_alike c.in_err-loan.field-0.0 (number_at (loan_most c.args.owner c.loop-item.holder) (tokens c.loop-item.rest.now)) total
    (λ kind is. loan_fails c.args.owner total (take c.loop-item.item-index items) (length items) c.loop-item.item-index c.loop-item.holder (tokens c.loop-item.rest.now) kind
    (omega arith) is c.loop-item.invariant.read) failed)

pub loop-item-preserved : goal.loop-item-preserved
loop-item-preserved c =
    let items = c.loop-item.items in
    let i = c.loop-item.item-index in
    let w = c.in_ok-loan.loan in
    let t : take (i + 1) (slice_set items i w) ≡ take i items ++ w ∷ [] = rw add-one (take-suc-set items i w (omega arith)) in
    let n : length (slice_set items i w) ≡ length items = length-set items i w in
    let total = loans_at c.args.owner (length items) 0 (tokens c.args.line.now) in
    let read = rw c.loan_most-most.ensures at c.in_ok-loan.ensures.number in
    record {
      holder = omega (arith, c.loop-item.invariant.holder);
      read = rw (t, n) (loan_goes_on c.args.owner total (take i items) (length items) i c.loop-item.holder (tokens c.loop-item.rest.now) w (tokens c.in_ok-loan.after.now) (omega arith) read c.loop-item.invariant.read);
    }

pub returns : goal.returns
returns c =
    let items = c.loop-item.items in
    let all : take c.loop-item.item-index items ≡ items = take_all c.loop-item.item-index items (omega arith) in
    let same : length c.args.items.now ≡ length items = omega arith in
    let read = loans_are_done c.args.owner (loans_at c.args.owner (length items) 0 (tokens c.args.line.now)) (take c.loop-item.item-index items) (length items) c.loop-item.item-index c.loop-item.holder (tokens c.loop-item.rest.now)
    (omega arith) c.loop-item.invariant.read in
    rw same (rw all at read)
