use Rattle.std.proofs.Common.{◌≡◌, ◌∷◌, ◌++◌, [], add-one, arith, length, slice_set, sym, take, ◌+◌}
use Rattle.std.proofs.Math.Seq.{take-suc-set}
use Rattle.std.proofs.Math.ListN.{length-set}
use Rattle.std.proofs.lemmas.List.{take_all}
use Rattle.std.proofs.lemmas.Result.{err_from_is_err_and}
use Rattle.run_record.specs.EntriesAt.{loans_at}
use Rattle.run_record.proofs.Loops.{loan_goes_on, loan_ends, loans_are_done}
use Rattle.run_record.proofs.get_setup.fill_loans.Goals as goal

pub returns-in_err-loan-clause-err : goal.returns-in_err-loan-clause-err
returns-in_err-loan-clause-err c =
    let p = err_from_is_err_and c.from_residual.result c.from_residual.ensures.1 in
    let items = c.loop-item.items in
    let same : length c.args.items.now ≡ length items = omega arith in
    let total = loans_at c.args.owner (length items) 0 c.args.bytes.now c.args.start in
    let read = rw c.loan_bound-bound.ensures at (sym c.in_err-loan.ensures.exact) in
    rw (p.1, p.2, same) (loan_ends c.args.owner c.args.bytes.now total (take c.loop-item.item-index items) (length items) c.loop-item.item-index c.loop-item.holder c.loop-item.place c.in_err-loan.field-0.0
    (omega arith) read c.loop-item.invariant.read)

pub loop-item-preserved : goal.loop-item-preserved
loop-item-preserved c =
    let items = c.loop-item.items in
    let i = c.loop-item.item-index in
    let w = c.in_ok-loan.loan in
    let t : take (i + 1) (slice_set items i w) ≡ take i items ++ w ∷ [] = rw add-one (take-suc-set items i w (omega arith)) in
    let n : length (slice_set items i w) ≡ length items = length-set items i w in
    let total = loans_at c.args.owner (length items) 0 c.args.bytes.now c.args.start in
    let read = rw c.loan_bound-bound.ensures at (sym c.in_ok-loan.ensures.exact) in
    record {
      within = omega (arith, c.in_ok-loan.ensures.within);
      holder = omega (arith, c.loop-item.invariant.holder);
      read = rw (t, n) (loan_goes_on c.args.owner c.args.bytes.now total (take i items) (length items) i c.loop-item.holder c.loop-item.place w c.in_ok-loan.next (omega arith) read c.loop-item.invariant.read);
    }

pub returns-clause-ok : goal.returns-clause-ok
returns-clause-ok c =
    let items = c.loop-item.items in
    let all : take c.loop-item.item-index items ≡ items = take_all c.loop-item.item-index items (omega arith) in
    let same : length c.args.items.now ≡ length items = omega arith in
    let read = loans_are_done c.args.owner c.args.bytes.now (loans_at c.args.owner (length items) 0 c.args.bytes.now c.args.start) (take c.loop-item.item-index items) (length items) c.loop-item.item-index c.loop-item.holder c.loop-item.place
    (omega arith) c.loop-item.invariant.read in
    rw same (rw all at read)
