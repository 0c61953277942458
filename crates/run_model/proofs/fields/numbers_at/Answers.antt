use Rattle.std.proofs.Common.{◌≡◌, ◌∷◌, ◌++◌, [], add-one, arith, length, slice_set, sym, take, ◌+◌}
use Rattle.std.proofs.Math.Seq.{take-suc-set}
use Rattle.std.proofs.Math.ListN.{length-set}
use Rattle.std.proofs.lemmas.List.{take_all}
use Rattle.std.proofs.lemmas.Result.{err_from_is_err_and}
use Rattle.run_model.specs.Bytes.{number_at, numbers_at}
use Rattle.run_model.proofs.ListLoop.{goes_on, ends, is_done}
use Rattle.run_model.proofs.fields.numbers_at.Goals as goal

pub returns-in_err-number-clause-err : goal.returns-in_err-number-clause-err
returns-in_err-number-clause-err c =
    let p = err_from_is_err_and c.from_residual.result c.from_residual.ensures.1 in
    let items = c.loop-item.items in
    let same : length c.args.items.now ≡ length items = omega arith in
    rw (p.1, p.2, same) (ends (λ least. number_at 0 c.args.bound) (λ number. 0) (take c.loop-item.item-index items) (length items) c.loop-item.item-index 0
    c.args.bytes.now c.loop-item.place c.in_err-number.field-0.0
    (numbers_at c.args.bound (length items) c.args.bytes.now c.args.start) (omega arith) (sym c.in_err-number.ensures.exact) c.loop-item.invariant.read)

pub loop-item-preserved : goal.loop-item-preserved
loop-item-preserved c =
    let items = c.loop-item.items in
    let i = c.loop-item.item-index in
    let w = c.in_ok-number.number in
    let t : take (i + 1) (slice_set items i w) ≡ take i items ++ w ∷ [] = rw add-one (take-suc-set items i w (omega arith)) in
    let n : length (slice_set items i w) ≡ length items = length-set items i w in
    record {
      within = omega (arith, c.in_ok-number.ensures.within);
      read = rw (t, n) (goes_on (λ least. number_at 0 c.args.bound) (λ number. 0) (take i items) (length items) i 0 c.args.bytes.now c.loop-item.place w c.in_ok-number.next
          (numbers_at c.args.bound (length items) c.args.bytes.now c.args.start) (omega arith) (sym c.in_ok-number.ensures.exact) c.loop-item.invariant.read);
    }

pub returns-clause-ok : goal.returns-clause-ok
returns-clause-ok c =
    let items = c.loop-item.items in
    let all : take c.loop-item.item-index items ≡ items = take_all c.loop-item.item-index items (omega arith) in
    let same : length c.args.items.now ≡ length items = omega arith in
    let read = is_done (λ least. number_at 0 c.args.bound) (λ number. 0) (take c.loop-item.item-index items) (length items) c.loop-item.item-index 0 c.args.bytes.now c.loop-item.place
    (numbers_at c.args.bound (length items) c.args.bytes.now c.args.start) (omega arith) c.loop-item.invariant.read in
    rw same (rw all at read)
