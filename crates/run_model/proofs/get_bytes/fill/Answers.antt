use Rattle.std.proofs.Common.{◌≡◌, ◌∷◌, ◌++◌, [], add-one, arith, length, slice_set, sym, take, ◌+◌}
use Rattle.std.proofs.Math.Seq.{take-suc-set}
use Rattle.std.proofs.Math.ListN.{length-set}
use Rattle.std.proofs.lemmas.List.{take_all}
use Rattle.std.proofs.lemmas.Result.{err_from_is_err_and}
use Rattle.run_model.specs.Bytes.{list_at}
use Rattle.run_model.proofs.ListLoop.{goes_on, ends, is_done}
use Rattle.run_model.proofs.get_bytes.fill.Goals as goal

pub returns-in_err-read-clause-err : goal.returns-in_err-read-clause-err
returns-in_err-read-clause-err g c =
    let p = err_from_is_err_and c.from_residual.result c.from_residual.ensures.1 in
    let items = c.loop-item.items in
    let item = g.T.Listed.item_at c.args.conits in
    let total = list_at item g.T.Listed.after (length items) 0 c.args.bytes.now c.args.start in
    let same : length c.args.items.now ≡ length items = omega arith in
    rw (p.1, p.2, same) (ends item g.T.Listed.after (take c.loop-item.item-index items) (length items) c.loop-item.item-index c.loop-item.least c.args.bytes.now
    c.loop-item.place c.in_err-read.field-0.0 total
    (omega arith) (sym c.in_err-read.ensures.exact) c.loop-item.invariant.read)

pub loop-item-preserved : goal.loop-item-preserved
loop-item-preserved g c =
    let items = c.loop-item.items in
    let i = c.loop-item.item-index in
    let w = c.in_ok-read.read in
    let item = g.T.Listed.item_at c.args.conits in
    let total = list_at item g.T.Listed.after (length items) 0 c.args.bytes.now c.args.start in
    let t : take (i + 1) (slice_set items i w) ≡ take i items ++ w ∷ [] = rw add-one (take-suc-set items i w (omega arith)) in
    let n : length (slice_set items i w) ≡ length items = length-set items i w in
    record {
      within = omega (arith, c.in_ok-read.ensures.within);
      read = rw (t, n, c.least_after-least.ensures) (goes_on item g.T.Listed.after (take i items) (length items) i c.loop-item.least c.args.bytes.now c.loop-item.place w c.in_ok-read.next total
          (omega arith) (sym c.in_ok-read.ensures.exact) c.loop-item.invariant.read);
    }

pub returns-clause-ok : goal.returns-clause-ok
returns-clause-ok g c =
    let items = c.loop-item.items in
    let item = g.T.Listed.item_at c.args.conits in
    let total = list_at item g.T.Listed.after (length items) 0 c.args.bytes.now c.args.start in
    let all : take c.loop-item.item-index items ≡ items = take_all c.loop-item.item-index items (omega arith) in
    let same : length c.args.items.now ≡ length items = omega arith in
    let read = is_done item g.T.Listed.after (take c.loop-item.item-index items) (length items) c.loop-item.item-index c.loop-item.least c.args.bytes.now
    c.loop-item.place total (omega arith) c.loop-item.invariant.read in
    rw same (rw all at read)
