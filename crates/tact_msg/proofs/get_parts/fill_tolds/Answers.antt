use Rattle.std.proofs.Common.{◌≡◌, ◌≤◌, ◌∷◌, ◌++◌, [], add-one, arith, length, slice_set, sym, take, subst, All, ◌+◌}
use Rattle.std.proofs.Math.Seq.{take-suc-set}
use Rattle.std.proofs.Math.ListN.{length-set}
use Rattle.std.proofs.lemmas.List.{take_all}
use Rattle.std.proofs.lemmas.List.Elements.{All-append, All-cons, All-nil}
use Rattle.std.proofs.lemmas.Result.{err_from_is_err_and}
use Rattle.tact_base.specs.declared.limits.TheConstants.{HISTORY_MAX, MESSAGE_WRITES}
use Rattle.tact_msg.specs.declared.parts.Told.{Told}
use Rattle.tact_msg.specs.MessageBytes.{tolds_at}
use Rattle.tact_msg.proofs.Loops.{told_goes_on, told_ends, told_is_done}
use Rattle.tact_msg.proofs.get_parts.fill_tolds.Goals as goal

pub returns-in_err-told-clause-err : goal.returns-in_err-told-clause-err
returns-in_err-told-clause-err c =
    let p = err_from_is_err_and c.from_residual.result c.from_residual.ensures.1 in
    let items = c.loop-item.items in
    let same : length c.args.items.now ≡ length items = omega arith in
    rw (p.1, p.2, same) (told_ends c.args.to (take c.loop-item.item-index items) (length items)
    c.loop-item.item-index c.loop-item.origin c.loop-item.room c.args.bytes.now c.loop-item.place c.in_err-told.field-0.0
    (tolds_at c.args.to (length items) 0 MESSAGE_WRITES c.args.bytes.now c.args.start) (omega arith) (sym c.in_err-told.ensures.exact) c.loop-item.invariant.read)

pub loop-item-preserved : goal.loop-item-preserved
loop-item-preserved c =
    let items = c.loop-item.items in
    let i = c.loop-item.item-index in
    let w = c.in_ok-told.told in
    let t : take (i + 1) (slice_set items i w) ≡ take i items ++ w ∷ [] = rw add-one (take-suc-set items i w (omega arith)) in
    let n : length (slice_set items i w) ≡ length items = length-set items i w in
    let is_small = λ (told : Told). told.first ≤ HISTORY_MAX in
    record {
      within = omega (arith, c.in_ok-told.ensures.within);
      room = omega (arith, c.loop-item.invariant.room);
      origin = omega (arith, c.loop-item.invariant.origin);
      small = subst (All is_small) (sym t) (All-append is_small (take i items) (w ∷ []) c.loop-item.invariant.small
          (All-cons is_small w [] (omega (arith, c.in_ok-told.ensures.within)) (All-nil is_small)));
      read = rw (t, n) (told_goes_on c.args.to (take i items) (length items) i c.loop-item.origin c.loop-item.room c.args.bytes.now c.loop-item.place w c.in_ok-told.next
          (tolds_at c.args.to (length items) 0 MESSAGE_WRITES c.args.bytes.now c.args.start) (omega arith) (sym c.in_ok-told.ensures.exact) c.loop-item.invariant.read);
    }

pub returns-clause-small : goal.returns-clause-small
returns-clause-small c =
    let items = c.loop-item.items in
    let all : take c.loop-item.item-index items ≡ items = take_all c.loop-item.item-index items (omega arith) in
    subst (All (λ (told : Told). told.first ≤ HISTORY_MAX)) all c.loop-item.invariant.small

pub returns-clause-ok : goal.returns-clause-ok
returns-clause-ok c =
    let items = c.loop-item.items in
    let all : take c.loop-item.item-index items ≡ items = take_all c.loop-item.item-index items (omega arith) in
    let same : length c.args.items.now ≡ length items = omega arith in
    let read = told_is_done c.args.to (take c.loop-item.item-index items) (length items) c.loop-item.item-index c.loop-item.origin c.loop-item.room c.args.bytes.now c.loop-item.place
    (tolds_at c.args.to (length items) 0 MESSAGE_WRITES c.args.bytes.now c.args.start) (omega arith) c.loop-item.invariant.read in
    rw same (rw all at read)
