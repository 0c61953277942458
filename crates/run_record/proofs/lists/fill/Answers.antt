use Rattle.std.proofs.Common.{◌≡◌, ◌∷◌, ◌++◌, [], add-one, arith, length, slice_set, sym, take, ◌+◌, ◌∙◌}
use Rattle.std.proofs.Math.Seq.{take-suc-set}
use Rattle.std.proofs.Math.ListN.{length-set}
use Rattle.std.proofs.lemmas.List.{take_all}
use Rattle.std.proofs.lemmas.Result.{err_from_is_err_and}
use Rattle.run_record.specs.Splitting.{tokens}
use Rattle.run_record.specs.Lists.{is_end, list_at}
use Rattle.run_record.proofs.ListLoop.{goes_on, fails, fails_alike, is_ended, is_full}
use Rattle.run_record.proofs.lists.fill.Goals as goal

pub returns-then-is_end-clause-read : goal.returns-then-is_end-clause-read
returns-then-is_end-clause-read g c =
    let items = c.loop-place.items in
    let place = c.loop-place.place in
    let item = g.T.Listed.item_at c.args.conits in
    let ends = is_end c.args.end in
    let total = list_at item g.T.Listed.after ends (length items) 0 (tokens c.args.line.now) in
    let same : length c.args.items.now ≡ length items = omega arith in
    rw same (is_ended item g.T.Listed.after ends (take place items) (length items) place c.loop-place.least (tokens c.loop-place.rest.now) total
    (omega arith) (sym c.is_end.ensures ∙ c.if-is_end.true) c.loop-place.invariant)

pub returns-in_err-item-clause-read : goal.returns-in_err-item-clause-read
returns-in_err-item-clause-read g c =
    let p = err_from_is_err_and c.from_residual.result c.from_residual.ensures.1 in
    let items = c.loop-place.items in
    let place = c.loop-place.place in
    let item = g.T.Listed.item_at c.args.conits in
    let ends = is_end c.args.end in
    let total = list_at item g.T.Listed.after ends (length items) 0 (tokens c.args.line.now) in
    let same : length c.args.items.now ≡ length items = omega arith in
    rw (p.1, p.2, same) (fails_alike c.in_err-item.field-0.0 (item c.loop-place.least (tokens c.loop-place.rest.now)) total
    (λ kind is. fails item g.T.Listed.after ends (take place items) (length items) place c.loop-place.least (tokens c.loop-place.rest.now) kind total
    (omega arith) (sym c.is_end.ensures ∙ c.if-is_end.false) is c.loop-place.invariant) c.in_err-item.ensures.exact)

pub loop-place-preserved : goal.loop-place-preserved
loop-place-preserved g c =
    let items = c.loop-place.items in
    let i = c.loop-place.place in
    let w = c.in_ok-item.item in
    let item = g.T.Listed.item_at c.args.conits in
    let ends = is_end c.args.end in
    let total = list_at item g.T.Listed.after ends (length items) 0 (tokens c.args.line.now) in
    let t : take (i + 1) (slice_set items i w) ≡ take i items ++ w ∷ [] = rw add-one (take-suc-set items i w (omega arith)) in
    let n : length (slice_set items i w) ≡ length items = length-set items i w in
    rw (t, n, c.least_after-least.ensures) (goes_on item g.T.Listed.after ends (take i items) (length items) i c.loop-place.least (tokens c.loop-place.rest.now) w
    (tokens c.in_ok-item.after.now) total (omega arith) (sym c.is_end.ensures ∙ c.if-is_end.false) c.in_ok-item.ensures.exact c.loop-place.invariant)

pub returns-clause-read : goal.returns-clause-read
returns-clause-read g c =
    let items = c.loop-place.items in
    let place = c.loop-place.place in
    let item = g.T.Listed.item_at c.args.conits in
    let ends = is_end c.args.end in
    let total = list_at item g.T.Listed.after ends (length items) 0 (tokens c.args.line.now) in
    let same : length c.args.items.now ≡ length items = omega arith in
    let all : take place items ≡ items = take_all place items (omega arith) in
    let whole : take (length items) items ≡ items = take_all (length items) items (omega arith) in
    let read = is_full item g.T.Listed.after ends (take place items) (length items) place c.loop-place.least (tokens c.loop-place.rest.now) total (omega arith) c.loop-place.invariant in
    rw (same, whole) (rw all at read)
