use Rattle.std.proofs.Common.{◌+◌, arith, drop, map, take}
use Rattle.std.proofs.lemmas.List.{length-append}
use Rattle.serde_json.specs.View.{view}
use Rattle.work_load.proofs.EntryLemmas.{entries-ok, entries-fails, each_more, one_on, parted}
use Rattle.work_load.proofs.entries.entries.Goals as goal

pub returns-in-Err-clause-read : goal.returns-in-Err-clause-read
returns-in-Err-clause-read g c =
    let place = c.loop-place.place in
    let values = c.args.values.now in
    let fails = entries-fails c.args.first (g.T.Entry.read_after c.args.counts) (map view (take place values)) (view c.index-values-place.result)
    (map view (drop (place + 1) values)) c.loop-place.list c.in-Err.fault c.loop-place.invariant.0 (rw c.items.ensures at c.in-Err.ensures.read) in
    rw (c.placed.ensures, parted values place c.index-values-place.result (omega arith) c.index-values-place.is) (rw c.loop-place.invariant.1 at fails)

pub loop-place-preserved : goal.loop-place-preserved
loop-place-preserved g c =
    let place = c.loop-place.place in
    let values = c.args.values.now in
    let list = c.loop-place.list in
    let value = c.index-values-place.result in
    let more = c.in_ok-push-in-Ok.ensures.ok in
    let read = entries-ok c.args.first (g.T.Entry.read_after c.args.counts) (map view (take place values)) (view value) list c.in-Ok.entry
    c.loop-place.invariant.0 (rw c.items.ensures at c.in-Ok.ensures.read) in
    let fits = each_more (g.T.Entry.fits c.args.counts) list c.in-Ok.entry c.loop-place.invariant.2 (rw c.items.ensures at c.in-Ok.ensures.within) in (
      rw (one_on values place value (omega arith) c.index-values-place.is, more) read,
      rw (more, length-append) (omega (arith, c.loop-place.invariant.1)),
      rw more fits,
    )
