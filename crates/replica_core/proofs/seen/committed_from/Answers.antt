use Rattle.std.proofs.Common.{drop, ap, ◌∙◌, arith}
use Rattle.std.proofs.lemmas.List.{length-drop, take_all, drop-drop}
use Rattle.replica_core.proofs.seen.committed_from.Goals as goal

pub returns : goal.returns
returns c =
    let place = c.args.place in
    let held = c.committed.result.now in
    take_all _ (drop place held) (omega (arith, length-drop place held))
    ∙ ap (drop place) c.committed.ensures.committed
    ∙ drop-drop place c.args.ordered.now.dropped _
