use Rattle.std.proofs.Common.{◌≤◌, length, sym, ◌∙◌}
use Rattle.commit_order.specs.Batches.{first_place}
use Rattle.commit_order.proofs.BatchOrder.{at_end}
use Rattle.commit_order.proofs.ordered.insert_copies.Goals as goal

pub returns-else-place-held-clause-items : goal.returns-else-place-held-clause-items
returns-else-place-held-clause-items c =
    let held = c.args.list.now.items in
    let writes = c.args.writes.now in
    let last : length held ≤ first_place held writes = rw (← c.requires.place, ← c.items-held.ensures) c.if-place-held.false in
    c.append.ensures.items ∙ sym (at_end writes held c.requires.sorted c.requires.held last)
