use Rattle.link_faults.specs.Twins.{IsAlike}
use Rattle.link_faults.proofs.Waiting.{Gains-two}
use Rattle.link_faults.proofs.inbox.Inbox.queue_twins.Goals as goal

pub returns-clause-items : goal.returns-clause-items
returns-clause-items g c =
    rw (← c.self.view_is) (
    let e = c.is_named-in_front.ensures in
    rw (← e) (
    Gains-two (IsAlike g.T.Twin.carries g.T.Twin.fits c.args.item) c.is_named-in_front.result c.self.inside.waiting.items
    c.join.new.waiting.items c.join-2.new.waiting.items c.twin.new.self c.in-Ok.copy
    c.twin.ensures.kept c.in-Ok.ensures.twin c.join.ensures.items c.join-2.ensures.items))
