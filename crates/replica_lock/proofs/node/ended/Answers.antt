use Rattle.std.proofs.Common.{ap, ◌∙◌, subst}
use Rattle.locked_replica.specs.Locks.{IsLocked, LockedView}
use Rattle.replica_lock.proofs.Ending.{leaves_journal}
use Rattle.replica_lock.proofs.node.ended.Goals as goal

pub returns-clause-next : goal.returns-clause-next
returns-clause-next g c =
    let was = c.into_parts-locked.ensures in
    let parts = c.into_parts-clerk.ensures in
    leaves_journal c.args.kept.state c.args.kept.journal c.into_parts-clerk.result.0 c.into_parts-clerk.result.1.items g.J.Journal.tells (g.J.Journal.pieces c.into_parts-locked.result.1) (g.J.Journal.faults c.into_parts-locked.result.1)
    (subst IsLocked was.locked parts.kept) was.journaled
    (parts.clerk ∙ ap (λ (v : LockedView). v.clerk) was.locked) (parts.stored ∙ ap (λ (v : LockedView). v.stored) was.locked)
    was.tells was.pieces was.faults
