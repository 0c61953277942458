use Rattle.std.proofs.Common.{subst}
use Rattle.tact_base.specs.Setup.{IsSetup}
use Rattle.replica_lock.proofs.Turning.{turn-setup}
use Rattle.replica_lock.proofs.turn.Turn.due.Goals as goal

pub due-requires-clause-sound : goal.due-requires-clause-sound
due-requires-clause-sound g c =
    rw c.deref.ensures (subst IsSetup (turn-setup c.self.inside.node.now c.self.inside.counts c.self.inside.locked.value c.self.invariant.0) c.self.invariant.0.keeps.sound)
