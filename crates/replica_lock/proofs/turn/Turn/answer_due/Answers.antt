use Rattle.std.proofs.Common.{subst}
use Rattle.tact_base.specs.Setup.{IsSetup}
use Rattle.replica_lock.proofs.Turning.{turn-setup}
use Rattle.replica_lock.proofs.turn.Turn.answer_due.Goals as goal

pub answer_due-requires : goal.answer_due-requires
answer_due-requires g c =
    record { sound = rw c.deref.ensures (subst IsSetup (turn-setup c.self.inside.node.now c.self.inside.counts c.self.inside.locked.value c.self.invariant.0) c.self.invariant.0.keeps.sound) }

pub returns : goal.returns
returns g c = rw (← c.self.view_is) (rw c.deref.ensures at c.answer_due.ensures)
