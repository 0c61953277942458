use Rattle.run_work.proofs.RoundSteps.{AreStill-set, HasSeenAt-there}
use Rattle.run_work.proofs.Settled.{HasStepped-set}
use Rattle.run_work.proofs.settling.Settling.note_at.Goals as goal

pub invariant_of-self : goal.invariant_of-self
invariant_of-self g c = (HasStepped-set c.self.view_is c.self.invariant c.requires.replica c.index_mut.ensures.value c.note.ensures.on).settling

pub returns-clause-on : goal.returns-clause-on
returns-clause-on g c = (HasStepped-set c.self.view_is c.self.invariant c.requires.replica c.index_mut.ensures.value c.note.ensures.on).on

pub returns-clause-ready : goal.returns-clause-ready
returns-clause-ready g c = (HasStepped-set c.self.view_is c.self.invariant c.requires.replica c.index_mut.ensures.value c.note.ensures.on).ready c.requires.ready

pub returns-clause-still : goal.returns-clause-still
returns-clause-still g c = AreStill-set c.self.view_is c.self.invariant c.requires.replica c.index_mut.ensures.value _ c.note.ensures.made

pub returns-clause-seen : goal.returns-clause-seen
returns-clause-seen g c front seen = c.note.ensures.seen front (HasSeenAt-there _ c.self.view_is c.index_mut.ensures.value front seen)
