use Rattle.run_work.proofs.RoundSteps.{AreStill-set, IsKeptStop-set}
use Rattle.run_work.proofs.Settled.{HasStepped-set}
use Rattle.run_work.proofs.settling.Settling.no_memory.Goals as goal

pub invariant_of-self : goal.invariant_of-self
invariant_of-self g c = (HasStepped-set c.self.view_is c.self.invariant c.requires.replica c.index_mut.ensures.value c.no_memory.ensures.on).settling

pub returns-clause-on : goal.returns-clause-on
returns-clause-on g c = (HasStepped-set c.self.view_is c.self.invariant c.requires.replica c.index_mut.ensures.value c.no_memory.ensures.on).on

pub returns-clause-ready : goal.returns-clause-ready
returns-clause-ready g c = (HasStepped-set c.self.view_is c.self.invariant c.requires.replica c.index_mut.ensures.value c.no_memory.ensures.on).ready c.requires.ready

pub returns-clause-still : goal.returns-clause-still
returns-clause-still g c = AreStill-set c.self.view_is c.self.invariant c.requires.replica c.index_mut.ensures.value _ c.no_memory.ensures.made

pub returns-clause-stop : goal.returns-clause-stop
returns-clause-stop g c =
    IsKeptStop-set c.self.view_is c.self.invariant c.requires.replica c.index_mut.ensures.value _ c.index.ensures _ c.no_memory.result (c.no_memory.ensures.stop _)
