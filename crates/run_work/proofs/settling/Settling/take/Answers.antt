use Rattle.std.proofs.lemmas.Result.{on_ok_weaker}
use Rattle.run_work.proofs.RoundSteps.{HasMadeOne-set, HasSeenTaking-set, stops-set}
use Rattle.run_work.proofs.Settled.{HasStepped-set}
use Rattle.run_work.proofs.settling.Settling.take.Goals as goal

pub invariant_of-self : goal.invariant_of-self
invariant_of-self g c = (HasStepped-set c.self.view_is c.self.invariant c.requires.replica c.index_mut.ensures.value c.take.ensures.on).settling

pub returns-clause-on : goal.returns-clause-on
returns-clause-on g c = (HasStepped-set c.self.view_is c.self.invariant c.requires.replica c.index_mut.ensures.value c.take.ensures.on).on

pub returns-clause-ready : goal.returns-clause-ready
returns-clause-ready g c = (HasStepped-set c.self.view_is c.self.invariant c.requires.replica c.index_mut.ensures.value c.take.ensures.on).ready c.requires.ready

pub returns-clause-made : goal.returns-clause-made
returns-clause-made g c = HasMadeOne-set c.self.view_is c.self.invariant c.requires.replica c.index_mut.ensures.value _ c.take.ensures.made

pub returns-clause-taken : goal.returns-clause-taken
returns-clause-taken g c =
    on_ok_weaker c.take.result
    (HasSeenTaking-set c.self.view_is c.self.invariant c.requires.replica c.index_mut.ensures.value _ c.index.ensures c.args.parcel.message)
    c.take.ensures.taken

pub returns-clause-stop : goal.returns-clause-stop
returns-clause-stop g c = stops-set c.self.view_is c.self.invariant c.requires.replica c.index_mut.ensures.value _ c.index.ensures _ c.take.result c.take.ensures.stop
