use Rattle.std.proofs.Common.{arith, ap, length}
use Rattle.tact_base.proofs.SetupLemmas.{HasCounts-from_IsSetup}
use Rattle.run_work.specs.Settling.{SettlingView}
use Rattle.run_work.proofs.RoundSteps.{HasMadeOne-set, HasSeenSending-set, marked-set, stops-set}
use Rattle.run_work.proofs.Settled.{HasStepped-set}
use Rattle.run_work.proofs.settling.Settling.parcel.Goals as goal

pub invariant_of-self : goal.invariant_of-self
invariant_of-self g c = (HasStepped-set c.self.view_is c.self.invariant c.requires.from c.index_mut.ensures.value c.send.ensures.on).settling

pub returns-clause-on : goal.returns-clause-on
returns-clause-on g c = (HasStepped-set c.self.view_is c.self.invariant c.requires.from c.index_mut.ensures.value c.send.ensures.on).on

pub returns-clause-ready : goal.returns-clause-ready
returns-clause-ready g c = (HasStepped-set c.self.view_is c.self.invariant c.requires.from c.index_mut.ensures.value c.send.ensures.on).ready c.requires.ready

pub returns-clause-made : goal.returns-clause-made
returns-clause-made g c = HasMadeOne-set c.self.view_is c.self.invariant c.requires.from c.index_mut.ensures.value _ c.send.ensures.made

pub returns-clause-sent : goal.returns-clause-sent
returns-clause-sent g c = HasSeenSending-set c.self.view_is c.self.invariant c.requires.from c.index_mut.ensures.value _ c.index.ensures c.args.to c.send.result c.send.ensures.sent

pub returns-clause-none : goal.returns-clause-none
returns-clause-none g c = marked-set c.self.view_is c.self.invariant c.requires.from c.index_mut.ensures.value _ c.send.result c.send.ensures.none

pub returns-clause-stop : goal.returns-clause-stop
returns-clause-stop g c = stops-set c.self.view_is c.self.invariant c.requires.from c.index_mut.ensures.value _ c.index.ensures _ c.send.result c.send.ensures.stop

pub overflow_cast-to : goal.overflow_cast-to
overflow_cast-to g c =
    let counts = HasCounts-from_IsSetup c.self.inside.desk.now.setup c.self.invariant.sound in
    omega (arith, c.requires.to, ap (λ (s : SettlingView). length s.nodes) c.self.view_is, c.self.invariant.nodes_are, counts.replicas_high)
