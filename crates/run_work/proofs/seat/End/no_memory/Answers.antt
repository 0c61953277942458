use Rattle.std.proofs.Common.{ap, sym, subst}
use Rattle.locked_replica.specs.declared.fault.RestartFault.{RestartFault}
use Rattle.replica_lock.specs.Sessions.{SessionView}
use Rattle.steady_node.specs.Endings.{IsCause}
use Rattle.run_work.proofs.Leads.{HasGoneOn-lead, IsKeptStop-lead, made_by-same}
use Rattle.run_work.proofs.Settled.{HasStayed-same}
use Rattle.run_work.proofs.seat.End.no_memory.Goals as goal

pub returns-clause-on : goal.returns-clause-on
returns-clause-on g c = HasGoneOn-lead _ _ _ c.lead-lead.ensures c.index_mut.ensures.value _ (HasStayed-same _ _ c.stop.ensures.session)

pub returns-clause-made : goal.returns-clause-made
returns-clause-made g c = made_by-same c.args.self.now _ _ c.lead-lead.ensures c.index_mut.ensures.value c.stop.new.session (ap (λ (s : SessionView). s.made) c.stop.ensures.session)

pub returns-clause-stop : goal.returns-clause-stop
returns-clause-stop g c tells =
    IsKeptStop-lead c.args.self.now _ _ c.lead-lead.ensures c.index_mut.ensures.value tells c.args.node.now.desk c.stop.new.session c.stop.result
    (c.stop.ensures.stop tells
    (subst (λ (told : RestartFault). IsCause tells c.index_mut.result.now told) (sym c.no_memory.ensures.fault) tt, c.no_memory.ensures.lost))
