use Rattle.std.proofs.Common.{List, ap, sym, subst}
use Rattle.run_model.specs.Histories.{IsPrefix}
use Rattle.run_model.specs.declared.entry.Entry.{Entry}
use Rattle.replica_lock.specs.Sessions.{SessionView}
use Rattle.run_work.proofs.Leads.{HasGoneOn-lead, HasSeen-lead, made_by-same}
use Rattle.run_work.proofs.Settled.{HasStayed-same}
use Rattle.run_work.proofs.seat.End.note.Goals as goal

pub returns-clause-on : goal.returns-clause-on
returns-clause-on g c = HasGoneOn-lead _ _ _ c.lead-lead.ensures c.index_mut.ensures.value _ (HasStayed-same _ _ c.note.ensures.session)

pub returns-clause-made : goal.returns-clause-made
returns-clause-made g c = made_by-same c.args.self.now _ _ c.lead-lead.ensures c.index_mut.ensures.value c.note.new.session (ap (λ (s : SessionView). s.made) c.note.ensures.session)

pub returns-clause-seen : goal.returns-clause-seen
returns-clause-seen g c front seen =
    subst (λ (now : List Entry). IsPrefix front now) (sym c.note.ensures.seen)
    (HasSeen-lead c.args.self.now c.lead-lead.result c.index_mut.result.now c.lead-lead.ensures c.index_mut.ensures.value front seen)
