use Rattle.std.proofs.Common.{ap}
use Rattle.replica_lock.specs.Sessions.{SessionView}
use Rattle.run_work.proofs.Leads.{HasGoneOn-lead, HasSeen-set, lead-of, made_by-same}
use Rattle.run_work.proofs.Settled.{HasStayed-heard}
use Rattle.run_work.proofs.seat.End.hear.Goals as goal

pub returns : goal.returns
returns g c =
    let end = c.args.self.now in
    let place = c.lead-lead.result in
    let before = c.index_mut.result.now in
    let after = c.hear.new.session in
    let there = c.index_mut.ensures.value in
    let of = lead-of end place before c.lead-lead.ensures there c.args.node.now c.requires.end in
    let stayed = HasStayed-heard before after c.args.node.now.desk.setup of.certain c.hear.ensures.heard in
    record {
      on = HasGoneOn-lead end place before c.lead-lead.ensures there after stayed;
      made = made_by-same end place before c.lead-lead.ensures there after (ap (λ (s : SessionView). s.made) c.hear.ensures.heard.value);
      told = HasSeen-set end place before c.lead-lead.ensures there after c.args.note.seen stayed c.hear.ensures.note;
    }
