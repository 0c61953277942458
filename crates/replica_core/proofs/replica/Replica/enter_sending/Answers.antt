use Rattle.std.proofs.Common.{◌≡◌, ℕ, max, sym, ap, ◌∙◌, subst}
use Rattle.run_model.specs.declared.entry.Act.TheVariants as act
use Rattle.run_model.specs.declared.entry.Message.{Message}
use Rattle.replica_core.specs.States.{Core, IsKept, ReplicaState, entered, with_sent}
use Rattle.replica_core.specs.Sending.{next_message}
use Rattle.replica_core.specs.Stands.{Stands, with_act}
use Rattle.replica_core.proofs.SendLemmas.{sent_due, Stands-sent}
use Rattle.replica_core.proofs.replica.Replica.enter_sending.Goals as goal

pub returns-clause-goes_on : goal.returns-clause-goes_on
returns-clause-goes_on c =
    let old = c.args.self.now.core in
    let kept : IsKept old = subst (λ (s : ReplicaState). IsKept s.core) c.self.view_is c.self.invariant.0 in
    let inside : Core = record {
      setup = c.self.inside.config;
      replica = c.self.inside.replica;
      writes = record {
        bases = c.self.inside.logs.bases;
        logs = c.self.inside.logs.logs;
        covers = c.self.inside.vector;
        known = c.self.inside.known.items;
        seen = c.self.inside.seen.writes;
        dropped = c.self.inside.seen.dropped;
        point = c.self.inside.seen.point;
        clock = c.self.inside.clock;
      };
      budgets = record c.self.inside.budgets { room = 0 };
      counts = record { calls = c.self.inside.calls.items; sends = c.self.inside.sends; count = c.self.inside.count; last = c.self.inside.last };
    } in
    let reached : c.enter.new.self.core ≡ entered (with_sent old) c.args.moment =
    ap (λ (s : ReplicaState). s.core) c.enter.ensures
    ∙ ap (λ (n : ℕ). let sent : Core = record inside { counts = record inside.counts { sends = n } } in entered sent c.args.moment) c.saturating_add-self-inside.ensures
    ∙ ap (λ (s : ReplicaState). entered (with_sent s.core) c.args.moment) c.self.view_is in
    λ part stands.
    let told : Message = next_message old (max c.args.moment old.counts.last) c.args.to c.args.firsts.now in
    let same : told ≡ c.args.message.now =
    sent_due part old stands kept.setup c.requires.free kept.places c.args.moment c.requires.moment c.args.to c.requires.to c.requires.other c.args.firsts.now
    ∙ sym (c.requires.due part stands) in
    subst (λ (m : Message). Stands (with_act old.replica part c.args.moment (act.Send m)) c.enter.new.self.core) same
    (subst (Stands (with_act old.replica part c.args.moment (act.Send told))) (sym reached)
    (Stands-sent part old stands kept.setup c.requires.free kept.places c.args.moment c.requires.moment c.args.to c.requires.to c.requires.other c.args.firsts.now))
