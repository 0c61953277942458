use Rattle.std.proofs.Common.{ℕ, ◌<◌, List, length, max, sym, ap, ap₂, ◌∙◌, subst}
use Rattle.std.proofs.lemmas.List.FromFn.{length-map-range_with_len}
use Rattle.std.proofs.lemmas.Result.{on_ok_weaker}
use Rattle.run_model.specs.Messages.{message_of}
use Rattle.run_model.specs.declared.entry.Message.{Message}
use Rattle.replica_core.specs.Sending.{first_told, next_message, writes_told}
use Rattle.replica_core.specs.States.{Core, ReplicaState}
use Rattle.replica_core.proofs.SendLemmas.{next_due}
use Rattle.replica_core.proofs.replica.Replica.put_message.Goals as goal

pub returns : goal.returns
returns c =
    let core : Core = c.args.self.now.core in
    let among : core.replica < core.setup.replicas = subst (λ (s : ReplicaState). s.core.replica < s.core.setup.replicas) c.self.view_is c.self.invariant.0.places.among in
    let at = c.max-moment.ensures ∙ ap (λ (s : ReplicaState). max c.args.moment s.core.counts.last) c.self.view_is in
    record {
      due = on_ok_weaker c.put_next_message.result
          (λ is part stands.
          is ∙ ap₂ (λ (m : ℕ) (given : List ℕ). next_message core m c.args.to given) at c.items.ensures
          ∙ next_due part core stands among (max c.args.moment core.counts.last) c.args.to c.args.firsts.now c.requires.to c.requires.other
          ∙ ap (λ (m : ℕ). message_of core.setup core.replica part m c.args.to c.args.firsts.now) (ap (max c.args.moment) stands.counts.last))
          c.put_next_message.ensures;
      sized = on_ok_weaker c.put_next_message.result
          (λ is. ap (λ (m : Message). length m.firsts) is ∙ length-map-range_with_len (first_told core c.args.to c.items.result.now) 0 core.setup.replicas)
          c.put_next_message.ensures;
      told = on_ok_weaker c.put_next_message.result
          (λ is. ap (λ (m : Message). m.writes) is ∙ ap (λ (m : Message). writes_told core m.firsts) (sym is))
          c.put_next_message.ensures;
    }
