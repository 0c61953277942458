use Rattle.std.proofs.Common.{◌≡◌, ℕ, max, List, refl, ap, ap₂, ◌∙◌, subst}
use Rattle.tact_base.specs.declared.conit_list.Need.{Need}
use Rattle.run_model.specs.declared.call.Request.TheVariants as request
use Rattle.replica_core.specs.Reading.{read_reply}
use Rattle.replica_core.specs.Replying.{write_reply}
use Rattle.replica_core.specs.States.{Core, IsKept, ReplicaState}
use Rattle.replica_core.proofs.Replies.{due_reply}
use Rattle.replica_core.proofs.replica.Replica.reply.Goals as goal

pub returns-in-Write : goal.returns-in-Write
returns-in-Write c =
    let core : Core = c.args.self.now.core in
    let kept : IsKept core = subst (λ (s : ReplicaState). IsKept s.core) c.self.view_is c.self.invariant.0 in
    record {
      due = due_reply core kept c.args.moment c.args.request.now (request.Write c.in-Write.weights c.in-Write.op) c.in-Write.is c.requires.in_range
          c.write_reply.result (c.write_reply.ensures ∙ ap (write_reply core) c.items.ensures.items);
      same = refl;
    }

pub returns-in-Held : goal.returns-in-Held
returns-in-Held c =
    let core : Core = c.args.self.now.core in
    let kept : IsKept core = subst (λ (s : ReplicaState). IsKept s.core) c.self.view_is c.self.invariant.0 in
    record {
      due = due_reply core kept c.args.moment c.args.request.now (request.Held c.in-Held.weight c.in-Held.op) c.in-Held.is c.requires.in_range
          c.held_reply.result c.held_reply.ensures;
      same = refl;
    }

pub returns-in-Reserve : goal.returns-in-Reserve
returns-in-Reserve c =
    let core : Core = c.args.self.now.core in
    let kept : IsKept core = subst (λ (s : ReplicaState). IsKept s.core) c.self.view_is c.self.invariant.0 in
    record {
      due = due_reply core kept c.args.moment c.args.request.now (request.Reserve c.in-Reserve.conit c.in-Reserve.amount) c.in-Reserve.is c.requires.in_range
          c.reserve_reply.result c.reserve_reply.ensures;
      same = refl;
    }

pub returns-in-Read : goal.returns-in-Read
returns-in-Read c =
    let core : Core = c.args.self.now.core in
    let kept : IsKept core = subst (λ (s : ReplicaState). IsKept s.core) c.self.view_is c.self.invariant.0 in
    let at : c.max-at.result ≡ max c.args.moment core.counts.last = c.max-at.ensures ∙ ap (λ (s : ReplicaState). max c.args.moment s.core.counts.last) c.self.view_is in
    record {
      due = due_reply core kept c.args.moment c.args.request.now (request.Read c.in-Read.key c.in-Read.needs) c.in-Read.is c.requires.in_range
          c.read_at.result
          (c.read_at.ensures.reply ∙ ap₂ (λ (moment : ℕ) (listed : List Need). read_reply core moment c.in-Read.key listed) at c.items-in-Read.ensures.items);
      same = c.read_at.ensures.same;
    }
