use Rattle.std.proofs.Common.{◌≡◌, ℕ, max, List, ap, ap₂, ◌∙◌, subst}
use Rattle.tact_base.specs.declared.conit_list.Need.{Need}
use Rattle.run_model.specs.declared.call.Request.TheVariants as request
use Rattle.replica_core.specs.Reading.{read_reply}
use Rattle.replica_core.specs.States.{IsKept, ReplicaState, entered, with_call}
use Rattle.replica_core.proofs.Answering.{Answers-is, read_answered}
use Rattle.replica_core.proofs.replica.Replica.answer_read.Goals as goal

pub returns-clause-answers : goal.returns-clause-answers
returns-clause-answers c =
    let old = c.args.self.now.core in
    let needs = c.args.needs.now in
    let kept : IsKept old = subst (λ (s : ReplicaState). IsKept s.core) c.read_at.view_is c.read_at.invariant.0 in
    let at : c.max.result ≡ max c.args.moment old.counts.last = c.max.ensures ∙ ap (λ (s : ReplicaState). max c.args.moment s.core.counts.last) c.read_at.view_is in
    Answers-is old (entered (with_call old c.args.client) c.args.moment) c.close_call.new.self.core c.args.moment c.args.client (request.Read c.args.key needs)
    (read_reply old (max c.args.moment old.counts.last) c.args.key needs) c.read_at-reply.result
    (ap (λ (s : ReplicaState). s.core) c.close_call.ensures
    ∙ ap (λ (s : ReplicaState). entered (with_call s.core c.args.client) c.args.moment) c.read_at-reply.ensures.same)
    (c.read_at-reply.ensures.reply ∙ ap₂ (λ (moment : ℕ) (listed : List Need). read_reply old moment c.args.key listed) at c.items.ensures.items)
    (read_answered old kept c.args.moment c.args.client c.args.key needs c.requires)
