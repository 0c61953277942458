use Rattle.std.proofs.Common.{◌≡◌, ◌+◌, length, get_or, set, refl, sym, ap, ◌∙◌, subst}
use Rattle.tact_base.specs.Setup.{Setup}
use Rattle.run_model.specs.Replies.{refused_as}
use Rattle.run_model.specs.declared.call.Reply.TheVariants as reply
use Rattle.run_model.specs.declared.call.Request.TheVariants as request
use Rattle.replica_core.specs.Calling.{reserve_refusal}
use Rattle.replica_core.specs.States.{Core, IsKept, ReplicaState, entered, with_call}
use Rattle.replica_core.proofs.Answering.{Answers-is, reserve_refused, granted}
use Rattle.replica_core.proofs.replica.Replica.answer_reserve.Goals as goal

pub returns-in-Some-clause-answers : goal.returns-in-Some-clause-answers
returns-in-Some-clause-answers c =
    let old = c.args.self.now.core in
    let sized : length old.budgets.reserved ≡ old.setup.conits =
    subst (λ (s : ReplicaState). length s.core.budgets.reserved ≡ s.core.setup.conits) c.self.view_is
    (c.test_reserve.ensures.kept.reserved ∙ ap (λ (s : Setup). s.conits) c.self.invariant.0.budgets.setup) in
    let kept : IsKept old = subst (λ (s : ReplicaState). IsKept s.core) c.self.view_is c.self.invariant.0 in
    let refusal : reserve_refusal old.budgets c.args.conit c.args.amount ≡ c.refused_as.result =
    sym (c.refused_as.ensures ∙ ap (refused_as c.args.conit) c.test_reserve.ensures.answer ∙ ap (λ (s : ReplicaState). reserve_refusal s.core.budgets c.args.conit c.args.amount) c.self.view_is) in
    Answers-is old (entered (with_call old c.args.client) c.args.moment) c.close_call.new.self.core c.args.moment c.args.client
    (request.Reserve c.args.conit c.args.amount) c.in-Some.refusal c.in-Some.refusal
    (ap (λ (s : ReplicaState). s.core) c.close_call.ensures) refl
    (reserve_refused old kept c.args.moment c.args.client c.args.conit c.args.amount sized c.requires c.in-Some.refusal (refusal ∙ c.in-Some.is))

pub returns-clause-answers : goal.returns-clause-answers
returns-clause-answers c =
    let old = c.args.self.now.core in
    let sized : length old.budgets.reserved ≡ old.setup.conits =
    subst (λ (s : ReplicaState). length s.core.budgets.reserved ≡ s.core.setup.conits) c.self.view_is
    (c.test_reserve.ensures.kept.reserved ∙ ap (λ (s : Setup). s.conits) c.self.invariant.0.budgets.setup) in
    let kept : IsKept old = subst (λ (s : ReplicaState). IsKept s.core) c.self.view_is c.self.invariant.0 in
    let refusal : reserve_refusal old.budgets c.args.conit c.args.amount ≡ c.refused_as.result =
    sym (c.refused_as.ensures ∙ ap (refused_as c.args.conit) c.test_reserve.ensures.answer ∙ ap (λ (s : ReplicaState). reserve_refusal s.core.budgets c.args.conit c.args.amount) c.self.view_is) in
    let left : Core → Core =
    λ (core : Core). entered (record (with_call core c.args.client)
    { budgets = record core.budgets { reserved = set core.budgets.reserved c.args.conit (get_or core.budgets.reserved c.args.conit 0 + c.args.amount) } }) c.args.moment in
    Answers-is old (left old)
    c.close_call-2.new.self.core c.args.moment c.args.client (request.Reserve c.args.conit c.args.amount) reply.Granted reply.Granted
    (rw (c.close_call-2.ensures, c.hold.ensures) (ap (λ (s : ReplicaState). left s.core) c.self.view_is)) refl
    (granted old kept c.args.moment c.args.client c.args.conit c.args.amount sized c.requires (refusal ∙ c.in_default.is))
