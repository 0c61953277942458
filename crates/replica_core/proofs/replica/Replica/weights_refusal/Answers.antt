use Rattle.std.proofs.Common.{pos, get_or, sym, ap, ◌∙◌}
use Rattle.tact_base.specs.declared.conit_list.Weight.{Weight}
use Rattle.run_model.specs.Replies.{refused_as}
use Rattle.replica_core.specs.Calling.{refusal_of}
use Rattle.replica_core.specs.States.{ReplicaState}
use Rattle.replica_core.proofs.FirstRefusals.{first_next, first_later}
use Rattle.replica_core.proofs.BudgetRoom.{weight_answer-room}
use Rattle.replica_core.proofs.replica.Replica.weights_refusal.Goals as goal

pub returns-then-is_some-clause-refusal : goal.returns-then-is_some-clause-refusal
returns-then-is_some-clause-refusal c =
    let none : Weight = record { conit = 0; nweight = pos 0; oweight = 0 } in
    let weight = get_or c.args.weights.now c.loop-weight.weight-index none in
    sym (c.loop-weight.invariant
    ∙ first_next (refusal_of c.args.self.now.core.budgets) c.args.weights.now c.loop-weight.weight-index none c.loop-weight-test.true c.refused_as-refusal.result
    (c.refused_as-refusal.ensures
    ∙ ap (refused_as weight.conit) (c.test.ensures.answer ∙ sym (weight_answer-room c.self.inside.budgets 0 weight))
    ∙ ap (λ (s : ReplicaState). refusal_of s.core.budgets weight) c.self.view_is)
    (sym c.is_some.ensures ∙ c.if-is_some.true))

pub loop-weight-preserved : goal.loop-weight-preserved
loop-weight-preserved c =
    let none : Weight = record { conit = 0; nweight = pos 0; oweight = 0 } in
    let weight = get_or c.args.weights.now c.loop-weight.weight-index none in
    c.loop-weight.invariant
    ∙ first_later (refusal_of c.args.self.now.core.budgets) c.args.weights.now c.loop-weight.weight-index none c.loop-weight-test.true c.refused_as-refusal.result
    (c.refused_as-refusal.ensures
    ∙ ap (refused_as weight.conit) (c.test.ensures.answer ∙ sym (weight_answer-room c.self.inside.budgets 0 weight))
    ∙ ap (λ (s : ReplicaState). refusal_of s.core.budgets weight) c.self.view_is)
    (sym c.is_some.ensures ∙ c.if-is_some.false)
