use Rattle.std.proofs.Common.{◌≡◌, ◌≤◌, ◌<◌, sym, ap, ◌∙◌, subst, ⊎_elim, arith}
use Rattle.std.proofs.lemmas.Bool.{cases_eq}
use Rattle.tact_base.specs.declared.limits.TheConstants.{ALPHA_MAX}
use Rattle.split_budget.specs.Budgets.{all_out}
use Rattle.access_gate.specs.Verdicts.{AreOuts}
use Rattle.replica_core.specs.Reading.{out_at}
use Rattle.replica_core.specs.States.{ReplicaState, HasBudgets}
use Rattle.replica_core.proofs.FilledRows.{filled_front}
use Rattle.replica_core.proofs.Reading.{AreOuts-kept}
use Rattle.replica_core.proofs.replica.Replica.outs.Goals as goal

pub returns-clause-outs : goal.returns-clause-outs
returns-clause-outs c =
    let core = c.args.self.now.core in
    let outs = c.loop-holder.outs in
    let replicas = ap (λ (s : ReplicaState). s.core.setup.replicas) c.self.view_is in
    c.new.ensures
    ∙ filled_front (out_at core c.args.conit) outs c.replicas.result core.setup.replicas (c.replicas.ensures.count ∙ replicas)
    (omega (arith, c.loop-holder.invariant.sized, c.replicas.ensures.high))
    (λ k within. c.loop-holder.invariant.filled k (omega (arith, within, c.loop-holder-test.false, c.replicas-holder-end.ensures.count, replicas)))

pub returns-clause-all : goal.returns-clause-all
returns-clause-all c =
    let core = c.args.self.now.core in
    let conit = c.args.conit in
    let replicas = ap (λ (s : ReplicaState). s.core.setup.replicas) c.self.view_is in
    let budgets : HasBudgets core = subst (λ (s : ReplicaState). HasBudgets s.core) c.self.view_is c.self.invariant.0.budgets in
    let among : core.replica < core.setup.replicas = subst (λ (s : ReplicaState). s.core.replica < s.core.setup.replicas) c.self.view_is c.self.invariant.0.places.among in
    let reached : core.setup.replicas ≤ c.loop-holder.holder = omega (arith, c.loop-holder-test.false, c.replicas-holder-end.ensures.count, replicas) in
    let many : 2 ≤ core.setup.replicas = omega (arith, c.replicas.ensures.low, c.replicas.ensures.count, replicas) in
    let few : all_out core.budgets conit ≤ ALPHA_MAX =
    ⊎_elim
    (λ (first : core.replica ≡ 0). c.loop-holder.invariant.few 1 (omega (arith, reached, many)) (λ same. absurd (omega (arith, same, first))))
    (λ (other : core.replica ≡ 0 → ⊥). c.loop-holder.invariant.few 0 (omega (arith, reached, many)) (λ same. other (sym same)))
    (cases_eq core.replica 0) in
    subst (AreOuts core.setup.replicas) (sym (returns-clause-outs c)) (AreOuts-kept core budgets among conit few)
