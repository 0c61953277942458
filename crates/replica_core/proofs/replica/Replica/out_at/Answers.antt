use Rattle.std.proofs.Common.{◌≡◌, ◌≤◌, ◌<◌, cond, sym, ap, subst, ◌∙◌, arith}
use Rattle.std.proofs.lemmas.Bool.{eq-eqb, ne_eqb}
use Rattle.tact_base.proofs.SetupLemmas.{HasRow-from_IsSetup}
use Rattle.tact_base.specs.declared.limits.TheConstants.{ALPHA_MAX}
use Rattle.split_budget.specs.Budgets.{all_out, out}
use Rattle.replica_core.specs.States.{ReplicaState}
use Rattle.replica_core.proofs.replica.Replica.out_at.Goals as goal

pub returns-else-holder-self-clause-all : goal.returns-else-holder-self-clause-all
returns-else-holder-self-clause-all c = λ other.
    let keeps = c.out.ensures.kept in
    let within : c.args.conit < c.self.inside.budgets.setup.conits =
    omega (arith, c.requires.conit, ap (λ (s : ReplicaState). s.core.setup.conits) c.self.view_is, ap (λ s. s.conits) c.self.invariant.0.budgets.setup) in
    subst (λ (s : ReplicaState). all_out s.core.budgets c.args.conit ≤ ALPHA_MAX) c.self.view_is
    (omega (arith, keeps.home c.args.conit within, (HasRow-from_IsSetup c.self.inside.budgets.setup keeps.setup c.self.inside.budgets.replica c.args.conit keeps.replica within).alpha))

pub returns-then-holder-self-clause-out : goal.returns-then-holder-self-clause-out
returns-then-holder-self-clause-out c =
    let core = c.args.self.now.core in
    let same : c.args.holder ≡ core.replica = c.if-holder-self.true ∙ ap (λ (s : ReplicaState). s.core.replica) c.self.view_is in
    sym (ap (λ b. cond b 0 (out core.budgets c.args.holder c.args.conit)) (eq-eqb c.args.holder core.replica same))

pub returns-then-holder-self-clause-all : goal.returns-then-holder-self-clause-all
returns-then-holder-self-clause-all c = λ other. absurd (other (c.if-holder-self.true ∙ ap (λ (s : ReplicaState). s.core.replica) c.self.view_is))

pub returns-else-holder-self-clause-out : goal.returns-else-holder-self-clause-out
returns-else-holder-self-clause-out c =
    let core = c.args.self.now.core in
    let replica_is : c.self.inside.replica ≡ core.replica = ap (λ (s : ReplicaState). s.core.replica) c.self.view_is in
    c.out.ensures.out ∙ ap (λ (s : ReplicaState). out s.core.budgets c.args.holder c.args.conit) c.self.view_is
    ∙ sym (ap (λ b. cond b 0 (out core.budgets c.args.holder c.args.conit)) (ne_eqb c.args.holder core.replica (λ same. c.if-holder-self.false (same ∙ sym replica_is))))
