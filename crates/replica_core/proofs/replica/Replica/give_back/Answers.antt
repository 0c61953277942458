use Rattle.std.proofs.Common.{ℕ, ◌≤◌, refl, sym, ap, subst, arith}
use Rattle.run_model.specs.declared.entry.Act.TheVariants as act
use Rattle.split_budget.specs.Budgets.{free}
use Rattle.replica_core.specs.Stands.{Stands, with_act}
use Rattle.replica_core.specs.States.{ReplicaState}
use Rattle.replica_core.proofs.Loans.{Stands-returned}
use Rattle.replica_core.proofs.replica.Replica.give_back.Goals as goal

pub returns-clause-goes_on : goal.returns-clause-goes_on
returns-clause-goes_on c =
    let old = c.args.self.now.core in
    let may = c.in_ok-may_move_loans.ensures in
    let is_free : c.args.amount ≤ free old.budgets c.args.owner c.args.conit = omega (arith, c.if-amount-free.false, c.free-free.ensures.free.0) in
    λ part stands.
    subst (Stands (with_act old.replica part c.args.moment (act.Back c.args.owner c.args.conit c.args.amount))) (sym (ap (λ (s : ReplicaState). s.core) c.enter_return.ensures))
    (Stands-returned part old stands may.ok may.kept.places may.kept.budgets c.args.moment c.requires.moment c.args.owner c.args.conit c.args.amount c.requires.owner
    c.requires.other c.requires.conit c.requires.amount is_free c.free-free.ensures.places)

pub returns-clause-same : goal.returns-clause-same
returns-clause-same c = (ap (λ (s : ReplicaState). s.core.setup) c.enter_return.ensures, ap (λ (s : ReplicaState). s.core.replica) c.enter_return.ensures)

pub returns-clause-spare : goal.returns-clause-spare
returns-clause-spare c = ap (λ (s : ReplicaState). s.spare) c.enter_return.ensures

pub returns-clause-may : goal.returns-clause-may
returns-clause-may c =
    let free = c.free-free.ensures.free in
    let within : c.args.amount ≤ c.free-free.result = c.if-amount-free.false in
    (c.in_ok-may_move_loans.ensures.ok, subst (λ (n : ℕ). c.args.amount ≤ n) free.0 within, λ part stands. subst (λ (n : ℕ). c.args.amount ≤ n) (free.1 part stands) within)

pub returns-then-amount-free-clause-fault : goal.returns-then-amount-free-clause-fault
returns-then-amount-free-clause-fault c = (c.in_ok-may_move_loans.ensures.ok, refl, c.if-amount-free.true, c.free-free.ensures.free)
