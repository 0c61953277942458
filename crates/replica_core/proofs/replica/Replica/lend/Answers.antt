use Rattle.std.proofs.Common.{ℕ, ◌≤◌, refl, sym, ap, subst, arith}
use Rattle.run_model.specs.declared.entry.Act.TheVariants as act
use Rattle.split_budget.specs.Budgets.{home}
use Rattle.replica_core.specs.Stands.{Stands, with_act}
use Rattle.replica_core.specs.States.{ReplicaState}
use Rattle.replica_core.proofs.Loans.{Stands-lent}
use Rattle.replica_core.proofs.replica.Replica.lend.Goals as goal

pub returns-clause-goes_on : goal.returns-clause-goes_on
returns-clause-goes_on c =
    let old = c.args.self.now.core in
    let may = c.in_ok-may_move_loans.ensures in
    let at_home : c.args.amount ≤ home old.budgets c.args.conit = omega (arith, c.if-amount-home.false, c.home-home.ensures.home.0) in
    λ part stands.
    subst (Stands (with_act old.replica part c.args.moment (act.Lend c.args.holder c.args.conit c.args.amount))) (sym (ap (λ (s : ReplicaState). s.core) c.enter_loan.ensures))
    (Stands-lent part old stands may.ok may.kept.places may.kept.budgets c.args.moment c.requires.moment c.args.holder c.args.conit c.args.amount c.requires.holder
    c.requires.other c.requires.conit c.requires.amount at_home c.home-home.ensures.places)

pub returns-clause-same : goal.returns-clause-same
returns-clause-same c = (ap (λ (s : ReplicaState). s.core.setup) c.enter_loan.ensures, ap (λ (s : ReplicaState). s.core.replica) c.enter_loan.ensures)

pub returns-clause-spare : goal.returns-clause-spare
returns-clause-spare c = ap (λ (s : ReplicaState). s.spare) c.enter_loan.ensures

pub returns-clause-may : goal.returns-clause-may
returns-clause-may c =
    let home = c.home-home.ensures.home in
    let within : c.args.amount ≤ c.home-home.result = c.if-amount-home.false in
    (c.in_ok-may_move_loans.ensures.ok, subst (λ (n : ℕ). c.args.amount ≤ n) home.0 within, λ part stands. subst (λ (n : ℕ). c.args.amount ≤ n) (home.1 part stands) within)

pub returns-then-amount-home-clause-fault : goal.returns-then-amount-home-clause-fault
returns-then-amount-home-clause-fault c = (c.in_ok-may_move_loans.ensures.ok, refl, c.if-amount-home.true, c.home-home.ensures.home)
