use Rattle.std.proofs.Common.{◌≡◌, sym, ◌∙◌, subst}
use Rattle.locked_replica.specs.Loans.{IsLoanInRange, most_of}
use Rattle.locked_replica.specs.declared.loan.Loan.{Loan}
use Rattle.locked_replica.proofs.LoanActs.{free-told, home-told}
use Rattle.locked_replica.proofs.lending.most_of.Goals as goal

pub returns-in-Out : goal.returns-in-Out
returns-in-Out c = λ part stands.
    let core = c.args.replica.now.core in
    let asked = subst (IsLoanInRange core.setup core.replica) c.in-Out.is c.requires in
    let told = home-told core c.budgets.result.now c.budgets.ensures.budgets c.budgets.ensures.setup c.budgets.ensures.replica part stands c.in-Out.conit asked.2 in
    subst (λ (loan : Loan). c.home.result ≡ most_of core.setup core.replica part loan) (sym c.in-Out.is) (c.home.ensures.home ∙ told)

pub returns-in-Back : goal.returns-in-Back
returns-in-Back c = λ part stands.
    let core = c.args.replica.now.core in
    let asked = subst (IsLoanInRange core.setup core.replica) c.in-Back.is c.requires in
    let budgets = c.budgets-in-Back in
    let told = free-told core budgets.result.now budgets.ensures.budgets budgets.ensures.setup budgets.ensures.replica part stands c.in-Back.conit asked.2 c.in-Back.owner asked.0 asked.1 in
    subst (λ (loan : Loan). c.free.result ≡ most_of core.setup core.replica part loan) (sym c.in-Back.is) (c.free.ensures.free ∙ told)
