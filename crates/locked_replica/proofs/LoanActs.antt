-- Loans as acts, what they take at most, and why they are refused.
use Rattle.std.proofs.Common.{◌≡◌, ◌≢◌, ℕ, ◌<◌, List, subst}
use Rattle.run_model.specs.Loans as model
use Rattle.run_model.specs.Runs.{WasSent}
use Rattle.run_model.specs.declared.entry.Entry.{Entry}
use Rattle.run_promises.proofs.PartSound.{PartSound-part}
use Rattle.split_budget.specs.Budgets.{BudgetState, free, home}
use Rattle.replica_core.proofs.BudgetViews.{free-part, home-part}
use Rattle.replica_core.specs.Stands.{BudgetsStand, Stands}
use Rattle.replica_core.specs.States.{Core}
use Rattle.locked_replica.specs.Loans.{act_of}
use Rattle.locked_replica.specs.declared.loan.Loan.{Loan}
use Rattle.locked_replica.specs.declared.loan.Loan.TheVariants as loan
use Rattle.locked_replica.proofs.Making.{IsQuietAct, quiet-back, quiet-lend}

-- a loan is no call, and neither reserves nor uses anything; nor does it take a message
pub quiet-loan : (asked : Loan) → IsQuietAct (act_of asked)
quiet-loan (loan.Out holder conit amount) = quiet-lend holder conit amount
quiet-loan (loan.Back owner conit amount) = quiet-back owner conit amount

pub loan-sent : (seen : List Entry) (asked : Loan) → WasSent seen (act_of asked)
loan-sent seen (loan.Out holder conit amount) = tt
loan-sent seen (loan.Back owner conit amount) = tt

-- what budgets tell that are a replica's but for their room
module _ (core : Core) (budgets : BudgetState) (is : core.budgets ≡ record budgets { room = 0 }) (setup : budgets.setup ≡ core.setup) (replica : budgets.replica ≡ core.replica)
    (part : List Entry) (stands : Stands part core) (conit : ℕ) (here : conit < core.setup.conits) where
  stand : BudgetsStand core.setup core.replica part (record budgets { room = 0 })
  stand = subst (BudgetsStand core.setup core.replica part) is stands.budgets

  pub home-told : home budgets conit ≡ model.home core.setup core.replica part conit
  home-told = home-part core.setup core.replica part (record budgets { room = 0 }) stand setup replica conit here

  pub free-told : (owner : ℕ) → owner < core.setup.replicas → owner ≢ core.replica → free budgets owner conit ≡ model.free core.setup core.replica part owner conit
  free-told owner among other =
      free-part core.setup core.replica part (record budgets { room = 0 }) stand setup replica owner conit among other
      (PartSound-part core.setup core.replica part stands.is_part).in_order here
