-- A sale or a cancellation at a replica, from what it keeps: what keeps it away, and what it makes of each part that the
-- replica stands for.
use Rattle.std.specs.Prelude.{◌≡◌, ℕ, ℤ, List, Option}
use Rattle.tact_base.specs.Sums.{net_sum}
use Rattle.split_budget.specs.Budgets.{all_out}
use Rattle.run_model.specs.Histories.{moment_at}
use Rattle.run_model.specs.Replies.{reply_of}
use Rattle.run_model.specs.declared.call.Request.{Request}
use Rattle.run_model.specs.declared.entry.Entry.{Entry}
use Rattle.replica_core.specs.Stands.{GoesOn, Stands}
use Rattle.replica_core.specs.States.{Core}
use Rattle.seat_app.specs.Careful.{IsCarefulEntry}
use Rattle.seat_app.specs.Sales.{call_due, entry_due, sale_of}
use Rattle.seat_app.specs.Seats.{SeatsState, lack_of, over, under}
use Rattle.seat_app.specs.declared.sale.Sale.{Sale}

-- what keeps a change of the sold places away, a sale, and a cancellation
abbrev pub lack_at : SeatsState → Core → ℤ → Option Sale
lack_at seats core change = lack_of seats (net_sum core.writes.seen seats.conit) (all_out core.budgets seats.conit) change

abbrev pub over_at : SeatsState → Core → ℕ → Option Sale
over_at seats core amount = over seats (net_sum core.writes.seen seats.conit) (all_out core.budgets seats.conit) amount

abbrev pub under_at : SeatsState → Core → ℕ → Option Sale
under_at seats core amount = under (net_sum core.writes.seen seats.conit) (all_out core.budgets seats.conit) amount

-- the replica goes on by the call that is due
abbrev pub EntersDue : Core → Core → ℕ → ℕ → Request → Type 0
EntersDue old new handed client asked = GoesOn old new handed (λ part. call_due old.setup old.replica part handed client asked)

-- what the reply in it comes to was told
abbrev pub TellsDue : Core → ℕ → Request → Sale → Type 0
TellsDue old handed asked told =
    (part : List Entry) → Stands part old → told ≡ sale_of (reply_of old.setup old.replica part (moment_at part handed) asked)

-- its entry is careful
abbrev pub IsDueCareful : SeatsState → Core → ℕ → ℕ → Request → Type 0
IsDueCareful seats old handed client asked =
    (part : List Entry) → Stands part old
    → IsCarefulEntry old.setup seats part (entry_due old.setup old.replica part handed client asked)
