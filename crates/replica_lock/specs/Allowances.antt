-- What contracts see of allowances.
use Rattle.std.specs.Prelude.{◌≡◌, ℕ, ◌-◌, ◌<◌, Option, slice_index}
use Rattle.atomic_table.specs.Seated.{TableId}
use Rattle.weight_ledger.specs.Seen.{TallyView}
use Rattle.locked_replica.specs.declared.fault.NodeFault.{NodeFault}
use Rattle.locked_replica.specs.declared.fault.NodeFault.TheVariants as fault
use Rattle.replica_lock.specs.Ledgers.{amount_in}
use Rattle.replica_lock.specs.Sessions.{NodeView}

-- which node it is of (its cell, its replica), on which conit it is, and how much it has
pub record AllowanceView : Type 0 where
  pub cell : TableId
  pub replica : ℕ
  pub conit : ℕ
  pub amount : ℕ

-- an amount on a conit of a node
abbrev pub allowance_of : NodeView → ℕ → ℕ → AllowanceView
allowance_of node conit amount = record { cell = node.cell; replica = node.replica; conit = conit; amount = amount }

-- an allowance is of a node
pub record IsAllowanceOf (node : NodeView) (allowance : AllowanceView) : Type 0 where
  pub cell : allowance.cell ≡ node.cell
  pub replica : allowance.replica ≡ node.replica
  pub conit : allowance.conit < node.desk.setup.conits

-- an allowance after a call that takes an amount out of it was told a fault: where the journal failed, it has given it up
abbrev pub lost_with : Option ℕ → NodeFault → AllowanceView → AllowanceView
lost_with lost fault.JournalFault allowance = record allowance { amount = allowance.amount - amount_in lost }
lost_with lost other allowance = allowance

-- its tally has the amount at the place of its conit
abbrev pub KeepsAllowance : AllowanceView → TallyView → Type 0
KeepsAllowance allowance tally = slice_index tally.amounts allowance.conit ≡ allowance.amount
