-- What nodes and turns keep, of the cells behind them.
use Rattle.std.specs.Prelude.{◌≡◌, ℕ, ◌*◌, List}
use Rattle.tact_base.specs.Setup.{IsSetup}
use Rattle.tact_base.specs.declared.limits.TheConstants.{CLIENTS}
use Rattle.run_history.specs.Seats.{DeskView}
use Rattle.weight_ledger.specs.Seen.{CellView}
use Rattle.entry_journal.specs.EntryJournals.{JournalView}
use Rattle.locked_replica.specs.Locks.{LockedView}
use Rattle.replica_lock.specs.Sessions.{NodeView}
use Rattle.replica_lock.specs.declared.label.Label.{Label}
use Rattle.replica_lock.specs.declared.owe.Owe.{Owe}

-- what stands behind a node's lock: the value of its replica, the journal, the book of what tallies add up, and what is
-- owed to clients
pub record KeptView : Type 0 where
  pub state : LockedView
  pub journal : JournalView
  pub book : List ℕ
  pub owes : List Owe

-- the cell whose value is out, with its book and what is owed to clients
pub record CountsView : Type 0 where
  pub cell : CellView Label
  pub book : List ℕ
  pub owes : List Owe

-- what a value behind a lock never changes
abbrev pub label_of : LockedView → Label
label_of locked = record { desk = record { table = locked.clerk.table; setup = locked.core.setup }; replica = locked.core.replica }

-- a node's cell is of its desk, and has a shared place for each conit and five owned ones for each client
pub record KeepsNode (desk : DeskView) (cell : CellView Label) : Type 0 where
  pub desk_is : cell.label.desk ≡ desk
  pub shared : cell.shared ≡ desk.setup.conits
  pub owned : cell.owned ≡ 5 * CLIENTS
  pub sound : IsSetup desk.setup

-- a turn holds the value of its node's cell
pub record KeepsTurn (node : NodeView) (counts : CountsView) (locked : LockedView) : Type 0 where
  pub cell : counts.cell.id ≡ node.cell
  pub keeps : KeepsNode node.desk counts.cell
  pub replica : counts.cell.label.replica ≡ node.replica
  pub label : label_of locked ≡ counts.cell.label
