-- What is left of a run when its nodes have ended.
use Rattle.std.specs.Prelude.{◌≡◌, ◌≢◌, ℕ, ◌<◌, Bool, true, false, List, All, IfSome, Option, Some, None, get_or, length}
use Rattle.tact_io.specs.Faults.{HasRisen}
use Rattle.link_faults.specs.Plans.{no_faults}
use Rattle.run_model.specs.Histories.{IsPrefix, part_of}
use Rattle.run_model.specs.declared.entry.Entry.{Entry}
use Rattle.run_history.specs.Seats.{ClerkView, DeskView, NoteView}
use Rattle.run_history.specs.Ticks.{entries_of}
use Rattle.locked_replica.specs.declared.fault.RestartFault.{RestartFault}
use Rattle.locked_replica.specs.declared.fault.RestartFault.TheVariants as restart
use Rattle.steady_node.specs.declared.ending.Ending.{Ending}
use Rattle.work_load.specs.Attempts.{settling}
use Rattle.work_load.specs.Workloads.{Workload}
use Rattle.run_work.specs.Ends.{AreDrawn, AreFew, HaveDrawn, HaveEnded, HaveServed, LosesNone}
use Rattle.run_work.specs.Settling.{HasMet}
use Rattle.run_work.specs.Shelves.{IsStored, IsSure, ShelfEnd}
use Rattle.run_work.specs.Stops.{IsFailed, IsStopBy}
use Rattle.run_work.specs.declared.leaving.Stop.{Stop}
use Rattle.run_work.specs.declared.run.Finished.{Finished}
use Rattle.run_work.specs.declared.run.RunFault.{RunFault}
use Rattle.run_work.specs.declared.run.RunFault.TheVariants as fault

-- the first clerk has seen all that a note has
abbrev pub IsHeard : List ClerkView → NoteView → Type 0
IsHeard clerks note = (none : ClerkView) → IsPrefix note.seen (get_or clerks 0 none).seen

-- the fault that a stop is answered with
abbrev pub fault_for : ℕ → RestartFault → Bool → List Entry → RunFault
fault_for replica (restart.Full count stamp) false run = fault.Full replica count stamp run
fault_for replica (restart.Full count stamp) true run = fault.JournalFault replica
fault_for replica restart.JournalFault lost run = fault.JournalFault replica
fault_for replica restart.JournalReadFault lost run = fault.JournalFault replica
fault_for replica (restart.Foreign place) lost run = fault.JournalForeign replica place
fault_for replica restart.NoMemory lost run = fault.NoMemory

-- what is known of where a run stopped
pub record IsStopHeard (shelf : ShelfEnd) (clerks : List ClerkView) (stop : Stop) : Type 0 where
  pub cause : IsStopBy shelf.tells stop.ending.fault (part_of stop.note.seen stop.replica)
  pub failed : IsFailed stop.ending → HasRisen shelf.before shelf.after
  pub heard : IsHeard clerks stop.note

-- After all that the notes have seen each replica has met each other, by what the first clerk has seen.
pub record HaveAllMet (plan : Workload) (notes : List NoteView) (clerks : List ClerkView) : Type 0 where
  pub front : List Entry
  pub history : List Entry
  pub noted : All (λ (note : NoteView). IsPrefix note.seen front) notes
  pub heard : (none : ClerkView) → IsPrefix history (get_or clerks 0 none).seen
  pub met : (from to : ℕ) → from < plan.setup.replicas → to < plan.setup.replicas → from ≢ to
      → HasMet (get_or plan.links to no_faults).lose front history from to

-- There are notes of what the plan's clients had seen when they ended, all items done or begun, and the first clerk has seen
-- what each note has, and that of the stop. Where no call is lost, the clerks of all replicas drew of each client the calls
-- that its note has. Where no journal failed, the clients were served and the replicas met, the clerks drew no more entries
-- than the plan asks for, and the journals have the pieces of these.
pub record HasFinished (shelf : ShelfEnd) (plan : Workload) (tries : ℕ) (desk : DeskView) (finished : Finished) : Type 0 where
  pub notes : List NoteView
  pub drawn : AreDrawn desk finished.drawn
  pub counted : LosesNone finished.stop → HaveDrawn plan.clients notes finished.drawn
  pub heard : All (IsHeard finished.drawn.clerks.items) notes
  pub ended : HaveEnded tries plan.clients notes finished.stop
  pub stop : IfSome finished.stop (IsStopHeard shelf finished.drawn.clerks.items)
  pub served : IsSure shelf → HaveServed desk.setup plan.clients notes finished.stop
  pub met : IsSure shelf → finished.stop ≡ None → plan.settle ≢ 0 → HaveAllMet plan notes finished.drawn.clerks.items
  pub few : IsSure shelf → LosesNone finished.stop → AreFew plan.clients (settling plan.settle) finished.drawn.clerks.items
  pub pieces : IsSure shelf → (replica : ℕ) (none : ClerkView) → replica < length finished.drawn.clerks.items
      → IsStored shelf.stored replica (entries_of (get_or finished.drawn.clerks.items replica none).pairs)

-- Why a run isn't done that stopped at a replica. Where that is full, but a call is lost, a journal failed.
abbrev pub fault_by : ℕ → Ending → List Entry → RunFault
fault_by replica ending run = fault_for replica ending.fault ending.lost run

abbrev pub IsFaultOf : List Entry → Option Stop → RunFault → Type 0
IsFaultOf run (Some stop) told = told ≡ fault_by stop.replica stop.ending run
IsFaultOf run None told = ⊥
