-- Running: what a workload asks for, and where a text that is none is at fault.
use Rattle.std.specs.Prelude.{◌≡◌, ◌⊎◌, ℕ, List, [], IsTrue, Ok, Err}
use Rattle.run_model.specs.declared.entry.Entry.{Entry}
use Rattle.run_model.specs.declared.status.InputKind.{InputKind}
use Rattle.run_model.specs.declared.status.InputKind.TheVariants as input
use Rattle.run_model.specs.declared.status.Status.{Status}
use Rattle.run_model.specs.declared.status.Status.TheVariants as status
use Rattle.run_record.specs.RecordText.{record_text}
use Rattle.run_record.specs.Records.{held_of}
use Rattle.run_work.specs.Runs.{IsDoneRun, IsFullRun}
use Rattle.run_work.specs.Shelves.{ShelfEnd}
use Rattle.tact_io.specs.Faults.{HasRisen}
use Rattle.work_load.specs.Workloads.{Workload, workload_in}

-- how the run of a plan ended: all items are done, or a replica is full
abbrev pub HasEndedBy : ShelfEnd → Workload → ℕ → List Entry → Status → Type 0
HasEndedBy shelf plan tries history status.Done = IsDoneRun shelf plan tries history
HasEndedBy shelf plan tries history (status.Full replica count clock) = IsFullRun shelf plan tries replica count clock history
HasEndedBy shelf plan tries history other = ⊥

-- The input is a workload; the text is the record of one history, which is a run of it that ended by this status.
pub record IsRan (shelf : ShelfEnd) (tries : ℕ) (input : List ℕ) (answer : Status) (text : List ℕ) : Type 0 where
  pub plan : Workload
  pub read : workload_in input ≡ Ok plan
  pub history : List Entry
  pub ended : HasEndedBy shelf plan tries history answer
  pub text_is : text ≡ record_text (held_of plan.setup history)

-- why a run has no record: a journal failed, or the shelf, whose count rose; or a journal gave another piece than was
-- appended, which none does that tells its pieces
abbrev pub HasFailedBy : ShelfEnd → Status → Type 0
HasFailedBy shelf (status.JournalFault replica) = HasRisen shelf.before shelf.after
HasFailedBy shelf (status.JournalForeign replica place) = IsTrue shelf.tells → ⊥
HasFailedBy shelf other = ⊥

-- the input is a workload whose run has no record
abbrev pub IsBroken : ShelfEnd → List ℕ → Status → Type 0
IsBroken shelf input answer = (plan : Workload) × (workload_in input ≡ Ok plan) × HasFailedBy shelf answer

-- what a workload asks for: the record of its run; or no text, where a journal failed
abbrev pub AsksOfRun : ShelfEnd → ℕ → List ℕ → Status → List ℕ → Type 0
AsksOfRun shelf tries input answer text = IsRan shelf tries input answer text ⊎ (IsBroken shelf input answer × (text ≡ []))

-- the first fault of an input that is no workload
abbrev pub IsLoadFault : List ℕ → ℕ → InputKind → Type 0
IsLoadFault text place (input.Load kind) = workload_in text ≡ Err (place, kind)
IsLoadFault text place other = ⊥

-- an answer that comes with no text
abbrev pub IsUnwritten : ShelfEnd → List ℕ → Status → Type 0
IsUnwritten shelf input (status.BadInput place kind) = IsLoadFault input place kind
IsUnwritten shelf input status.NoMemory = Unit {0}
IsUnwritten shelf input answer = IsBroken shelf input answer
