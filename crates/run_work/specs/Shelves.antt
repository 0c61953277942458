-- What a shelf of journals comes to in a run.
use Rattle.std.specs.Prelude.{◌≡◌, ℕ, ◌<◌, Bool, IsTrue, List, length, map, get_or, Option, Some}
use Rattle.tact_io.specs.Faults.{HasRisen}
use Rattle.restart_journal.specs.Pieces.{piece_bytes}
use Rattle.run_model.specs.declared.entry.Entry.{Entry}
use Rattle.run_history.specs.Seats.{ClerkView}
use Rattle.run_history.specs.Ticks.{entries_of}
use Rattle.run_work.specs.Ends.{AreFaultless, AreUnmarked}
use Rattle.run_work.specs.declared.run.RunFault.{RunFault}
use Rattle.run_work.specs.declared.run.RunFault.TheVariants as fault
use Rattle.run_work.specs.declared.seat.End.{End}

-- what a shelf came to in a call: whether its journals tell their pieces, its counts of faults before and after, and the
-- pieces of the journal that was put back last for each replica
pub record ShelfEnd : Type 0 where
  pub tells : Bool
  pub before : ℕ
  pub after : ℕ
  pub stored : ℕ → Option (List (List ℕ))

-- its journals tell their pieces, and none failed
abbrev pub IsSure : ShelfEnd → Type 0
IsSure shelf = IsTrue shelf.tells × (HasRisen shelf.before shelf.after → ⊥)

-- for a replica a journal was put back with the pieces of just these entries
abbrev pub IsStored : (ℕ → Option (List (List ℕ))) → ℕ → List Entry → Type 0
IsStored stored replica part = stored replica ≡ Some (map piece_bytes part)

-- Journals that were put back held: no session marked a fault of its journal. Where they tell their pieces no session is
-- marked at all, and those of what each clerk drew are stored.
pub record HaveHeld (tells : Bool) (stored : ℕ → Option (List (List ℕ))) (ends : List End) (clerks : List ClerkView) : Type 0 where
  pub faultless : AreFaultless ends
  pub unmarked : IsTrue tells → AreUnmarked ends
  pub pieces : IsTrue tells → (replica : ℕ) (none : ClerkView) → replica < length clerks
      → IsStored stored replica (entries_of (get_or clerks replica none).pairs)

-- why a run didn't begin, or had to end: want of memory, or that the shelf failed
abbrev pub IsOpenFault : ℕ → ℕ → RunFault → Type 0
IsOpenFault before after (fault.JournalFault replica) = HasRisen before after
IsOpenFault before after fault.NoMemory = Unit {0}
IsOpenFault before after other = ⊥
