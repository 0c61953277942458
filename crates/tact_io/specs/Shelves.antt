-- A place for a journal of each replica.
use Rattle.std.specs.Prelude.{ℕ, List, Option, None}
use Rattle.std.specs.Prelude.{slice_index_or}
use Rattle.std.specs.Option.{option_map}
use Rattle.tact_io.specs.Journals.{Pieces}
use Rattle.tact_io.specs.declared.memory_journal.JournalFail.{JournalFail}
use Rattle.tact_io.specs.Memory.{JournalState}

-- the journal of a replica, if one was put there
abbrev pub journal_at : {J : Type 0} → List (Option J) → ℕ → Option J
journal_at places replica = slice_index_or places replica None

-- the pieces of the journal of a replica that is sure, and of one that may fail
abbrev pub sure_at : List (Option Pieces) → ℕ → Option (List (List ℕ))
sure_at places replica = option_map (λ journal. journal.pieces) (journal_at places replica)

-- a shelf whose journals fail at these calls: those that were put back, and how often one had failed
pub record ShelfState : Type 0 where
  pub places : List (Option JournalState)
  pub fails : List JournalFail
  pub faults : ℕ

abbrev pub stored_at : ShelfState → ℕ → Option (List (List ℕ))
stored_at shelf replica = option_map (λ journal. journal.held.pieces) (journal_at shelf.places replica)
