-- One step of recovery: an entry that is made again from what a piece tells.
use Rattle.std.specs.Prelude.{◌≡◌, ℕ, List, [], ◌∷◌, ◌++◌}
use Rattle.run_model.specs.Runs.{MayFollow}
use Rattle.run_model.specs.declared.entry.Entry.{Entry}
use Rattle.replica_core.specs.Stands.{Stands, IsSameReplica}
use Rattle.restart_journal.specs.Pieces.{IsPieceOf}
use Rattle.restart_journal.specs.PieceAt.{piece_of}
use Rattle.restart_journal.specs.Recovery.{IsBadAfter}
use Rattle.restart_journal.specs.declared.fault.StepFault.{StepFault}
use Rattle.restart_journal.specs.declared.fault.StepFault.TheVariants.{Foreign, NoMemory}
use Rattle.restart_journal.specs.declared.parts.Piece.{Piece}
use Rattle.restart_journal.specs.declared.recovered.Recovered.{Recovered}

-- the replica stands for the stored entries
abbrev pub IsInStep : Recovered → Type 0
IsInStep made = Stands made.stored made.replica.core

-- one more entry is stored, for which the same replica stands then
pub record HasStored (old new : Recovered) (entry : Entry) : Type 0 where
  pub stored : new.stored ≡ old.stored ++ entry ∷ []
  pub stands : IsInStep new
  pub same : IsSameReplica old.replica.core new.replica.core

-- it is one that is told so
pub record HasFollowed (old new : Recovered) (piece : Piece) : Type 0 where
  pub entry : Entry
  pub told : piece_of entry ≡ piece
  pub stored : HasStored old new entry

-- it is the one of a piece
pub record HasRead (old new : Recovered) (bytes : List ℕ) : Type 0 where
  pub entry : Entry
  pub piece : IsPieceOf bytes entry
  pub stored : HasStored old new entry

-- an entry may follow the stored ones
abbrev pub MayBeNext : Recovered → Entry → Type 0
MayBeNext made entry = MayFollow made.replica.core.setup made.replica.core.replica made.stored entry

-- no entry is stored: want of memory, or none that is told so may follow
abbrev pub IsNoneTold : Recovered → Piece → StepFault → Type 0
IsNoneTold old piece Foreign = (entry : Entry) → piece_of entry ≡ piece → MayBeNext old entry → ⊥
IsNoneTold old piece NoMemory = Unit {0}

-- or none that a piece is of
abbrev pub IsNoneRead : Recovered → List ℕ → StepFault → Type 0
IsNoneRead old bytes Foreign = IsBadAfter old.replica.core.setup old.replica.core.replica old.stored bytes
IsNoneRead old bytes NoMemory = Unit {0}
