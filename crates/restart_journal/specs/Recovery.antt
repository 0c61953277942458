-- What a journal gives back: the entries of a replica, and where its pieces aren't those of a replica.
use Rattle.std.specs.Prelude.{◌≡◌, ℕ, ◌<◌, List, All, map, length, take, slice_get, Option, Some, Result, Ok, Err}
use Rattle.tact_base.specs.declared.limits.TheConstants.{HISTORY_MAX}
use Rattle.tact_base.specs.Setup.{Setup}
use Rattle.run_model.specs.Runs.{IsPart, MayFollow}
use Rattle.run_model.specs.declared.entry.Entry.{Entry}
use Rattle.restart_journal.specs.Pieces.{IsPieceOf, IsSpellable, piece_bytes}
use Rattle.restart_journal.specs.declared.fault.RecoverFault.{RecoverFault}
use Rattle.restart_journal.specs.declared.fault.RecoverFault.TheVariants.{Foreign, Full}
use Rattle.restart_journal.specs.declared.recovered.Recovered.{Recovered}

-- pieces are the journal of a replica: those of entries, in order, of which each is due after those before it and, where
-- it takes a message, fits there
pub record IsJournalOf (setup : Setup) (replica : ℕ) (pieces : List (List ℕ)) (entries : List Entry) : Type 0 where
  pub part : IsPart setup replica entries
  pub spelled : pieces ≡ map piece_bytes entries
  pub spellable : All (λ entry. IsSpellable entry.act) entries

-- a piece is bad after entries of a replica: it is that of no entry that may follow them
abbrev pub IsBadAfter : Setup → ℕ → List Entry → List ℕ → Type 0
IsBadAfter setup replica before piece = (entry : Entry) → IsPieceOf piece entry → MayFollow setup replica before entry → ⊥

-- the first bad piece stands at a place that a replica's entries can have
pub record IsForeignAt (setup : Setup) (replica : ℕ) (pieces : List (List ℕ)) (place : ℕ) : Type 0 where
  pub few : place < HISTORY_MAX
  pub before : List Entry
  pub good : IsJournalOf setup replica (take place pieces) before
  pub piece : List ℕ
  pub there : slice_get pieces place ≡ Some piece
  pub bad : IsBadAfter setup replica before piece

-- past as many good pieces as a replica can have entries stands another, whatever it holds
pub record IsFullAt (setup : Setup) (replica : ℕ) (pieces : List (List ℕ)) (place : ℕ) : Type 0 where
  pub last : place ≡ HISTORY_MAX
  pub before : List Entry
  pub good : IsJournalOf setup replica (take place pieces) before
  pub more : place < length pieces

-- what is said of a journal that has these pieces
abbrev pub TellsOf : Setup → ℕ → List (List ℕ) → Result Recovered RecoverFault → Type 0
TellsOf setup replica pieces (Ok made) = IsJournalOf setup replica pieces made.stored
TellsOf setup replica pieces (Err (Foreign place)) = IsForeignAt setup replica pieces place
TellsOf setup replica pieces (Err (Full place)) = IsFullAt setup replica pieces place
TellsOf setup replica pieces (Err fault) = Unit {0}

-- where a fault may stand, whatever the journal tells: a foreign piece where a replica's entries can, one too many right
-- past them
abbrev pub IsAtPlace : RecoverFault → Type 0
IsAtPlace (Foreign place) = place < HISTORY_MAX
IsAtPlace (Full place) = place ≡ HISTORY_MAX
IsAtPlace fault = Unit {0}
