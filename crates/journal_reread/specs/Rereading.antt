-- What a journal gives back, beside the entries that were stored.
use Rattle.std.specs.Prelude.{◌≡◌, ◌≢◌, ℕ, ◌≤◌, Bool, true, false, List, [], ◌∷◌, ◌++◌, length, map, take, slice_get, Option, None, Some}
use Rattle.tact_base.specs.Setup.{Setup}
use Rattle.tact_io.specs.Journals.{MayHave}
use Rattle.tact_io.specs.declared.fault.OutFault.{OutFault}
use Rattle.tact_io.specs.declared.fault.OutFault.TheVariants as out
use Rattle.run_model.specs.Runs.{MayFollow}
use Rattle.run_model.specs.declared.entry.Entry.{Entry}
use Rattle.restart_journal.specs.Pieces.{IsSpellable, piece_bytes}
use Rattle.journal_reread.specs.declared.fault.RereadFault.{RereadFault}
use Rattle.journal_reread.specs.declared.fault.RereadFault.TheVariants as reread

-- the entries of pairs of tick and entry
abbrev pub entries_in : List (ℕ × Entry) → List Entry
entries_in pairs = map (λ pair. pair.1) pairs

-- entries, and one more, if there is one
abbrev pub with_kept : List Entry → Option Entry → List Entry
with_kept entries None = entries
with_kept entries (Some kept) = entries ++ kept ∷ []

-- the one in doubt, where it is kept
abbrev pub kept_where : Bool → Option Entry → Option Entry
kept_where true doubt = doubt
kept_where false doubt = None

-- the one in doubt may follow entries of a replica
abbrev pub MayBeNext : Setup → ℕ → List Entry → Option Entry → Type 0
MayBeNext setup replica entries None = Unit {0}
MayBeNext setup replica entries (Some doubt) = MayFollow setup replica entries doubt

-- pieces are those of entries, or of these and of the one in doubt
abbrev pub HasPiecesOf : List (List ℕ) → List Entry → Option Entry → Type 0
HasPiecesOf pieces entries None = pieces ≡ map piece_bytes entries
HasPiecesOf pieces entries (Some doubt) = MayHave (map piece_bytes entries) (piece_bytes doubt) pieces

abbrev pub CanBeSpelled : Entry → Type 0
CanBeSpelled entry = IsSpellable entry.act

-- Pieces first differ at a place: up to there they are those of the entries and of the one in doubt, and there they have
-- neither what these have nor what the entries alone have.
pub record IsOtherAt (pieces : List (List ℕ)) (entries : List Entry) (doubt : Option Entry) (place : ℕ) : Type 0 where
  pub front : take place pieces ≡ take place (map piece_bytes (with_kept entries doubt))
  pub kept : slice_get pieces place ≢ slice_get (map piece_bytes (with_kept entries doubt)) place
  pub alone : slice_get pieces place ≢ slice_get (map piece_bytes entries) place

-- a place that a fault names is at most that behind so many entries
abbrev pub IsWithin : ℕ → RereadFault → Type 0
IsWithin count (reread.Foreign place) = place ≤ count
IsWithin count fault = Unit {0}

-- why pieces aren't those of the entries, with or without the one in doubt: the first that differs, or want of memory
abbrev pub IsUnlike : List (List ℕ) → List Entry → Option Entry → RereadFault → Type 0
IsUnlike pieces entries doubt (reread.Foreign place) = IsOtherAt pieces entries doubt place × (place ≤ length (with_kept entries doubt))
IsUnlike pieces entries doubt reread.JournalReadFault = ⊥
IsUnlike pieces entries doubt reread.NoMemory = Unit {0}

-- a journal has at a place the piece that is due there
pub record IsDueAt (pieces due : List (List ℕ)) (place : ℕ) : Type 0 where
  pub piece : List ℕ
  pub there : slice_get pieces place ≡ Some piece
  pub same : slice_get due place ≡ Some piece

-- of a journal's pieces up to a bad one that place is told at which first another stands than the one that is due there
abbrev pub IsFirstOther : List (List ℕ) → List (List ℕ) → ℕ → RereadFault → Type 0
IsFirstOther pieces due bad (reread.Foreign place) = (take place pieces ≡ take place due) × (place ≢ bad → ¬ (IsDueAt pieces due place))
IsFirstOther pieces due bad fault = Unit {0}

-- a fault names no place
abbrev pub NamesNoPlace : RereadFault → Type 0
NamesNoPlace (reread.Foreign place) = ⊥
NamesNoPlace fault = Unit {0}

-- a fault of reading as the journal's
abbrev pub reread_fault : OutFault → RereadFault
reread_fault out.Failed = reread.JournalReadFault
reread_fault out.NoMemory = reread.NoMemory
