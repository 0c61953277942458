-- The journal of a replica's entries, and what it has of them.
use Rattle.std.specs.Prelude.{◌≡◌, ℕ, ◌+◌, ◌-◌, ◌*◌, ◌<◌, ◌≤◌, ◌^◌, Bool, true, false, List, map, Option, None, Some, IsTrue}
use Rattle.tact_io.specs.Faults.{HasRisen}
use Rattle.tact_io.specs.Journals.{MayHave, with_piece}
use Rattle.run_model.specs.declared.entry.Entry.{Entry}
use Rattle.restart_journal.specs.Pieces.{piece_bytes}
use Rattle.entry_journal.specs.declared.keeping.TheConstants.{CALL_BYTES}

-- Whether its pieces are told, and the pieces; the room for more of them, and for more bytes in all; how often it has
-- failed; whether it is halted; the entry whose append failed, if it may be there; and for how many calls of clients
-- room was made.
pub record JournalView : Type 0 where
  pub tells : Bool
  pub pieces : List (List ℕ)
  pub spare_pieces : ℕ
  pub spare_bytes : ℕ
  pub faults : ℕ
  pub halted : Bool
  pub doubt : Option Entry
  pub room : ℕ

-- pieces are those of entries, or of these and of the one in doubt
abbrev pub HasPiecesOf : List (List ℕ) → List Entry → Option Entry → Type 0
HasPiecesOf pieces entries None = pieces ≡ map piece_bytes entries
HasPiecesOf pieces entries (Some doubt) = MayHave (map piece_bytes entries) (piece_bytes doubt) pieces

-- room for so many calls, in pieces and bytes
pub record HasRoom (room spare_pieces spare_bytes : ℕ) : Type 0 where
  pub pieces : room ≤ spare_pieces
  pub bytes : room * CALL_BYTES ≤ spare_bytes
  pub few : room * CALL_BYTES < 2 ^ 64

-- room for a piece of so many bytes, beside that for all calls but one
pub record HasRoomFor (long : ℕ) (journal : JournalView) : Type 0 where
  pub pieces : journal.room - 1 + 1 ≤ journal.spare_pieces
  pub bytes : (journal.room - 1) * CALL_BYTES + long ≤ journal.spare_bytes

-- after the piece of an entry was appended: it isn't halted, and its pieces have that one more; none was in doubt
pub record HasKept (before after : JournalView) (entry : Entry) : Type 0 where
  pub was : before.doubt ≡ None
  pub going : after.halted ≡ false
  pub certain : after.doubt ≡ None
  pub tells : after.tells ≡ before.tells
  pub has : IsTrue before.tells → after.pieces ≡ with_piece before.pieces (piece_bytes entry)

-- after an append that failed: it is halted, the entry is in doubt, where none was, and its pieces are the same or have
-- that one more
pub record HasDoubt (before after : JournalView) (entry : Entry) : Type 0 where
  pub was : before.doubt ≡ None
  pub halted : after.halted ≡ true
  pub doubt : after.doubt ≡ Some entry
  pub tells : after.tells ≡ before.tells
  pub may_have : IsTrue before.tells → MayHave before.pieces (piece_bytes entry) after.pieces
  pub failed : HasRisen before.faults after.faults

-- the journal is as it was, but for what room there is
pub record IsUntouched (before after : JournalView) : Type 0 where
  pub tells : after.tells ≡ before.tells
  pub pieces : IsTrue before.tells → after.pieces ≡ before.pieces
  pub faults : after.faults ≡ before.faults
  pub halted : after.halted ≡ before.halted
  pub doubt : after.doubt ≡ before.doubt

-- what is kept of the one in doubt: it, or nothing
abbrev pub IsKeptOf : Option Entry → Option Entry → Type 0
IsKeptOf doubt None = Unit {0}
IsKeptOf doubt (Some kept) = doubt ≡ Some kept
