-- What the laws on pieces say.
use Rattle.std.proofs.Common.{◌≡◌, ℕ, List, Some, sym, subst}
use Rattle.tact_base.specs.Setup.{Setup, IsSetup}
use Rattle.run_model.specs.Ranges.{IsEntryInRange}
use Rattle.run_model.specs.Runs.{IsDue}
use Rattle.run_model.specs.declared.entry.Entry.{Entry}
use Rattle.run_model.proofs.ByteLemmas.{AreBytes}
use Rattle.restart_journal.specs.PieceAt.{entry_in}
use Rattle.restart_journal.specs.Pieces.{IsPieceOf}
use Rattle.restart_journal.proofs.EntryPieces.{entry_is_in, one_entry}
use Rattle.restart_journal.proofs.SpelledBytes.{piece_is_bytes}

-- the piece of an entry is made of bytes
pub its_bytes : (setup : Setup) (piece : List ℕ) (entry : Entry)
    → IsSetup setup
    → IsPieceOf piece entry
    → IsEntryInRange setup entry
    → AreBytes piece
its_bytes setup piece entry good is within = subst AreBytes (sym is.spelled) (piece_is_bytes setup good entry within is.spellable)

pub is_read : (setup : Setup) (part : List Entry) (piece : List ℕ) (entry : Entry)
    → IsSetup setup
    → IsPieceOf piece entry
    → IsDue setup part entry
    → entry_in setup part piece ≡ Some entry
is_read setup part piece entry good is due = entry_is_in setup part piece entry (its_bytes setup piece entry good is due.in_range) good is due

pub one_of_piece : (setup : Setup) (part : List Entry) (piece : List ℕ) (a b : Entry)
    → IsSetup setup
    → IsPieceOf piece a
    → IsPieceOf piece b
    → IsDue setup part a
    → IsDue setup part b
    → a ≡ b
one_of_piece setup part piece a b good is_a is_b due_a due_b =
    one_entry setup part piece a b (its_bytes setup piece a good is_a due_a.in_range) good is_a is_b due_a due_b
