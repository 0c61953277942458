use Rattle.std.proofs.Common.{◌≡◌, ◌≤◌, length, map, take}
use Rattle.std.specs.Prelude.{IsTrue}
use Rattle.restart_journal.specs.Pieces.{piece_bytes}
use Rattle.journal_reread.specs.Rereading.{entries_in, with_kept}
use Rattle.journal_reread.proofs.rereading.first_other.Given as goal

-- so many places have what is due there; the journal has what it had
abbrev pub invariant-loop-place : goal.invariant-loop-place
invariant-loop-place g l = record {
  same : IsTrue g.J.Journal.tells → take l.place (g.J.Journal.pieces l.fn.journal) ≡ take l.place (map piece_bytes (with_kept (entries_in l.stored) l.doubt));
  placed : l.place ≤ length (with_kept (entries_in l.stored) l.doubt);
  stays : IsTrue g.J.Journal.tells → g.J.Journal.pieces l.journal ≡ g.J.Journal.pieces l.fn.journal;
  room_pieces : g.J.Journal.spare_pieces l.journal ≡ g.J.Journal.spare_pieces l.fn.journal;
  room_bytes : g.J.Journal.spare_bytes l.journal ≡ g.J.Journal.spare_bytes l.fn.journal;
  risen : g.J.Journal.faults l.fn.journal ≤ g.J.Journal.faults l.journal;
}
