use Rattle.std.proofs.Common.{◌≡◌, ◌≤◌, All, map, take}
use Rattle.std.specs.Prelude.{IsTrue}
use Rattle.restart_journal.specs.Pieces.{piece_bytes}
use Rattle.restart_journal.specs.Steps.{IsInStep}
use Rattle.restart_journal.proofs.Reading.{CanBeSpelled}
use Rattle.restart_journal.proofs.recovering.read_all.Given as goal

-- the pieces read so far are those of the stored entries, for which the replica stands; the journal has what it had
abbrev pub invariant-loop-place : goal.invariant-loop-place
invariant-loop-place g l = record {
  setup : l.made.replica.core.setup ≡ l.config;
  replica : l.made.replica.core.replica ≡ l.replica;
  in_step : IsInStep l.made;
  spellable : All CanBeSpelled l.made.stored;
  spelled : IsTrue g.J.Journal.tells → take l.place (g.J.Journal.pieces l.fn.journal) ≡ map piece_bytes l.made.stored;
  stays : IsTrue g.J.Journal.tells → g.J.Journal.pieces l.journal ≡ g.J.Journal.pieces l.fn.journal;
  room_pieces : g.J.Journal.spare_pieces l.journal ≡ g.J.Journal.spare_pieces l.fn.journal;
  room_bytes : g.J.Journal.spare_bytes l.journal ≡ g.J.Journal.spare_bytes l.fn.journal;
  risen : g.J.Journal.faults l.fn.journal ≤ g.J.Journal.faults l.journal;
}
