use Rattle.std.proofs.Common.{◌≡◌, map, take}
use Rattle.restart_journal.specs.Pieces.{piece_bytes}
use Rattle.journal_reread.specs.Rereading.{entries_in, with_kept}
use Rattle.journal_reread.proofs.comparing.is_kept.Given as goal

-- so far what was found has the pieces that are due
abbrev pub invariant-loop-place : goal.invariant-loop-place
invariant-loop-place l = take l.place (map piece_bytes l.found) ≡ take l.place (map piece_bytes (with_kept (entries_in l.stored) l.doubt))
