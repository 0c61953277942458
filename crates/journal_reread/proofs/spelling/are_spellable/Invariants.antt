use Rattle.std.proofs.Common.{All, take}
use Rattle.journal_reread.specs.Rereading.{CanBeSpelled}
use Rattle.journal_reread.proofs.spelling.are_spellable.Given as goal

-- those that were looked at can
abbrev pub invariant-loop-entry : goal.invariant-loop-entry
invariant-loop-entry l = All CanBeSpelled (take l.entry-index l.found)
