use Rattle.std.proofs.Common.{All, take}
use Rattle.journal_reread.specs.Rereading.{CanBeSpelled, entries_in}
use Rattle.journal_reread.proofs.spelling.are_due_spellable.Given as goal

-- those that were looked at can
abbrev pub invariant-loop-pair : goal.invariant-loop-pair
invariant-loop-pair l = All CanBeSpelled (take l.pair-index (entries_in l.stored))
