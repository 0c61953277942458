use Rattle.std.proofs.Common.{All, take}
use Rattle.std.specs.Int.{w64}
use Rattle.std.specs.Prelude.{FitsSigned}
use Rattle.journal_reread.proofs.spelling.are_wide.Given as goal

-- those that were looked at have
abbrev pub invariant-loop-sum : goal.invariant-loop-sum
invariant-loop-sum l = All (λ sum. FitsSigned w64 sum) (take l.sum-index l.sums)
