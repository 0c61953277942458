use Rattle.std.proofs.Common.{◌≡◌, ◌<◌, ℕ, get_or}
use Rattle.run_check.proofs.judging.first_apart.Given as goal

abbrev pub invariant-loop-origin : goal.invariant-loop-origin
invariant-loop-origin l = (k : ℕ) → k < l.origin → get_or l.told k 0 ≡ get_or l.due k 0
