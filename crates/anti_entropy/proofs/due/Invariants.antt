use Rattle.std.proofs.Common.{◌≢◌, ℕ, ◌<◌, ◌≤◌, slice_index}
use Rattle.anti_entropy.proofs.due.Given as goal

-- no earlier origin but the receiver has more
abbrev pub invariant-loop-origin : goal.invariant-loop-origin
invariant-loop-origin l = (k : ℕ) → k < l.origin → k ≢ l.to → slice_index l.haves k ≤ slice_index l.known k
