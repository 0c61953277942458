use Rattle.std.proofs.Common.{◌≤◌, ◌*◌, ℕ, ◌<◌, get_or}
use Rattle.access_gate.proofs.gate.first_over_part.Given as goal

abbrev pub invariant-loop-holder : goal.invariant-loop-holder
invariant-loop-holder l = (k : ℕ) → k < l.holder → get_or l.outs k 0 * l.parts ≤ l.num
