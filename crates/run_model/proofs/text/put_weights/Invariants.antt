use Rattle.std.proofs.Common.{◌≡◌, ◌+◌, ◌*◌, ◌≤◌, ◌++◌, length, map, drop}
use Rattle.run_model.specs.Text.{spaced, weight_token}
use Rattle.run_model.proofs.text.put_weights.Given as goal

abbrev pub invariant-loop-left : goal.invariant-loop-left
invariant-loop-left l =
    (l.left ≤ length l.weights)
    × (l.begin ≤ l.start)
    × (l.start + 64 * l.left ≤ l.begin + 64 * length l.weights)
    × (drop l.begin l.room ≡ spaced (map weight_token (drop l.left l.weights)) ++ drop l.start l.initial.room)

abbrev pub decreases-loop-left : goal.decreases-loop-left
decreases-loop-left l = l.left
