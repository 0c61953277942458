use Rattle.std.proofs.Common.{◌≡◌, ◌+◌, ◌*◌, ◌≤◌, ◌++◌, length, map, drop}
use Rattle.run_model.specs.Text.{spaced, need_token}
use Rattle.run_model.proofs.text.put_needs.Given as goal

abbrev pub invariant-loop-left : goal.invariant-loop-left
invariant-loop-left l =
    (l.left ≤ length l.needs)
    × (l.begin ≤ l.start)
    × (l.start + 84 * l.left ≤ l.begin + 84 * length l.needs)
    × (drop l.begin l.room ≡ spaced (map need_token (drop l.left l.needs)) ++ drop l.start l.initial.room)

abbrev pub decreases-loop-left : goal.decreases-loop-left
decreases-loop-left l = l.left
