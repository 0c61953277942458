use Rattle.std.proofs.Common.{◌≡◌, ◌+◌, ◌*◌, ◌≤◌, ◌++◌, length, map, drop, decimal}
use Rattle.run_model.specs.Text.{spaced}
use Rattle.run_model.proofs.backward.put_numbers.Given as goal

abbrev pub invariant-loop-left : goal.invariant-loop-left
invariant-loop-left l =
    (l.left ≤ length l.numbers)
    × (l.begin ≤ l.start)
    × (l.start + 21 * l.left ≤ l.begin + 21 * length l.numbers)
    × (drop l.begin l.room ≡ spaced (map decimal (drop l.left l.numbers)) ++ drop l.start l.initial.room)

abbrev pub decreases-loop-left : goal.decreases-loop-left
decreases-loop-left l = l.left
