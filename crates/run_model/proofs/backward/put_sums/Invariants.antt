use Rattle.std.proofs.Common.{◌≡◌, ◌+◌, ◌*◌, ◌≤◌, ◌++◌, length, map, drop}
use Rattle.std.specs.Fmt.{signed_decimal}
use Rattle.run_model.specs.Text.{spaced}
use Rattle.run_model.proofs.backward.put_sums.Given as goal

abbrev pub invariant-loop-left : goal.invariant-loop-left
invariant-loop-left l =
    (l.left ≤ length l.sums)
    × (l.begin ≤ l.start)
    × (l.start + 22 * l.left ≤ l.begin + 22 * length l.sums)
    × (drop l.begin l.room ≡ spaced (map signed_decimal (drop l.left l.sums)) ++ drop l.start l.initial.room)

abbrev pub decreases-loop-left : goal.decreases-loop-left
decreases-loop-left l = l.left
