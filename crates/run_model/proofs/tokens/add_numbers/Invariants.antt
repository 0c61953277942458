use Rattle.std.proofs.Common.{◌≡◌, ◌+◌, ◌*◌, ◌≤◌, ◌++◌, length, map, drop, decimal}
use Rattle.run_model.specs.Text.{spaced}
use Rattle.run_model.proofs.tokens.add_numbers.Given as goal

abbrev pub invariant-loop-left : goal.invariant-loop-left
invariant-loop-left l =
    (l.left ≤ length l.numbers)
    × (l.row.items ≡ spaced (map decimal (drop l.left l.numbers)) ++ l.initial.row.items)
    × (l.initial.row.room + 21 * l.left ≤ l.row.room + 21 * length l.numbers)

abbrev pub decreases-loop-left : goal.decreases-loop-left
decreases-loop-left l = l.left
