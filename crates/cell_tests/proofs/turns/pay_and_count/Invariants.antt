use Rattle.std.proofs.Common.{◌≡◌, ◌≢◌, get_or}
use Rattle.cell_tests.proofs.turns.pay_and_count.Given as goal

abbrev pub invariant-loop : goal.invariant-loop
invariant-loop g l = (l.tally.id ≡ l.cell.id) × (get_or l.tally.owns 1 0 ≢ 0)
