use Rattle.std.proofs.Common.{◌≡◌}
use Rattle.cell_tests.proofs.turns.pay_often.Given as goal

abbrev pub invariant-loop : goal.invariant-loop
invariant-loop g l = l.tally.id ≡ l.cell.id
