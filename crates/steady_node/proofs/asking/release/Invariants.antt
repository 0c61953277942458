use Rattle.std.proofs.Common.{◌≡◌}
use Rattle.steady_node.specs.Going.{entries_left}
use Rattle.steady_node.proofs.Tries.{IsTrying}
use Rattle.steady_node.proofs.asking.release.Given as goal

abbrev pub invariant-loop-amount : goal.invariant-loop-amount
invariant-loop-amount g l = IsTrying l.node l.fn.session l.session × (l.allowance ≡ l.fn.allowance)

abbrev pub decreases-loop-amount : goal.decreases-loop-amount
decreases-loop-amount g l = entries_left l.session
