use Rattle.std.proofs.Common.{◌≡◌}
use Rattle.steady_node.specs.Going.{entries_left}
use Rattle.steady_node.proofs.Tries.{IsTrying}
use Rattle.steady_node.proofs.asking.write_held.Given as goal

abbrev pub invariant-loop-accepted : goal.invariant-loop-accepted
invariant-loop-accepted g l = IsTrying l.node l.fn.session l.session × (l.allowance ≡ l.fn.allowance)

abbrev pub decreases-loop-accepted : goal.decreases-loop-accepted
decreases-loop-accepted g l = entries_left l.session
