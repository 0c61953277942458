use Rattle.steady_node.specs.Going.{entries_left}
use Rattle.steady_node.proofs.Tries.{IsTrying}
use Rattle.steady_node.proofs.asking.reserve.Given as goal

abbrev pub invariant-loop-reserving : goal.invariant-loop-reserving
invariant-loop-reserving g l = IsTrying l.node l.fn.session l.session

abbrev pub decreases-loop-reserving : goal.decreases-loop-reserving
decreases-loop-reserving g l = entries_left l.session
