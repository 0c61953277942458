use Rattle.steady_node.specs.Going.{entries_left}
use Rattle.steady_node.proofs.Tries.{IsTrying}
use Rattle.steady_node.proofs.asking.call.Given as goal

abbrev pub invariant-loop-reply : goal.invariant-loop-reply
invariant-loop-reply g l = IsTrying l.node l.fn.session l.session

abbrev pub decreases-loop-reply : goal.decreases-loop-reply
decreases-loop-reply g l = entries_left l.session
