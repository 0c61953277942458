use Rattle.steady_node.specs.Going.{entries_left}
use Rattle.steady_node.proofs.Mends.{IsDoubting}
use Rattle.steady_node.proofs.settling.resume.Given as goal

abbrev pub invariant-loop-session : goal.invariant-loop-session
invariant-loop-session g l = IsDoubting l.fn.session l.session

abbrev pub decreases-loop-session : goal.decreases-loop-session
decreases-loop-session g l = entries_left l.session
