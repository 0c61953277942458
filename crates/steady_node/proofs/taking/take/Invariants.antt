use Rattle.std.proofs.Common.{◌≡◌}
use Rattle.steady_node.specs.Going.{entries_left}
use Rattle.steady_node.proofs.Tries.{IsTrying}
use Rattle.steady_node.proofs.taking.take.Given as goal

abbrev pub invariant-loop-back : goal.invariant-loop-back
invariant-loop-back g l = IsTrying l.node l.fn.session l.session × (l.parcel ≡ l.fn.parcel)

abbrev pub decreases-loop-back : goal.decreases-loop-back
decreases-loop-back g l = entries_left l.session
