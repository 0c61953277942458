use Rattle.lock_tests.specs.Nodes.{IsOneOfFour}
use Rattle.lock_tests.proofs.four_nodes.work.Given as goal

abbrev pub invariant-loop-number : goal.invariant-loop-number
invariant-loop-number g l = IsOneOfFour l.desk l.client.node.now
