use Rattle.std.specs.Prelude.{All}
use Rattle.replica_lock.specs.Rosters.{IsRosterOf}
use Rattle.lock_tests.specs.Nodes.{IsOneOfFour}
use Rattle.lock_tests.specs.declared.client.Client.{Client}
use Rattle.lock_tests.proofs.four_nodes.seat_eight.Given as goal

abbrev pub invariant-loop-client : goal.invariant-loop-client
invariant-loop-client g l = IsRosterOf l.node l.roster × All (λ (client : Client). IsOneOfFour l.desk client.node.now) l.clients.items
