use Rattle.std.proofs.Common.{◌≡◌, replicate}
use Rattle.replica_core.specs.Told.{nothing_told}
use Rattle.replica_core.proofs.told_logs.no_lists.Given as goal

abbrev pub invariant-loop : goal.invariant-loop
invariant-loop l = l.told.items ≡ replicate l.counter nothing_told
