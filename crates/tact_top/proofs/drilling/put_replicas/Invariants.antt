use Rattle.std.proofs.Common.{◌≡◌, ◌++◌}
use Rattle.std.specs.List.{flat_map, range_with_len}
use Rattle.tact_top.specs.DrillText.{shown_line}
use Rattle.tact_top.proofs.drilling.put_replicas.Given as goal

abbrev pub invariant-loop-replica : goal.invariant-loop-replica
invariant-loop-replica l = l.out ≡ l.initial.out ++ flat_map (shown_line l.outcome.setup l.outcome.history) (range_with_len 0 l.replica)
