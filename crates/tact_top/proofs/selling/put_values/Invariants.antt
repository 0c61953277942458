use Rattle.std.proofs.Common.{◌≡◌, ◌++◌}
use Rattle.std.specs.List.{flat_map, range_with_len}
use Rattle.tact_top.specs.SalesText.{seen_by, value_text}
use Rattle.tact_top.proofs.selling.put_values.Given as goal

abbrev pub invariant-loop-replica : goal.invariant-loop-replica
invariant-loop-replica l =
    l.out ≡ l.initial.out ++ flat_map (λ replica. value_text replica (seen_by l.booking replica)) (range_with_len 0 l.replica)
