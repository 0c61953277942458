use Rattle.std.proofs.Common.{◌≡◌, ◌/◌, ◌%◌}
use Rattle.std.specs.List.{flat_map, range_with_len}
use Rattle.work_load.specs.Bounds.{loans_by, bound_of}
use Rattle.work_load.proofs.bounds.loans_of.Given as goal

abbrev pub invariant-loop-place : goal.invariant-loop-place
invariant-loop-place l =
    l.list ≡ flat_map (λ place. loans_by l.replicas (place / l.conits) (bound_of l.bounds (place / l.conits) (place % l.conits))) (range_with_len 0 l.place)
