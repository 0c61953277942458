use Rattle.std.proofs.Common.{◌≡◌, ◌/◌, ◌%◌, map}
use Rattle.std.specs.List.{range_with_len}
use Rattle.work_load.specs.Bounds.{alpha_by, bound_of}
use Rattle.work_load.proofs.bounds.alphas_of.Given as goal

abbrev pub invariant-loop-place : goal.invariant-loop-place
invariant-loop-place l = l.list ≡ map (λ place. alpha_by (bound_of l.bounds (place / l.conits) (place % l.conits))) (range_with_len 0 l.place)
