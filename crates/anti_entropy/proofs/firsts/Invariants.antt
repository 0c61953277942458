use Rattle.std.proofs.Common.{◌≡◌, map, slice_index}
use Rattle.std.specs.List.{range_with_len}
use Rattle.tact_base.specs.Counts.{first_index}
use Rattle.anti_entropy.proofs.firsts.Given as goal

abbrev pub invariant-loop-origin : goal.invariant-loop-origin
invariant-loop-origin l =
    l.firsts ≡ map (λ origin. first_index l.to origin (slice_index l.haves origin) (slice_index l.known origin) 0) (range_with_len 0 l.origin)
