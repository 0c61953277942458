use Rattle.std.proofs.Common.{◌≡◌, [], drop, flat_map, get_or, take}
use Rattle.std.specs.List.{range_with_len}
use Rattle.primary_commit.proofs.posting.items_told.Given as goal

abbrev pub invariant-loop-origin : goal.invariant-loop-origin
invariant-loop-origin l = l.items ≡ take 64 (flat_map (λ origin. drop (get_or l.firsts origin 0) (get_or l.logs.logs origin [])) (range_with_len 0 l.origin))
