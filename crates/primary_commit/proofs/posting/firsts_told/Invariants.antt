use Rattle.std.proofs.Common.{◌≡◌, [], get_or, length, map, min}
use Rattle.std.specs.List.{range_with_len}
use Rattle.primary_commit.proofs.posting.firsts_told.Given as goal

abbrev pub invariant-loop-origin : goal.invariant-loop-origin
invariant-loop-origin l = l.firsts ≡ map (λ origin. min (length (get_or l.logs.logs origin [])) (get_or l.given origin 0)) (range_with_len 0 l.origin)
