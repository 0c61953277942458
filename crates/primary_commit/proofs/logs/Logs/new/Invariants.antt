use Rattle.std.proofs.Common.{◌≡◌, [], map}
use Rattle.std.specs.List.{range_with_len}
use Rattle.primary_commit.proofs.logs.Logs.new.Given as goal

abbrev pub invariant-loop-origin : goal.invariant-loop-origin
invariant-loop-origin l = map (λ log. log.items) l.logs.items ≡ map (λ origin. []) (range_with_len 0 l._origin)
