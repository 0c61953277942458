use Rattle.std.proofs.Common.{◌≡◌, ◌+◌, ◌≤◌, [], ◌++◌, drop, flat_map, get_or, length, map}
use Rattle.std.specs.List.{range_with_len}
use Rattle.primary_commit.specs.Peers.{pick_of}
use Rattle.primary_commit.proofs.taking.number.Given as goal

abbrev pub invariant-loop-origin : goal.invariant-loop-origin
invariant-loop-origin l = record {
  told : l.told.items ≡ l.fn.told.items ++ map pick_of
      (flat_map (λ origin. drop (get_or l.haves origin 0) (get_or l.logs.logs origin [])) (range_with_len 0 l.origin));
  room : length (flat_map (λ origin. drop (get_or l.haves origin 0) (get_or l.logs.logs origin [])) (range_with_len 0 (length l.logs.logs)))
      ≤ length (flat_map (λ origin. drop (get_or l.haves origin 0) (get_or l.logs.logs origin [])) (range_with_len 0 l.origin)) + l.told.room;
}
