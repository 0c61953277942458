use Rattle.std.proofs.Common.{◌≡◌, ◌++◌, map}
use Rattle.std.specs.List.{flat_map, range_with_len}
use Rattle.tact_msg.specs.MessageBytes.{told_bytes, told_of}
use Rattle.tact_msg.proofs.encoding.append_tolds.Given as goal

abbrev pub invariant-loop-origin : goal.invariant-loop-origin
invariant-loop-origin l = l.out ≡ l.fn.out ++ flat_map told_bytes (map (told_of l.message) (range_with_len 0 l.origin))
