use Rattle.std.proofs.Common.{◌≡◌, ◌++◌, take}
use Rattle.std.specs.List.{flat_map}
use Rattle.tact_msg.specs.MessageBytes.{write_bytes}
use Rattle.tact_msg.proofs.encoding.append_writes.Given as goal

abbrev pub invariant-loop-write : goal.invariant-loop-write
invariant-loop-write l = l.out ≡ l.fn.out ++ flat_map write_bytes (take l.write-index l.writes)
