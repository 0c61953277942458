use Rattle.std.proofs.Common.{◌≡◌, ◌++◌, take}
use Rattle.std.specs.List.{flat_map}
use Rattle.run_record.specs.RecordBytes.{short_bytes}
use Rattle.run_record.proofs.put_bytes.append_shorts.Given as goal

abbrev pub invariant-loop-short : goal.invariant-loop-short
invariant-loop-short l = l.out ≡ l.initial.out ++ flat_map short_bytes (take l.short-index l.entries)
