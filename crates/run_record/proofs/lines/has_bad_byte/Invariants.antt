use Rattle.std.proofs.Common.{◌≡◌, take}
use Rattle.std.specs.List.{list_any}
use Rattle.run_record.specs.Lines.{is_bad_byte}
use Rattle.run_record.proofs.lines.has_bad_byte.Given as goal

abbrev pub invariant-loop-byte : goal.invariant-loop-byte
invariant-loop-byte l = l.is_bad ≡ list_any is_bad_byte (take l.byte-index l.raw)
