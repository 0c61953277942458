use Rattle.std.proofs.Common.{◌≡◌, ◌++◌, take}
use Rattle.std.specs.List.{flat_map}
use Rattle.run_record.specs.RecordText.{short_line}
use Rattle.run_record.proofs.printing.print_shorts.Given as goal

abbrev pub invariant-loop-short : goal.invariant-loop-short
invariant-loop-short l = l.out ≡ l.initial.out ++ flat_map short_line (take l.short-index l.entries)
