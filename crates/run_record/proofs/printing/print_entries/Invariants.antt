use Rattle.std.proofs.Common.{◌≡◌, ◌++◌, take, map}
use Rattle.std.specs.List.{flat_map}
use Rattle.run_record.specs.Records.{short_of}
use Rattle.run_record.specs.RecordText.{short_line}
use Rattle.run_record.proofs.printing.print_entries.Given as goal

abbrev pub invariant-loop-entry : goal.invariant-loop-entry
invariant-loop-entry l = l.out ≡ l.initial.out ++ flat_map short_line (map short_of (take l.entry-index l.run))
