use Rattle.std.proofs.Common.{◌≡◌, ◌≤◌, ◌+◌, length}
use Rattle.run_record.specs.Splitting.{raw_lines}
use Rattle.run_record.specs.RecordLines.{Stage, read_from}
use Rattle.run_record.proofs.record_lines.next_line.Given as goal

-- what is left of the text is read as all of it is
abbrev pub invariant-loop-rest : goal.invariant-loop-rest
invariant-loop-rest l = record {
  room : l.number + length l.rest ≤ l.first + length l.text;
  shorter : length l.rest ≤ length l.text;
  read : (stage : Stage) → read_from l.number stage (raw_lines l.rest) ≡ read_from l.first stage (raw_lines l.text);
}

abbrev pub decreases-loop-rest : goal.decreases-loop-rest
decreases-loop-rest l = length l.rest
