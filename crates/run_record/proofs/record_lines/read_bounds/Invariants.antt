use Rattle.std.proofs.Common.{◌≡◌, ◌<◌, ◌^◌, ◌+◌, [], length}
use Rattle.run_record.specs.Splitting.{raw_lines}
use Rattle.run_record.specs.RecordLines.{Bounds, read_from, with_bounds}
use Rattle.run_record.proofs.SetupRows.{AreBounds}
use Rattle.run_record.proofs.record_lines.read_bounds.Given as goal

-- what is left of the text, after the bounds so far, is read as all of it is
abbrev pub invariant-loop-row : goal.invariant-loop-row
invariant-loop-row l = record {
  many : length l.bounds ≡ l.row;
  are : AreBounds l.counts.replicas l.counts.conits 0 l.bounds;
  room : l.number + length l.rest < 2 ^ 64;
  read : read_from l.number (with_bounds l.counts l.bounds) (raw_lines l.rest) ≡ read_from l.fn.first (Bounds l.counts []) (raw_lines l.fn.text);
}
