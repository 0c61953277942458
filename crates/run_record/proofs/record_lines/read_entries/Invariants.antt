use Rattle.std.proofs.Common.{◌≡◌, ◌<◌, ◌^◌, ◌+◌, [], All, length}
use Rattle.run_record.specs.Records.{IsShortOf}
use Rattle.run_record.specs.Splitting.{raw_lines}
use Rattle.run_record.specs.RecordLines.{Entries, read_from}
use Rattle.run_record.proofs.record_lines.read_entries.Given as goal

-- what is left of the text, after the entries so far, is read as all of it is
abbrev pub invariant-loop-shorts : goal.invariant-loop-shorts
invariant-loop-shorts l = record {
  within : All (IsShortOf l.config) l.shorts;
  room : l.number + length l.rest < 2 ^ 64;
  read : read_from l.number (Entries l.config l.shorts) (raw_lines l.rest) ≡ read_from l.fn.first (Entries l.config []) (raw_lines l.fn.text);
}

abbrev pub decreases-loop-shorts : goal.decreases-loop-shorts
decreases-loop-shorts l = length l.rest
