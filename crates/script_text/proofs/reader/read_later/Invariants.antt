use Rattle.std.proofs.Common.{◌+◌, ◌≡◌, ◌<◌, ◌≤◌, length}
use Rattle.std.specs.Prelude.{All, IsTrue}
use Rattle.tact_base.specs.declared.limits.TheConstants.{SCRIPT_LINES}
use Rattle.run_record.specs.Splitting.{raw_lines}
use Rattle.script_text.specs.GoodLines.{IsGood}
use Rattle.script_text.specs.Texts.{read_from}
use Rattle.script_text.specs.Readings.{IsReading}
use Rattle.script_text.proofs.reader.read_later.Given as goal

abbrev pub invariant-loop-rest : goal.invariant-loop-rest
invariant-loop-rest l = record {
  reading : IsReading l.reader;
  lines : length l.reader.lines.items < l.number;
  few : l.number ≤ SCRIPT_LINES + 1;
  good : IsTrue l.is_good → All IsGood (raw_lines l.rest);
  read : read_from l.number l.reader.lines.items (raw_lines l.rest) ≡ read_from l.first l.initial.reader.lines.items (raw_lines l.text);
}

abbrev pub decreases-loop-rest : goal.decreases-loop-rest
decreases-loop-rest l = length l.rest
