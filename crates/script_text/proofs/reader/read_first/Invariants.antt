use Rattle.std.proofs.Common.{◌+◌, ◌≡◌, ◌<◌, ◌≤◌, [], length}
use Rattle.tact_base.specs.declared.limits.TheConstants.{SCRIPT_LINES}
use Rattle.run_record.specs.Splitting.{raw_lines}
use Rattle.script_text.specs.Texts.{read_from, script_of}
use Rattle.script_text.proofs.reader.read_first.Given as goal

abbrev pub invariant-loop-rest : goal.invariant-loop-rest
invariant-loop-rest l = (0 < l.number) × (l.number ≤ SCRIPT_LINES + 1) × (read_from l.number [] (raw_lines l.rest) ≡ script_of l.bytes)

abbrev pub decreases-loop-rest : goal.decreases-loop-rest
decreases-loop-rest l = length l.rest
