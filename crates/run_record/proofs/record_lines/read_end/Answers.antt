use Rattle.std.proofs.Common.{◌∙◌}
use Rattle.run_record.specs.Splitting.{tokens}
use Rattle.run_record.specs.RecordLines.{Whole}
use Rattle.run_record.proofs.TextLines.{goes_past_end}
use Rattle.run_record.proofs.record_lines.read_end.Goals as goal

pub returns-in-Some-clause-err : goal.returns-in-Some-clause-err
returns-in-Some-clause-err c = λ held.
    let read = rw c.in-Some.is at (c.in_ok-line.ensures.ok (Whole held)) in
    read ∙ goes_past_end c.in_ok-line.number held (tokens c.in-Some.field-0.now) c.in_ok-line.field-0-2.now
