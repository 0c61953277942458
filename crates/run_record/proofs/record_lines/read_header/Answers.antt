use Rattle.std.proofs.Common.{refl, sym, subst, ◌∙◌, ◌+◌, Err}
use Rattle.std.proofs.lemmas.Result.{err_from_is_err_and}
use Rattle.run_record.specs.Splitting.{raw_lines, tokens}
use Rattle.run_record.specs.RecordLines.{Before, Reads, header_line, line_after, read_from, record_of}
use Rattle.run_record.proofs.TextLines.{header_fails, reads_header, said_fault, said_ok}
use Rattle.run_record.proofs.record_lines.read_header.Goals as goal

pub returns-in_err-line-clause-err : goal.returns-in_err-line-clause-err
unfolding record_of
returns-in_err-line-clause-err c =
    let p = err_from_is_err_and c.from_residual.result c.from_residual.ensures.1 in
    rw (p.1, p.2) (c.in_err-line.ensures.err Before (λ number. refl))

pub returns-in_err-counts-clause-err : goal.returns-in_err-counts-clause-err
unfolding record_of
returns-in_err-counts-clause-err c =
    let p = err_from_is_err_and c.from_residual-in_err-counts.result c.from_residual-in_err-counts.ensures.1 in
    let f = c.in_err-counts.field-0.0 in
    let line = tokens c.in_ok-line.line.now in
    rw (p.1, p.2) (subst (Reads (Err f)) (sym (c.in_ok-line.ensures.ok Before))
    (said_fault c.in_ok-line.number c.header_line.result (header_line line) f (line_after Before line)
    (λ next. read_from (c.in_ok-line.number + 1) next (raw_lines c.in_ok-line.rest.now)) c.header_line.ensures.header c.in_err-counts.ensures (header_fails line)))

pub returns-clause-ok : goal.returns-clause-ok
unfolding record_of
returns-clause-ok c =
    let line = tokens c.in_ok-line.line.now in
    c.in_ok-line.ensures.ok Before
    ∙ reads_header c.in_ok-line.number line c.in_ok-line.rest.now c.in_ok-counts.counts
    (said_ok c.in_ok-line.number c.header_line.result (header_line line) c.in_ok-counts.counts c.header_line.ensures.header c.in_ok-counts.ensures)
