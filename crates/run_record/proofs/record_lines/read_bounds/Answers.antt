use Rattle.std.proofs.Common.{◌≡◌, ◌+◌, ◌*◌, ◌/◌, ◌%◌, ◌<◌, length, Ok, Err, refl, sym, ap, subst, ◌∙◌, arith}
use Rattle.std.proofs.lemmas.List.{length_push}
use Rattle.std.proofs.lemmas.Result.{err_from_is_err_and}
use Rattle.run_record.specs.Splitting.{raw_lines, tokens}
use Rattle.run_record.specs.RecordLines.{Bounds, Reads, bound_line, line_after, read_from}
use Rattle.run_record.proofs.SetupRows.{IsBound, bounds_are_setup}
use Rattle.run_record.proofs.TextBounds.{bound_is_good}
use Rattle.run_record.proofs.TextLines.{bound_fails, bounds_more, not_all, reads_bound, said_fault, said_ok}
use Rattle.run_record.proofs.record_lines.read_bounds.Goals as goal

pub returns-in_err-numbered-clause-err : goal.returns-in_err-numbered-clause-err
returns-in_err-numbered-clause-err c =
    let p = err_from_is_err_and c.from_residual-in_err-numbered.result c.from_residual-in_err-numbered.ensures.1 in
    let f = c.in_err-numbered.field-0.0 in
    let counts = c.args.counts in
    let bounds = c.loop-row.bounds in
    let line = tokens c.in_ok-line.line.now in
    let at = c.in_ok-line.at in
    let many = c.loop-row.invariant.many in
    let some_left : length bounds < counts.replicas * counts.conits = omega arith in
    let so_far = sym c.loop-row.invariant.read ∙ ap (λ stage. read_from c.loop-row.number stage (raw_lines c.loop-row.rest.now)) (not_all counts bounds some_left) ∙ c.in_ok-line.ensures.ok (Bounds counts bounds) in
    let said = subst (λ r. bound_line counts.replicas (length bounds / counts.conits) (length bounds % counts.conits) line ≡ bound_line counts.replicas (r / counts.conits) (r % counts.conits) line) many refl in
    rw (p.1, p.2) (subst (Reads (Err f)) (sym so_far)
    (said_fault at c.bound_line-bound.result (bound_line counts.replicas (c.loop-row.row / counts.conits) (c.loop-row.row % counts.conits) line) f (line_after (Bounds counts bounds) line)
    (λ next. read_from (at + 1) next (raw_lines c.in_ok-line.after.now)) c.bound_line-bound.ensures c.in_err-numbered.ensures
    (λ kind is. bound_fails line counts bounds kind (said ∙ is))))

pub loop-row-preserved : goal.loop-row-preserved
loop-row-preserved c =
    let counts = c.args.counts in
    let bounds = c.loop-row.bounds in
    let bound = c.in_ok-numbered.field-0 in
    let line = tokens c.in_ok-line.line.now in
    let at = c.in_ok-line.at in
    let row = c.loop-row.row in
    let many = c.loop-row.invariant.many in
    let some_left : length bounds < counts.replicas * counts.conits = omega arith in
    let so_far = sym c.loop-row.invariant.read ∙ ap (λ stage. read_from c.loop-row.number stage (raw_lines c.loop-row.rest.now)) (not_all counts bounds some_left) ∙ c.in_ok-line.ensures.ok (Bounds counts bounds) in
    let said = said_ok at c.bound_line-bound.result (bound_line counts.replicas (row / counts.conits) (row % counts.conits) line) bound c.bound_line-bound.ensures c.in_ok-numbered.ensures in
    let here : bound_line counts.replicas (length bounds / counts.conits) (length bounds % counts.conits) line ≡ Ok bound =
    subst (λ r. bound_line counts.replicas (r / counts.conits) (r % counts.conits) line ≡ Ok bound) (sym many) said in
    let from_none : length bounds ≡ 0 + length bounds = omega arith in
    let good : IsBound counts.replicas ((0 + length bounds) / counts.conits) bound =
    subst (λ r. IsBound counts.replicas (r / counts.conits) bound) from_none (bound_is_good counts.replicas (length bounds / counts.conits) (length bounds % counts.conits) line bound here) in
    rw c.in_ok-push.ensures.ok (record {
      many = omega (arith, length_push bounds bound, many);
      are = bounds_more counts.replicas counts.conits 0 bounds bound c.loop-row.invariant.are good;
      room = omega (arith, c.in_ok-line.ensures.room, c.loop-row.invariant.room);
      read = sym (so_far ∙ reads_bound at line c.in_ok-line.after.now counts bounds bound here);
    })

pub config_of-requires : goal.config_of-requires
config_of-requires c =
    let counts = c.args.counts in
    let bounds = c.loop-row.bounds in
    let many : length bounds ≡ counts.replicas * counts.conits = omega (arith, c.loop-row.invariant.many) in
    rw c.items.ensures (bounds_are_setup counts bounds c.requires.counts many c.loop-row.invariant.are)
