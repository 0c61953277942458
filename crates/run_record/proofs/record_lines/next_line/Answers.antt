use Rattle.std.proofs.Common.{rules, ◌<◌, length, sym, ◌∙◌, arith}
use Rattle.run_record.proofs.TextLines.{comes_to_line, faulty_line, skips_line}
use Rattle.run_record.proofs.record_lines.next_line.Goals as goal

pub returns-in-Some-clause-err : goal.returns-in-Some-clause-err
returns-in-Some-clause-err c = λ stage.
    let some : 0 < length c.loop-rest.rest.now = search rules in
    sym (c.loop-rest.invariant.read stage)
    ∙ faulty_line c.loop-rest.number stage c.loop-rest.rest.now c.split_line.result.0.now c.split_line.result.1.now (c.split_line.ensures.pieces some) c.in-Some.kind c.in-Some.ensures

pub returns-then-not-is_skipped-clause-ok : goal.returns-then-not-is_skipped-clause-ok
returns-then-not-is_skipped-clause-ok c = λ stage.
    let some : 0 < length c.loop-rest.rest.now = search rules in
    sym (c.loop-rest.invariant.read stage)
    ∙ comes_to_line c.loop-rest.number stage c.loop-rest.rest.now c.split_line.result.0.now c.split_line.result.1.now (c.split_line.ensures.pieces some) c.in_default.ensures
    (sym c.is_skipped.ensures ∙ c.if-not-is_skipped.true)

pub loop-rest-preserved : goal.loop-rest-preserved
loop-rest-preserved c =
    let some : 0 < length c.loop-rest.rest.now = search rules in
    let shorter = c.split_line.ensures.shorter some in
    record {
      room = omega (arith, shorter, c.loop-rest.invariant.room);
      shorter = omega (arith, shorter, c.loop-rest.invariant.shorter);
      read = λ stage.
          sym (skips_line c.loop-rest.number stage c.loop-rest.rest.now c.split_line.result.0.now c.split_line.result.1.now (c.split_line.ensures.pieces some) c.in_default.ensures
          (sym c.is_skipped.ensures ∙ c.if-not-is_skipped.false))
          ∙ c.loop-rest.invariant.read stage;
    }
