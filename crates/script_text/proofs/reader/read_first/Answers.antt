use Rattle.std.proofs.Common.{List, length, ap, arith}
use Rattle.run_model.specs.declared.script_line.Line.{Line}
use Rattle.script_text.proofs.reader.read_first.Goals as goal

pub returns-in-Ok-Some-clause-lines : goal.returns-in-Ok-Some-clause-lines
returns-in-Ok-Some-clause-lines c =
    omega (arith, ap (λ (lines : List Line). length lines) c.in_ok-reader-in-Ok-Some.ensures.lines, c.loop-rest.invariant.0)
