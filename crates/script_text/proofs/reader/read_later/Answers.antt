use Rattle.std.proofs.Common.{◌<◌, length, arith}
use Rattle.std.proofs.lemmas.Bool.Decides.{nat_tests}
use Rattle.std.proofs.lemmas.List.Elements.{All-head, All-tail}
use Rattle.run_record.specs.Splitting.{raw_lines}
use Rattle.script_text.specs.GoodLines.{IsGood}
use Rattle.script_text.proofs.reader.read_later.Goals as goal

pub read_line-requires-clause-good : goal.read_line-requires-clause-good
read_line-requires-clause-good c = λ good.
    let some : 0 < length c.loop-rest.rest.now = grind (arith, nat_tests) in
    All-head IsGood c.split_line.result.0.now (raw_lines c.split_line.result.1.now) (rw (c.split_line.ensures.pieces some) at (c.loop-rest.invariant.good good))

pub loop-rest-preserved : goal.loop-rest-preserved
loop-rest-preserved c =
    let some : 0 < length c.loop-rest.rest.now = grind (arith, nat_tests) in
    let read = c.in-Ok.ensures in record {
      reading = read.reading;
      lines = omega (arith, read.grows, c.loop-rest.invariant.lines);
      few = omega (arith, read.few);
      good = λ good. All-tail IsGood c.split_line.result.0.now (raw_lines c.split_line.result.1.now)
          (rw (c.split_line.ensures.pieces some) at (c.loop-rest.invariant.good good));
      read = rw read.read at (rw (c.split_line.ensures.pieces some) at c.loop-rest.invariant.read);
    }
