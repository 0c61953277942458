use Rattle.std.proofs.Common.{◌++◌, take}
use Rattle.tact_io.proofs.SourceLemmas.{gives_more}
use Rattle.tact_io.proofs.reading.read_all.Goals as goal

pub returns-then-count-most-clause-takes_front : goal.returns-then-count-most-clause-takes_front
returns-then-count-most-clause-takes_front g c = (
  c.loop-bytes.bytes ++ take c.in_ok-count.count c.read.new.buf,
  gives_more _ _ _ _ _ c.loop-bytes.invariant.given c.in_ok-count.ensures.gives,
)

pub returns-in_err-append-clause-takes_front : goal.returns-in_err-append-clause-takes_front
returns-in_err-append-clause-takes_front g c = (
  c.loop-bytes.bytes ++ take c.in_ok-count.count c.read.new.buf,
  gives_more _ _ _ _ _ c.loop-bytes.invariant.given c.in_ok-count.ensures.gives,
)
