use Rattle.std.proofs.Common.{◌∙◌, sym, arith, length-take}
use Rattle.tact_io.proofs.SourceLemmas.{front_and_left}
use Rattle.tact_io.proofs.memory_source.SureSourceSource.read.Goals as goal

pub returns-clause-gives : goal.returns-clause-gives
returns-clause-gives c =
    let copied = rw c.items.ensures at c.copy_from_slice.ensures.after in
    sym c.self.view_is ∙ front_and_left c.self.inside.bytes _ _ _ _ copied
    (omega (arith, c.copy_from_slice.ensures.len, c.min-count.ensures, length-take c.min-count.result c.args.buf.now))
