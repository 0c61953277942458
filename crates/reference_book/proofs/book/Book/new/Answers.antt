use Rattle.std.proofs.Common.{arith, ◌∙◌}
use Rattle.reference_book.proofs.Made.{KeepsBook-made, IsBookOf-made}
use Rattle.reference_book.proofs.book.Book.new.Goals as goal

pub invariant_of-result : goal.invariant_of-result
invariant_of-result c = KeepsBook-made _ _ c.loop.counter c.loop.invariant (omega arith) c.in_ok-sums.ensures.none

pub returns : goal.returns
returns c =
    IsBookOf-made _ _ c.loop.counter (c.in_ok-sums.ensures.conits ∙ c.conits.ensures.count) c.loop.invariant (omega arith)
