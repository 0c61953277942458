use Rattle.std.proofs.Common.{◌≡◌, [], replicate}
use Rattle.reference_book.proofs.book.Book.new.Given as goal

abbrev pub invariant-loop : goal.invariant-loop
invariant-loop l = l.logs.items ≡ replicate l.counter []
