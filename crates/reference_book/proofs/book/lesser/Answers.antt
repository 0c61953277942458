use Rattle.std.proofs.Common.{subst}
use Rattle.reference_book.proofs.Least.{IsLeast-both}
use Rattle.reference_book.specs.Books.{IsLeast}
use Rattle.reference_book.proofs.book.lesser.Goals as goal

pub returns-in-Some-Some : goal.returns-in-Some-Some
returns-in-Some-Some c = λ xs ys first second.
    IsLeast-both xs ys c.in-Some-Some.one c.in-Some-Some.other c.min.result c.min.ensures
    (subst (IsLeast xs) c.in-Some-Some.is-0 first) (subst (IsLeast ys) c.in-Some-Some.is-1 second)
