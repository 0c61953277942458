use Rattle.std.proofs.Common.{[], ◌∷◌, ◌++◌, sym, subst, arith}
use Rattle.std.proofs.lemmas.List.{length-map}
use Rattle.tact_base.specs.declared.write.Write.{Write}
use Rattle.std.proofs.lemmas.Grind.{common_steps}
use Rattle.reference_book.specs.Books.{BookState, KeepsBook, IsBookOf, writes_in}
use Rattle.reference_book.proofs.Accepting.{writes_in-few, KeepsBook-accepted}
use Rattle.reference_book.proofs.Histories.{IsBookOf-accepted}
use Rattle.reference_book.proofs.book.Book.accept.Goals as goal

pub add-requires-clause-few : goal.add-requires-clause-few
add-requires-clause-few c =
    let keeps : KeepsBook c.args.self.now c.self.inside.sums = subst (λ (b : BookState). KeepsBook b c.self.inside.sums) c.self.view_is c.self.invariant in
    omega (
      arith,
      keeps.sums.plus.held,
      length-map (writes_in c.args.self.now) (λ (write : Write). write.weights),
      writes_in-few c.args.self.now c.self.inside.sums keeps,
    )

pub invariant_of-self-2 : goal.invariant_of-self-2
invariant_of-self-2 c =
    let keeps : KeepsBook c.args.self.now c.self.inside.sums = subst (λ (b : BookState). KeepsBook b c.self.inside.sums) c.self.view_is c.self.invariant in
    subst (λ (b : BookState). KeepsBook b c.add.new.self) (sym (grind (arith, common_steps)))
    (KeepsBook-accepted c.args.self.now c.args.write.now c.requires c.self.inside.sums c.add.new.self keeps c.add.ensures.added)

pub returns-clause-of_history : goal.returns-clause-of_history
returns-clause-of_history c = λ setup history entry is some.
    subst (IsBookOf setup (history ++ entry ∷ [])) (sym (grind (arith, common_steps)))
    (IsBookOf-accepted setup history c.args.self.now is entry c.args.write.now c.requires.origin some)
