use Rattle.std.proofs.Common.{[], ◌∷◌, ◌++◌}
use Rattle.given_up.proofs.list.GivenUp.and.Given as goal

abbrev pub ghost-of_items : goal.ghost-of_items
ghost-of_items g a = a._front.now.items ++ a._last.now ∷ []
