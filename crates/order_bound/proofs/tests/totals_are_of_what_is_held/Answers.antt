use Rattle.std.proofs.Common.{[], ◌∷◌}
use Rattle.order_bound.proofs.tests.totals_are_of_what_is_held.Goals as goal

pub remove-requires-clause-held : goal.remove-requires-clause-held
remove-requires-clause-held g c = record { front = []; rest = c.in_ok-second.second ∷ []; sums = c.add-2.ensures.added (c.in_ok-first.first ∷ []) [] (c.add.ensures.added [] [] c.in_ok-totals.ensures.none) }

pub remove-requires-2-clause-held : goal.remove-requires-2-clause-held
remove-requires-2-clause-held g c = record { front = []; rest = []; sums = c.remove.ensures.removed [] (c.in_ok-second.second ∷ []) (c.add-2.ensures.added (c.in_ok-first.first ∷ []) [] (c.add.ensures.added [] [] c.in_ok-totals.ensures.none)) }
