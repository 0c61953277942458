use Rattle.std.proofs.Common.{[], ◌∷◌}
use Rattle.conit_weights.proofs.tests.running_sums_are_of_what_is_held.Goals as goal

pub remove-requires-clause-held : goal.remove-requires-clause-held
remove-requires-clause-held g c = record { front = []; rest = c.in_ok-second.second ∷ []; sums = c.add-2.ensures.added (c.in_ok-first.first ∷ []) [] (c.add.ensures.added [] [] c.in_ok-running.ensures.none) }

pub remove-requires-2-clause-held : goal.remove-requires-2-clause-held
remove-requires-2-clause-held g c = record { front = []; rest = []; sums = c.remove.ensures.removed [] (c.in_ok-second.second ∷ []) (c.add-2.ensures.added (c.in_ok-first.first ∷ []) [] (c.add.ensures.added [] [] c.in_ok-running.ensures.none)) }
