use Rattle.std.proofs.Common.{refl}
use Rattle.split_budget.proofs.KeptLemmas.{other_of_peer}
use Rattle.split_budget.proofs.budgets.Budgets.missing.Goals as goal

pub plus-requires-clause-peer : goal.plus-requires-clause-peer
plus-requires-clause-peer c =
    other_of_peer _ c.self.inside.own c.self.invariant refl c.args.peer (rw (← c.self.view_is) at c.requires.peer)

pub minus-requires-clause-peer : goal.minus-requires-clause-peer
minus-requires-clause-peer c =
    other_of_peer _ c.self.inside.own c.self.invariant refl c.args.peer (rw (← c.self.view_is) at c.requires.peer)
