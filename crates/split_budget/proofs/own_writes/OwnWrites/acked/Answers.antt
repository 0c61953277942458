use Rattle.std.proofs.Common.{arith}
use Rattle.std.proofs.lemmas.List.{length-set}
use Rattle.split_budget.specs.OwnWrites.{IsOther}
use Rattle.split_budget.proofs.SumsKept.{had-count, had-fits, KeepsSums-without_had}
use Rattle.split_budget.proofs.own_writes.OwnWrites.acked.Goals as goal
use Rattle.split_budget.proofs.own_writes.OwnWrites.acked.Goals.{After-had-spare}

-- the replica is still another one
other : (c : After-had-spare) → IsOther c.note.new.self c.args.peer
other c = rw c.note.ensures (rw (length-set c.args.self.now.known c.args.peer) c.requires.0, c.requires.1)

pub drop_front-requires : goal.drop_front-requires
drop_front-requires c =
    let spare = rw (← c.self.view_is) at c.had-spare.ensures in
    omega (arith, spare, had-count _ c.self.inside.missed.items c.self.invariant)

pub overflow_add-self : goal.overflow_add-self
overflow_add-self c =
    let spare = rw (← c.self.view_is) at c.had-spare.ensures in
    let is = rw (← c.self.view_is) at (other (goal.at.overflow_add-self c).After-had-spare) in
    omega (arith, spare, had-fits _ c.self.inside.missed.items c.self.invariant c.args.peer is)

pub invariant_of-self : goal.invariant_of-self
invariant_of-self c =
    let spare = rw (← c.self.view_is) at c.had-spare.ensures in
    rw (c.drop_front.ensures.items, spare) (KeepsSums-without_had _ c.self.inside.missed.items c.self.invariant c.drop_front.new.self.room)
