use Rattle.std.proofs.Common.{◌≡◌, ◌-◌, length, get_or}
use Rattle.split_budget.proofs.OwnLemmas.{least_below}
use Rattle.split_budget.proofs.own_writes.OwnWrites.had.Given as goal

-- the least so far
abbrev pub invariant-loop-peer : goal.invariant-loop-peer
invariant-loop-peer l =
    l.count ≡ least_below (length l.self.weights) l.self.replica (λ peer. get_or l.self.known peer 0 - l.self.given_up) l.peer
