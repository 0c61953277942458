use Rattle.std.proofs.Common.{◌≡◌}
use Rattle.split_budget.proofs.SumsKept.{HasAdded}
use Rattle.split_budget.proofs.own_writes.OwnWrites.add.Given as goal

-- the replicas so far have the write among what they may miss, the others not yet
abbrev pub invariant-loop-peer : goal.invariant-loop-peer
invariant-loop-peer l = record {
  replica : l.self-inside.replica ≡ l.initial.self-inside.replica;
  conits : l.self-inside.conits ≡ l.initial.self-inside.conits;
  given_up : l.self-inside.given_up ≡ l.initial.self-inside.given_up;
  writes : l.self-inside.writes ≡ l.initial.self-inside.writes;
  known : l.self-inside.known ≡ l.initial.self-inside.known;
  sums : HasAdded l.fn.self l.weights l.peer l.self-inside.missed.items;
}
