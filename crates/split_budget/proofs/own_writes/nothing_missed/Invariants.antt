use Rattle.std.proofs.Common.{◌≡◌, [], All, length}
use Rattle.split_budget.specs.Missed.{AreMissed}
use Rattle.split_budget.proofs.own_writes.nothing_missed.Given as goal

abbrev pub invariant-loop : goal.invariant-loop
invariant-loop l = record {
  long : length l.missed.items ≡ l.counter;
  none : All (λ missed. AreMissed l.conits [] missed) l.missed.items;
}
