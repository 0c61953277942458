use Rattle.std.proofs.Common.{nat_lt}
use Rattle.std.specs.List.{IsFirstBest}
use Rattle.tact_base.proofs.slowest.slowest_of.Given as goal

abbrev pub invariant-loop-replica : goal.invariant-loop-replica
invariant-loop-replica l = IsFirstBest (λ x y. nat_lt x.stamp y.stamp) l.covers l.replica l.slowest
