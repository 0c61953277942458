use Rattle.std.proofs.Common.{◌≡◌, length, nat_lt, sym, arith}
use Rattle.std.specs.List.{IsFirstBest}
use Rattle.tact_base.proofs.CoversLemmas.{least_stamp-first, slowest-first}
use Rattle.tact_base.proofs.slowest.slowest_of.Goals as goal

first : (c : goal.After-loop-replica)
    → IsFirstBest (λ x y. nat_lt x.stamp y.stamp) c.args.covers.now (length c.args.covers.now) c.loop-replica.slowest
first c =
    let end : length c.args.covers.now ≡ c.loop-replica.replica = omega arith in
    rw end c.loop-replica.invariant

pub returns-clause-replica : goal.returns-clause-replica
returns-clause-replica c =
    sym (slowest-first c.args.covers.now c.loop-replica.slowest (record { count = 0; stamp = 0; moment = 0 }) (first c))

pub returns-clause-stamp : goal.returns-clause-stamp
returns-clause-stamp c =
    least_stamp-first c.args.covers.now c.loop-replica.slowest (record { count = 0; stamp = 0; moment = 0 }) (first c)
