use Rattle.std.proofs.Common.{ap, arith}
use Rattle.tact_base.specs.Sums.{order_sum}
use Rattle.tact_base.specs.WriteOrder.{committed_to, tentative_past}
use Rattle.replica_core.specs.Seen.{SeenState, weights_of}
use Rattle.replica_core.proofs.SeenLemmas.{settled-is}
use Rattle.replica_core.proofs.seen.Seen.tentative_weight.Goals as goal

pub overflow_sub-result : goal.overflow_sub-result
overflow_sub-result c =
    let old = c.self.inside.ordered in
    let has = c.self.invariant.has_sums in
    omega (
      arith,
      c.order.ensures (weights_of old.writes) has.all,
      c.weight.ensures (weights_of (committed_to old.point old.writes)) has.settled,
      settled-is old.writes c.self.invariant.sorted old.point c.args.conit,
    )

pub returns : goal.returns
returns c =
    let old = c.self.inside.ordered in
    let has = c.self.invariant.has_sums in
    omega (
      arith,
      c.order.ensures (weights_of old.writes) has.all,
      c.weight.ensures (weights_of (committed_to old.point old.writes)) has.settled,
      settled-is old.writes c.self.invariant.sorted old.point c.args.conit,
      ap (λ (s : SeenState). order_sum (tentative_past s.point s.writes) c.args.conit) c.self.view_is,
    )
