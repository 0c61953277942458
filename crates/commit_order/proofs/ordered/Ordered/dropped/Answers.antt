use Rattle.std.proofs.Common.{arith}
use Rattle.commit_order.proofs.Given.{committed-length}
use Rattle.commit_order.proofs.WriteOrderLemmas.{committed-few}
use Rattle.commit_order.proofs.ordered.Ordered.dropped.Goals as goal

pub overflow_add-result : goal.overflow_add-result
overflow_add-result c =
    let inside = c.self.inside in
    let kept = c.self.invariant in
    omega (arith, kept.given_up, kept.committed, kept.counted, committed-few inside.point inside.writes.items)

pub returns-clause-within : goal.returns-clause-within
returns-clause-within c =
    let inside = c.self.inside in
    let kept = c.self.invariant in
    rw (← c.self.view_is) (omega (arith, kept.many, kept.committed, kept.given_up, committed-length inside.gone.items inside.writes.items inside.point kept.past inside.point (omega arith)))
