use Rattle.std.proofs.Common.{◌<◌, refl, ap, arith}
use Rattle.tact_base.specs.declared.write.Place.{Place}
use Rattle.commit_order.specs.Order.{OrderState}
use Rattle.commit_order.proofs.Given.{held-sorted, place_in-is}
use Rattle.commit_order.proofs.ordered.Ordered.place.Goals as goal

pub place_among-requires : goal.place_among-requires
place_among-requires c =
    let kept = c.self.invariant in
    rw c.items.ensures (held-sorted c.self.inside.gone.items c.self.inside.writes.items c.self.inside.point kept.past kept.sorted)

pub returns : goal.returns
returns c =
    let gone = c.self.inside.gone.items in
    let held = c.self.inside.writes.items in
    let point = c.self.inside.point in
    let kept = c.self.invariant in
    let late : point < c.args.stamp = omega (arith, c.requires, ap (λ (s : OrderState). s.point) c.self.view_is) in
    let place : Place = record { stamp = c.args.stamp; origin = c.args.origin; index = c.args.index } in
    let whole = place_in-is gone held point kept.past place late in
    rw (← c.self.view_is, whole, kept.many, c.place_among.ensures, c.items.ensures) refl
