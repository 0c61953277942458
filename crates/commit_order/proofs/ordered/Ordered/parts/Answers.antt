use Rattle.std.proofs.Common.{arith, ◌≡◌, ◌++◌, drop, length, ap, sym, ◌∙◌}
use Rattle.std.proofs.lemmas.List.{drop-drop}
use Rattle.tact_base.specs.WriteOrder.{committed_to}
use Rattle.commit_order.proofs.Given.{held-sorted, committed-held, committed-length, tentative-is}
use Rattle.commit_order.proofs.WriteOrderLemmas.{committed-few, committed-front, tentative-rest}
use Rattle.commit_order.proofs.ordered.Ordered.parts.Goals as goal

pub split_at-requires : goal.split_at-requires
split_at-requires c =
    let held : length c.items.result.now ≡ length c.self.inside.writes.items = ap length c.items.ensures in
    omega (arith, held, c.self.invariant.committed, committed-few c.self.inside.point c.self.inside.writes.items)

pub returns-clause-committed : goal.returns-clause-committed
returns-clause-committed c =
    let gone = c.self.inside.gone.items in
    let held = c.self.inside.writes.items in
    let point = c.self.inside.point in
    let front = c.self.inside.front in
    let kept = c.self.invariant in
    rw (c.split_at-2.ensures.back, c.split_at.ensures.front, c.items.ensures, kept.committed, ← c.self.view_is, ← kept.many)
    (ap (drop front)
    (sym (committed-front point held (held-sorted gone held point kept.past kept.sorted))
    ∙ sym (committed-held gone held point kept.past point (omega arith)))
    ∙ drop-drop front (length gone) (committed_to point (gone ++ held)))

pub returns-clause-tentative : goal.returns-clause-tentative
returns-clause-tentative c =
    let gone = c.self.inside.gone.items in
    let held = c.self.inside.writes.items in
    let point = c.self.inside.point in
    let kept = c.self.invariant in
    rw (c.split_at.ensures.back, c.items.ensures, kept.committed, ← c.self.view_is)
    (sym (tentative-rest point held (held-sorted gone held point kept.past kept.sorted))
    ∙ sym (tentative-is gone held point kept.past))

pub returns-clause-within : goal.returns-clause-within
returns-clause-within c =
    let inside = c.self.inside in
    let kept = c.self.invariant in
    rw (← c.self.view_is) (omega (arith, kept.many, kept.committed, kept.given_up, committed-length inside.gone.items inside.writes.items inside.point kept.past inside.point (omega arith)))
