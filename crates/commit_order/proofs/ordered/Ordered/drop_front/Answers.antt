use Rattle.std.proofs.Common.{◌≡◌, ℕ, ◌+◌, ◌≤◌, List, ◌++◌, length, ap, sym, subst, arith}
use Rattle.tact_base.specs.WriteOrder.{committed_to}
use Rattle.tact_base.specs.declared.write.Write.{Write}
use Rattle.commit_order.specs.Order.{OrderState, KeepsOrder}
use Rattle.commit_order.proofs.Given.{committed-length}
use Rattle.commit_order.proofs.WriteOrderLemmas.{committed-few}
use Rattle.commit_order.proofs.ordered.Ordered.drop_front.Goals as goal

-- of the committed writes that are held at most all are given up
all_committed : (gone held : List Write) (dropped front committed point k : ℕ)
    → KeepsOrder gone held dropped front committed point
    → dropped + front + k ≤ length (committed_to point (gone ++ held))
    → front + k ≤ committed
all_committed gone held dropped front committed point k kept few =
    omega (arith, few, kept.many, kept.committed, committed-length gone held point kept.past point (omega arith))

few_is : (seen now : OrderState) (k : ℕ)
    → seen ≡ now
    → now.dropped + k ≤ length (committed_to now.point now.writes)
    → seen.dropped + k ≤ length (committed_to seen.point seen.writes)
few_is seen now k same few = subst (λ (s : OrderState). s.dropped + k ≤ length (committed_to s.point s.writes)) (sym same) few

pub overflow_add-self : goal.overflow_add-self
overflow_add-self c =
    let inside = c.self.inside in
    let kept = c.self.invariant in
    let most = all_committed inside.gone.items inside.writes.items inside.dropped inside.front inside.committed inside.point c.args.k kept
    (few_is _ c.args.self.now c.args.k c.self.view_is c.requires) in
    omega (arith, most, kept.committed, kept.counted, committed-few inside.point inside.writes.items)

pub overflow_sub-items : goal.overflow_sub-items
overflow_sub-items c =
    let inside = c.self.inside in
    let kept = c.self.invariant in
    let most = all_committed inside.gone.items inside.writes.items inside.dropped inside.front inside.committed inside.point c.args.k kept
    (few_is _ c.args.self.now c.args.k c.self.view_is c.requires) in
    omega (arith, most, kept.committed, committed-few inside.point inside.writes.items, ap length c.items.ensures)

-- what is kept then
gives_up : (gone held : List Write) (dropped front committed point k : ℕ)
    → KeepsOrder gone held dropped front committed point
    → dropped + front + k ≤ length (committed_to point (gone ++ held))
    → KeepsOrder gone held dropped (front + k) committed point
gives_up gone held dropped front committed point k kept few = record {
  sorted = kept.sorted;
  many = kept.many;
  past = kept.past;
  committed = kept.committed;
  given_up = all_committed gone held dropped front committed point k kept few;
  counted = kept.counted;
}

pub invariant_of-self : goal.invariant_of-self
invariant_of-self c =
    let inside = c.self.inside in
    gives_up inside.gone.items inside.writes.items inside.dropped inside.front inside.committed inside.point c.args.k c.self.invariant (few_is _ c.args.self.now c.args.k c.self.view_is c.requires)

pub invariant_of-self-else-self-items : goal.invariant_of-self-else-self-items
invariant_of-self-else-self-items c =
    let inside = c.self.inside in
    gives_up inside.gone.items inside.writes.items inside.dropped inside.front inside.committed inside.point c.args.k c.self.invariant (few_is _ c.args.self.now c.args.k c.self.view_is c.requires)
