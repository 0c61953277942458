use Rattle.std.proofs.Common.{◌≡◌, ℕ, ◌+◌, ◌-◌, ◌≤◌, List, ◌++◌, All, take, drop, ap, length, ◌∙◌, sym, subst, arith}
use Rattle.std.proofs.lemmas.List.{append_assoc, length-append, length-drop, length-take-le, take-append-drop, take-take}
use Rattle.std.proofs.lemmas.List.Elements.{All-append, All-take}
use Rattle.tact_base.proofs.CommitLemmas.{All-committed_to}
use Rattle.tact_base.proofs.OrderLemmas.{IsSorted-from_ordered}
use Rattle.tact_base.specs.WriteOrder.{write_cmp, committed_to}
use Rattle.tact_base.specs.declared.write.Write.{Write}
use Rattle.std.specs.List.Sorted.{IsStrictlySortedBy}
use Rattle.commit_order.specs.Order.{OrderState, KeepsOrder}
use Rattle.commit_order.proofs.Given.{held-sorted}
use Rattle.commit_order.proofs.WriteOrderLemmas.{by_place, committed-few, committed-front, committed_to-drop}
use Rattle.commit_order.proofs.ordered.Ordered.move_up.Goals as goal

-- Writes that aren't held, and others that are; of these the first that were given up go too.
module _ (gone held : List Write) (dropped k committed point : ℕ) (kept : KeepsOrder gone held dropped k committed point) where
  pub early : k ≤ length (committed_to point held)
  early = omega (arith, kept.committed, kept.given_up)

  pub within : k ≤ length held
  within = omega (arith, early, committed-few point held)

  pub same : (gone ++ take k held) ++ drop k held ≡ gone ++ held
  same = append_assoc gone (take k held) (drop k held) ∙ ap (λ (rest : List Write). gone ++ rest) (take-append-drop k held)

  sorted : IsStrictlySortedBy write_cmp held
  sorted = held-sorted gone held point kept.past kept.sorted

  going : All (λ (write : Write). write.stamp ≤ point) (take k held)
  going =
      let front : take k (committed_to point held) ≡ take k held =
      ap (take k) (committed-front point held sorted) ∙ take-take k (length (committed_to point held)) held early in
      subst (All (λ (write : Write). write.stamp ≤ point)) front (All-take (λ (write : Write). write.stamp ≤ point) k (committed_to point held) (All-committed_to point held))

  pub still : (after left : List Write)
      → after ≡ gone ++ take k held
      → left ≡ drop k held
      → KeepsOrder after left (dropped + k) 0 (committed - k) point
  still after left is rest =
      rw (is, rest) (record {
        sorted = rw same kept.sorted;
        many = omega (arith, length-append gone (take k held), length-take-le k held within, kept.many);
        past = All-append (λ (write : Write). write.stamp ≤ point) gone (take k held) kept.past going;
        committed = omega (
          arith,
          kept.committed,
          ap length (committed_to-drop point held (IsSorted-from_ordered held (by_place held sorted)) k early),
          length-drop k (committed_to point held),
        );
        given_up = omega arith;
        counted = omega (arith, length-drop k held, within, kept.counted);
      })

pub slice_bounds-extend-end : goal.slice_bounds-extend-end
slice_bounds-extend-end c =
    let inside = c.self.inside in
    let least = within inside.gone.items inside.writes.items inside.dropped inside.front inside.committed inside.point c.self.invariant in
    sym (length-take-le c.self.inside.front c.items.result.now (omega (arith, least, ap length c.items.ensures)))

pub drop_front-requires : goal.drop_front-requires
drop_front-requires c =
    let inside = c.self.inside in
    omega (arith, within inside.gone.items inside.writes.items inside.dropped inside.front inside.committed inside.point c.self.invariant)

pub overflow_sub-self : goal.overflow_sub-self
overflow_sub-self c =
    let inside = c.self.inside in
    omega (arith, c.self.invariant.committed, early inside.gone.items inside.writes.items inside.dropped inside.front inside.committed inside.point c.self.invariant)

pub overflow_add-self : goal.overflow_add-self
overflow_add-self c =
    let inside = c.self.inside in
    omega (arith, c.self.invariant.counted, within inside.gone.items inside.writes.items inside.dropped inside.front inside.committed inside.point c.self.invariant)

pub invariant_of-self : goal.invariant_of-self
invariant_of-self c =
    let inside = c.self.inside in
    still inside.gone.items inside.writes.items inside.dropped inside.front inside.committed inside.point c.self.invariant
    c.extend.new.self.items c.drop_front.new.self.items (c.extend.ensures ∙ ap (λ (l : List Write). inside.gone.items ++ take c.self.inside.front l) c.items.ensures) c.drop_front.ensures.items

pub returns-clause-room : goal.returns-clause-room
returns-clause-room c =
    let inside = c.self.inside in
    let least = within inside.gone.items inside.writes.items inside.dropped inside.front inside.committed inside.point c.self.invariant in
    let many = ap length c.drop_front.ensures.items ∙ length-drop c.self.inside.front inside.writes.items in
    omega (arith, ap (λ (s : OrderState). s.room) c.self.view_is, many, least, c.drop_front.ensures.room)
