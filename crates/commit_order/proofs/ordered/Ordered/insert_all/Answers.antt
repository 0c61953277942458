use Rattle.std.proofs.Common.{◌≡◌, ℕ, ◌+◌, ◌-◌, ◌<◌, ◌≤◌, ◌^◌, false, List, [], ◌∷◌, ◌≢◌, ◌++◌, All, length, nat_le, sym, ap, ◌∙◌, subst, arith}
use Rattle.std.proofs.lemmas.Bool.{lt-leb}
use Rattle.std.specs.List.Sorted.{IsStrictlySortedBy}
use Rattle.std.specs.declared.cmp.Ordering.TheVariants.{Equal}
use Rattle.std.proofs.lemmas.List.Elements.{All-head, All-weaker}
use Rattle.tact_base.specs.declared.write.Write.{Write}
use Rattle.tact_base.specs.WriteOrder.{write_cmp, committed_to}
use Rattle.commit_order.specs.Batches.{with_writes, first_place}
use Rattle.commit_order.specs.Order.{OrderState, KeepsOrder}
use Rattle.commit_order.proofs.BatchOrder.{AreNew, one_write, sorted-with_writes, length-with_writes, filter-with_writes, in_order-with_writes, stays, committed-first_place, first_place-within}
use Rattle.commit_order.proofs.Given.{held-sorted, first_place-is, with_writes-is}
use Rattle.commit_order.proofs.ordered.Ordered.insert_all.Goals as goal

-- Writes past the point, put in behind those that were given up.
module _ (gone held : List Write) (dropped front committed point : ℕ) (kept : KeepsOrder gone held dropped front committed point) (writes : List Write)
    (past : All (λ (write : Write). point < write.stamp) writes) where
  place-is : (place : ℕ) → place ≡ first_place (gone ++ held) writes → place - dropped ≡ first_place held writes
  place-is place is = omega (arith, is, first_place-is gone held point kept.past writes past, kept.many)

  behind : (place : ℕ) → place ≡ first_place (gone ++ held) writes → dropped ≤ place
  behind place is = omega (arith, is, first_place-is gone held point kept.past writes past, kept.many)

  written : (items : List Write) → items ≡ with_writes writes held → gone ++ items ≡ with_writes writes (gone ++ held)
  written items is = ap (λ (rest : List Write). gone ++ rest) is ∙ sym (with_writes-is gone held point kept.past writes past)

  still : (items : List Write)
      → items ≡ with_writes writes held
      → IsStrictlySortedBy write_cmp writes
      → AreNew writes (gone ++ held)
      → dropped + (length held + length writes) < 2 ^ 64
      → KeepsOrder gone items dropped front committed point
  still items is sorted new fits =
      let late : All (λ (write : Write). nat_le write.stamp point ≡ false) writes =
      All-weaker (λ (write : Write). point < write.stamp) (λ (write : Write). nat_le write.stamp point ≡ false) (λ write h. lt-leb write.stamp point h) writes past in
      record {
        sorted = rw (written items is) (sorted-with_writes writes (gone ++ held) sorted new kept.sorted);
        many = kept.many;
        past = kept.past;
        committed = kept.committed ∙ ap length (sym (ap (committed_to point) is ∙ filter-with_writes (λ write. nat_le write.stamp point) writes held late));
        given_up = kept.given_up;
        counted = omega (arith, ap length is, length-with_writes writes held, fits);
      }

-- what is asked of it, of the writes as they are kept
past_is : (seen now : OrderState) (writes : List Write)
    → seen ≡ now
    → All (λ (write : Write). now.point < write.stamp) writes
    → All (λ (write : Write). seen.point < write.stamp) writes
past_is seen now writes same past = subst (λ (s : OrderState). All (λ (write : Write). s.point < write.stamp) writes) (sym same) past

pub insert_copies-requires-clause-held : goal.insert_copies-requires-clause-held
insert_copies-requires-clause-held c =
    held-sorted c.self.inside.gone.items c.self.inside.writes.items c.self.inside.point c.self.invariant.past c.self.invariant.sorted

pub overflow_sub-place : goal.overflow_sub-place
overflow_sub-place c =
    let inside = c.self.inside in
    behind inside.gone.items inside.writes.items inside.dropped inside.front inside.committed inside.point c.self.invariant c.args.writes.now
    (past_is _ c.args.self.now c.args.writes.now c.self.view_is c.requires.tentative) c.place_of_first-place.result
    (subst (λ (s : OrderState). c.place_of_first-place.result ≡ first_place s.writes c.args.writes.now) (sym c.self.view_is) c.place_of_first-place.ensures)

pub insert_copies-requires-clause-place : goal.insert_copies-requires-clause-place
insert_copies-requires-clause-place c =
    let inside = c.self.inside in
    place-is inside.gone.items inside.writes.items inside.dropped inside.front inside.committed inside.point c.self.invariant c.args.writes.now
    (past_is _ c.args.self.now c.args.writes.now c.self.view_is c.requires.tentative) c.place_of_first-place.result
    (subst (λ (s : OrderState). c.place_of_first-place.result ≡ first_place s.writes c.args.writes.now) (sym c.self.view_is) c.place_of_first-place.ensures)

written_is : (c : goal.After-insert_copies) → c.self.inside.gone.items ++ c.insert_copies.new.list.items ≡ with_writes c.args.writes.now c.args.self.now.writes
written_is c =
    let inside = c.self.inside in
    written inside.gone.items inside.writes.items inside.dropped inside.front inside.committed inside.point c.self.invariant c.args.writes.now
    (past_is _ c.args.self.now c.args.writes.now c.self.view_is c.requires.tentative) c.insert_copies.new.list.items c.insert_copies.ensures.items
    ∙ ap (λ (s : OrderState). with_writes c.args.writes.now s.writes) c.self.view_is

pub invariant_of-self : goal.invariant_of-self
invariant_of-self c =
    let inside = c.self.inside in
    let writes = c.args.writes.now in
    let new : AreNew writes (inside.gone.items ++ inside.writes.items) = subst (λ (s : OrderState). AreNew writes s.writes) (sym c.self.view_is) c.requires.new in
    still inside.gone.items inside.writes.items inside.dropped inside.front inside.committed inside.point c.self.invariant writes
    (past_is _ c.args.self.now writes c.self.view_is c.requires.tentative) c.insert_copies.new.list.items c.insert_copies.ensures.items c.requires.sorted new
    (omega (arith, c.self.invariant.counted, c.requires.room, ap (λ (s : OrderState). s.room) c.self.view_is))

sorted_is : (seen now : OrderState)
    → seen ≡ now
    → IsStrictlySortedBy write_cmp seen.writes
    → IsStrictlySortedBy write_cmp now.writes
sorted_is seen now same sorted = subst (λ (s : OrderState). IsStrictlySortedBy write_cmp s.writes) same sorted

pub returns-clause-writes : goal.returns-clause-writes
returns-clause-writes c = written_is c

pub returns-clause-in_order : goal.returns-clause-in_order
returns-clause-in_order c =
    written_is c
    ∙ in_order-with_writes c.args.writes.now c.args.self.now.writes c.requires.sorted c.requires.new (sorted_is _ c.args.self.now c.self.view_is c.self.invariant.sorted)

pub returns-clause-stays : goal.returns-clause-stays
returns-clause-stays c =
    let old = c.args.self.now in
    rw (written_is c, c.place_of_first-place.ensures)
    (stays c.args.writes.now old.writes c.requires.sorted (sorted_is _ old c.self.view_is c.self.invariant.sorted))

pub returns-clause-past : goal.returns-clause-past
returns-clause-past c =
    let old = c.args.self.now in
    omega (arith, c.place_of_first-place.ensures, committed-first_place old.point c.args.writes.now old.writes c.requires.tentative)

pub returns-clause-within : goal.returns-clause-within
returns-clause-within c =
    let old = c.args.self.now in
    omega (arith, c.place_of_first-place.ensures, first_place-within c.args.writes.now old.writes)

pub returns-clause-room : goal.returns-clause-room
returns-clause-room c =
    let many = ap length c.insert_copies.ensures.items ∙ length-with_writes c.args.writes.now c.self.inside.writes.items in
    omega (arith, ap (λ (s : OrderState). s.room) c.self.view_is, c.insert_copies.ensures.room, many)

pub returns-clause-alone : goal.returns-clause-alone
returns-clause-alone c write alone =
    let old = c.args.self.now in
    let sorted = sorted_is _ old c.self.view_is c.self.invariant.sorted in
    let new : AreNew (write ∷ []) old.writes = rw alone at c.requires.new in
    rw (written_is c, c.place_of_first-place.ensures, alone)
    (one_write write old.writes sorted (All-head (λ w. All (λ other. write_cmp other w ≢ Equal) old.writes) write [] new))
