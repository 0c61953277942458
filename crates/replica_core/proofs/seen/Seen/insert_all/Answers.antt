use Rattle.std.proofs.Common.{◌≡◌, ℕ, ◌<◌, ◌-◌, ◌++◌, All, List, length, take, false, nat_le, sym, ap, ◌∙◌, subst, arith}
use Rattle.std.proofs.lemmas.Bool.{lt-leb}
use Rattle.std.proofs.lemmas.List.{length-map, take-map}
use Rattle.std.proofs.lemmas.List.Elements.{All-append, All-weaker}
use Rattle.std.specs.List.Sorted.{IsSorted}
use Rattle.tact_base.proofs.CommitLemmas.{length-committed_tentative}
use Rattle.tact_base.proofs.OrderLemmas.{IsSorted-from_ordered, IsSortedByPlace-from_sorted, All-in_order}
use Rattle.tact_base.specs.Images.{ops_of}
use Rattle.tact_base.specs.WriteOrder.{write_cmp, committed_to, tentative_past}
use Rattle.tact_base.specs.declared.conit_list.Weight.{Weight}
use Rattle.tact_base.specs.declared.write.Write.{Write}
use Rattle.commit_order.proofs.BatchOrder.{filter-with_writes}
use Rattle.commit_order.specs.Batches.{with_writes}
use Rattle.conit_weights.specs.Running.{conits_of}
use Rattle.replica_core.specs.Seen.{SeenState, AreOnConits}
use Rattle.replica_core.proofs.ImageSteps.{op_of, late-alone, late-stays, tentative-joined, HasImage-admitted, sorted-with_writes, length-with_writes}
use Rattle.replica_core.proofs.SeenLemmas.{HasSums-admitted}
use Rattle.replica_core.proofs.seen.Seen.insert_all.Goals as goal

-- Writes past a point, put into others in order.
module _ (point : ℕ) (writes held more : List Write) (is : more ≡ with_writes writes held) (past : All (λ (write : Write). point < write.stamp) writes) where
  same_committed : committed_to point more ≡ committed_to point held
  same_committed =
      ap (committed_to point) is
      ∙ filter-with_writes (λ write. nat_le write.stamp point) writes held
      (All-weaker (λ (write : Write). point < write.stamp) (λ (write : Write). nat_le write.stamp point ≡ false) (λ write h. lt-leb write.stamp point h) writes past)

  still_sorted : IsSorted write_cmp held → IsSorted write_cmp more
  still_sorted sorted = subst (IsSorted write_cmp) (sym is) (IsSorted-from_ordered (with_writes writes held) (sorted-with_writes writes held (IsSortedByPlace-from_sorted held sorted)))

pub follow-requires-clause-committed : goal.follow-requires-clause-committed
follow-requires-clause-committed c =
    let old = c.self.inside.ordered in
    let made = c.insert_all-place in
    let past = subst (λ (s : SeenState). All (λ (write : Write). s.point < write.stamp) c.args.writes.now) (sym c.self.view_is) c.requires.past in
    c.self.invariant.has_image.committed
    ∙ ap length (sym (same_committed old.point c.args.writes.now old.writes made.new.self.writes made.ensures.writes past))
    ∙ ap (λ (p : ℕ). length (committed_to p made.new.self.writes)) (sym made.ensures.point)

pub follow-requires-clause-within : goal.follow-requires-clause-within
follow-requires-clause-within c =
    let old = c.self.inside.ordered in
    let has = c.self.invariant.has_image in
    omega (arith, c.insert_all-place.ensures.within, length-committed_tentative old.point old.writes, has.committed, ap length has.ops, length-map (tentative_past old.point old.writes) op_of)

pub follow-requires-clause-joined : goal.follow-requires-clause-joined
follow-requires-clause-joined c =
    let old = c.self.inside.ordered in
    let made = c.insert_all-place in
    let writes = c.args.writes.now in
    let sorted = c.self.invariant.sorted in
    let past = subst (λ (s : SeenState). All (λ (write : Write). s.point < write.stamp) writes) (sym c.self.view_is) c.requires.past in
    let same = same_committed old.point writes old.writes made.new.self.writes made.ensures.writes past in
    let after = still_sorted old.point writes old.writes made.new.self.writes made.ensures.writes past sorted in
    rw (c.self.invariant.has_image.ops, made.ensures.point)
    (tentative-joined old.writes writes made.new.self.writes sorted after old.point made.ensures.in_order same)

pub follow-requires-clause-room : goal.follow-requires-clause-room
follow-requires-clause-room c =
    omega (arith, c.requires.room, ap (λ (s : SeenState). s.room) c.self.view_is, c.self.invariant.image)

pub follow-requires-clause-stays : goal.follow-requires-clause-stays
follow-requires-clause-stays c =
    let old = c.self.inside.ordered in
    let made = c.insert_all-place in
    let writes = c.args.writes.now in
    let has = c.self.invariant.has_image in
    let sorted = c.self.invariant.sorted in
    let past = subst (λ (s : SeenState). All (λ (write : Write). s.point < write.stamp) writes) (sym c.self.view_is) c.requires.past in
    let same = same_committed old.point writes old.writes made.new.self.writes made.ensures.writes past in
    let after = still_sorted old.point writes old.writes made.new.self.writes made.ensures.writes past sorted in
    let front = made.result - c.self.inside.image.committed in
    let is : front ≡ made.result - length (committed_to old.point old.writes) = ap (λ (n : ℕ). made.result - n) has.committed in
    ap (take front) has.ops
    ∙ take-map op_of front (tentative_past old.point old.writes)
    ∙ ap ops_of (subst (λ (n : ℕ). take n (tentative_past old.point old.writes) ≡ take n (tentative_past old.point made.new.self.writes)) (sym is)
    (late-stays old.writes made.new.self.writes sorted after old.point made.result same made.ensures.stays made.ensures.past))
    ∙ ap (λ (p : ℕ). ops_of (take front (tentative_past p made.new.self.writes))) (sym made.ensures.point)

pub follow-requires-clause-alone : goal.follow-requires-clause-alone
follow-requires-clause-alone c write alone =
    let old = c.self.inside.ordered in
    let made = c.insert_all-place in
    let writes = c.args.writes.now in
    let has = c.self.invariant.has_image in
    let sorted = c.self.invariant.sorted in
    let past = subst (λ (s : SeenState). All (λ (write : Write). s.point < write.stamp) writes) (sym c.self.view_is) c.requires.past in
    let same = same_committed old.point writes old.writes made.new.self.writes made.ensures.writes past in
    let after = still_sorted old.point writes old.writes made.new.self.writes made.ensures.writes past sorted in
    rw (made.ensures.point, has.ops, has.committed)
    (late-alone old.writes made.new.self.writes sorted after old.point made.result same made.ensures.stays write (made.ensures.alone write alone) made.ensures.past made.ensures.within)

pub add_all-requires-clause-few : goal.add_all-requires-clause-few
add_all-requires-clause-few c =
    let old = c.self.inside.ordered in
    omega (arith, c.requires.few, ap (λ (s : SeenState). length s.writes) c.self.view_is, c.self.invariant.has_sums.all.plus.held, length-map old.writes (λ (write : Write). write.weights))

pub invariant_of-self : goal.invariant_of-self
invariant_of-self c =
    let old = c.self.inside.ordered in
    let kept = c.self.invariant in
    let made = c.insert_all-place in
    let writes = c.args.writes.now in
    let more = made.new.self.writes in
    let past = subst (λ (s : SeenState). All (λ (write : Write). s.point < write.stamp) writes) (sym c.self.view_is) c.requires.past in
    let same = same_committed old.point writes old.writes more made.ensures.writes past in
    let after = still_sorted old.point writes old.writes more made.ensures.writes past kept.sorted in
    let on_conits = subst (λ (s : SeenState). AreOnConits s.conits writes) (sym c.self.view_is) c.requires.on_conits in
    let P = λ (write : Write). All (λ (weight : Weight). weight.conit < conits_of c.self.inside.sums) write.weights in
    let room = ap (λ (s : SeenState). s.room) c.self.view_is in
    record {
      sorted = after;
      few = omega (arith, c.requires.few, ap (λ (s : SeenState). length s.writes) c.self.view_is, ap length made.ensures.writes, length-with_writes writes old.writes);
      on_conits = rw (c.add_all.ensures.conits, made.ensures.in_order) (All-in_order P (old.writes ++ writes) (All-append P old.writes writes kept.on_conits on_conits));
      has_image =
          rw made.ensures.point
          (HasImage-admitted old.writes more kept.sorted after old.point made.result same made.ensures.stays c.self.inside.image c.follow.new.image kept.has_image
          c.follow.ensures.committed c.follow.ensures.base (rw (← made.ensures.point) c.follow.ensures.ops));
      has_sums = rw made.ensures.point (HasSums-admitted old.writes writes more old.point c.self.inside.sums c.add_all.new.sums c.self.inside.settled
          made.ensures.in_order same c.add_all.ensures.added kept.has_sums);
      conits = kept.conits ∙ sym c.add_all.ensures.conits;
      order = omega (arith, made.ensures.room, kept.order);
      image = omega (arith, c.follow.ensures.room, kept.image);
      gone = rw (made.ensures.dropped, made.ensures.point, same) kept.gone;
      gone_last = rw (made.ensures.dropped, made.ensures.point, same) kept.gone_last;
    }
