use Rattle.std.proofs.Common.{◌≡◌, ◌+◌, ◌≤◌, ◌++◌, ℕ, List, length, drop, sym, ap, ap₂, ◌∙◌, subst, arith}
use Rattle.std.proofs.lemmas.List.{length-map, length-drop}
use Rattle.tact_base.proofs.CommitLemmas.{length-committed_tentative}
use Rattle.tact_base.specs.WriteOrder.{committed_to, tentative_past}
use Rattle.tact_base.specs.declared.write.Write.{Write}
use Rattle.conit_sums.specs.ConitSums.{AreSumsOf}
use Rattle.replica_core.specs.Seen.{SeenState, AreOnConits, weights_of, last_one}
use Rattle.replica_core.proofs.ImageSteps.{op_of, committed-rises, committed-within, HasImage-committed}
use Rattle.replica_core.proofs.SeenLemmas.{HasSums-committed, AreOnConits-committed, gone-committed}
use Rattle.replica_core.proofs.seen.Seen.commit_to.Goals as goal

pub commit-requires-clause-more : goal.commit-requires-clause-more
commit-requires-clause-more c =
    let old = c.self.inside.ordered in
    omega (
      arith,
      c.commit_to-count.ensures.count,
      c.self.invariant.has_image.committed,
      committed-rises old.writes c.self.invariant.sorted old.point c.args.stamp
          (omega (arith, c.requires, ap (λ (s : SeenState). s.point) c.self.view_is)),
    )

pub commit-requires-clause-within : goal.commit-requires-clause-within
commit-requires-clause-within c =
    let old = c.self.inside.ordered in
    let has = c.self.invariant.has_image in
    omega (
      arith,
      c.commit_to-count.ensures.count,
      has.committed,
      ap length has.ops,
      length-map (tentative_past old.point old.writes) op_of,
      committed-within old.writes c.self.invariant.sorted old.point c.args.stamp (omega (arith, c.requires, ap (λ (s : SeenState). s.point) c.self.view_is)),
    )

-- where those that were committed before end
module _ (before dropped more : ℕ) (committed : List Write) (held : before ≡ length (drop dropped committed)) (gone : dropped ≤ length committed) (same : more ≡ dropped) where
  ends : more + before ≡ length committed
  ends = omega (arith, held, length-drop dropped committed, gone, same)

pub committed_from-requires : goal.committed_from-requires
committed_from-requires c =
    let old = c.self.inside.ordered in
    let made = c.commit_to-count.ensures in
    let later : committed_to c.commit_to-count.new.self.point c.commit_to-count.new.self.writes ≡ committed_to c.args.stamp old.writes = ap₂ committed_to made.point made.writes in
    omega (
      arith,
      ends (length c.committed-before.result.now) old.dropped c.commit_to-count.new.self.dropped (committed_to old.point old.writes)
          (ap length c.committed-before.ensures.committed) c.self.invariant.gone made.dropped,
      ap length later,
      committed-rises old.writes c.self.invariant.sorted old.point c.args.stamp (omega (arith, c.requires, ap (λ (s : SeenState). s.point) c.self.view_is)),
    )

-- what is newly committed
pub settle_all-requires-clause-on_conits : goal.settle_all-requires-clause-on_conits
settle_all-requires-clause-on_conits c =
    let old = c.self.inside.ordered in
    let made = c.commit_to-count.ensures in
    let later : committed_to c.commit_to-count.new.self.point c.commit_to-count.new.self.writes ≡ committed_to c.args.stamp old.writes = ap₂ committed_to made.point made.writes in
    let before = c.commit_to-count.new.self.dropped + length c.committed-before.result.now in
    let is : c.committed_from.result.now ≡ drop before (committed_to c.args.stamp old.writes) = c.committed_from.ensures ∙ ap (drop before) later in
    subst (λ (conits : ℕ). AreOnConits conits c.committed_from.result.now) (sym c.self.invariant.conits)
    (rw is (AreOnConits-committed _ old.writes c.args.stamp before c.self.invariant.on_conits))

pub settle_all-requires-clause-few : goal.settle_all-requires-clause-few
settle_all-requires-clause-few c =
    let old = c.self.inside.ordered in
    let made = c.commit_to-count.ensures in
    let kept = c.self.invariant in
    let later : committed_to c.commit_to-count.new.self.point c.commit_to-count.new.self.writes ≡ committed_to c.args.stamp old.writes = ap₂ committed_to made.point made.writes in
    let before = c.commit_to-count.new.self.dropped + length c.committed-before.result.now in
    let is : c.committed_from.result.now ≡ drop before (committed_to c.args.stamp old.writes) = c.committed_from.ensures ∙ ap (drop before) later in
    let early = committed_to old.point old.writes in
    omega (
      arith,
      ap length is,
      length-drop before (committed_to c.args.stamp old.writes),
      ends (length c.committed-before.result.now) old.dropped c.commit_to-count.new.self.dropped early (ap length c.committed-before.ensures.committed) kept.gone made.dropped,
      kept.has_sums.settled.held,
      length-map early (λ (write : Write). write.weights),
      length-committed_tentative c.args.stamp old.writes,
      committed-rises old.writes kept.sorted old.point c.args.stamp (omega (arith, c.requires, ap (λ (s : SeenState). s.point) c.self.view_is)),
      kept.few,
    )

pub invariant_of-self : goal.invariant_of-self
invariant_of-self c =
    let old = c.self.inside.ordered in
    let made = c.commit_to-count.ensures in
    let kept = c.self.invariant in
    let stamp = c.args.stamp in
    let rises : old.point ≤ stamp = omega (arith, c.requires, ap (λ (s : SeenState). s.point) c.self.view_is) in
    let later : committed_to c.commit_to-count.new.self.point c.commit_to-count.new.self.writes ≡ committed_to stamp old.writes = ap₂ committed_to made.point made.writes in
    let is : c.committed_from.result.now ≡ drop (length (committed_to old.point old.writes)) (committed_to stamp old.writes) =
    c.committed_from.ensures
    ∙ ap₂ (λ (n : ℕ) (ws : List Write). drop n ws)
    (ends (length c.committed-before.result.now) old.dropped c.commit_to-count.new.self.dropped (committed_to old.point old.writes)
    (ap length c.committed-before.ensures.committed) kept.gone made.dropped) later in
    record {
      sorted = rw made.writes kept.sorted;
      few = rw made.writes kept.few;
      on_conits = rw made.writes kept.on_conits;
      has_image =
          rw (made.writes, made.point)
          (HasImage-committed old.writes kept.sorted old.point stamp rises c.self.inside.image c.commit.new.self kept.has_image
          (c.commit.ensures.committed ∙ made.count) (rw (← made.count) c.commit.ensures.base) (rw (← made.count) c.commit.ensures.ops));
      has_sums =
          rw (made.writes, made.point)
          (HasSums-committed old.writes kept.sorted old.point stamp c.self.inside.sums c.self.inside.settled c.settle_all.new.settled rises
          (λ held of. subst (λ (ws : List Write). AreSumsOf c.settle_all.new.settled (held ++ weights_of ws)) is (c.settle_all.ensures.added held of)) kept.has_sums);
      conits = c.settle_all.ensures.conits ∙ kept.conits;
      order = omega (arith, made.room, kept.order);
      image = omega (arith, c.commit.ensures.room, kept.image);
      gone = rw (made.writes, made.point, made.dropped) (omega (arith, kept.gone, committed-rises old.writes kept.sorted old.point stamp rises));
      gone_last = rw (made.writes, made.point, made.dropped) (kept.gone_last ∙ ap last_one (sym (gone-committed old.writes kept.sorted old.point stamp rises old.dropped kept.gone)));
    }
