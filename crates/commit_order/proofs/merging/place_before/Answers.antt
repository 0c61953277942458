use Rattle.std.proofs.Common.{◌≡◌, ◌+◌, ◌-◌, true, false, All, take, drop, sym, ◌∙◌, subst, arith}
use Rattle.std.specs.List.Sorted.{IsStrictlySortedBy}
use Rattle.std.proofs.lemmas.List.{take-take}
use Rattle.tact_base.specs.WriteOrder.{write_cmp, comes_before}
use Rattle.commit_order.proofs.MergeLemmas.{none_after, one_more_ahead, sorted-take}
use Rattle.commit_order.proofs.merging.place_before.Goals as goal

pub loop-place-preserved : goal.loop-place-preserved
loop-place-preserved c =
    let items = c.args.items.now in
    let left = c.args.left in
    let write = c.args.write.now in
    let kept = c.loop-place.invariant in
    let k = c.loop-place.place - 1 in
    let some : k + 1 ≡ c.loop-place.place = omega (arith, c.loop-place-test.true) in
    let ahead : All (λ later. comes_before write later ≡ true) (drop (k + 1) (take left items)) = rw some kept.ahead in
    record {
      within = omega (arith, kept.within);
      ahead = one_more_ahead items left k write c.index-items-place.result (omega (arith, kept.within, some)) c.requires.within c.index-items-place.is (sym c.comes_before.ensures ∙ c.if-comes_before.true) ahead;
    }

pub returns-else-comes_before-clause-behind : goal.returns-else-comes_before-clause-behind
returns-else-comes_before-clause-behind c =
    let items = c.args.items.now in
    let left = c.args.left in
    let write = c.args.write.now in
    let kept = c.loop-place.invariant in
    let k = c.loop-place.place - 1 in
    let some : k + 1 ≡ c.loop-place.place = omega (arith, c.loop-place-test.true) in
    let sorted : IsStrictlySortedBy write_cmp (take (k + 1) items) =
    rw (← take-take (k + 1) left items (omega (arith, kept.within, some))) (sorted-take (k + 1) (take left items) c.requires.sorted) in
    subst (λ n. All (λ other. comes_before write other ≡ false) (take n items)) some
    (none_after items k write c.index-items-place.result sorted (omega (arith, kept.within, some, c.requires.within)) c.index-items-place.is (sym c.comes_before.ensures ∙ c.if-comes_before.false))
