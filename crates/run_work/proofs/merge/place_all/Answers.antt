use Rattle.std.proofs.Common.{◌≡◌, ℕ, ◌+◌, List, length, take, drop, get_or, set, sym, ap, ◌∙◌, arith}
use Rattle.std.proofs.lemmas.List.{drop-drop, drop-set-lt, get_or-drop}
use Rattle.std.proofs.lemmas.List.Sums.{fold_more}
use Rattle.run_model.specs.declared.entry.Entry.{Entry}
use Rattle.run_work.specs.Placing.{all_placed}
use Rattle.run_work.proofs.PlacingLemmas.{length-all_placed}
use Rattle.run_work.proofs.merge.place_all.Goals as goal

-- two lists that are the same from a place on have the same there
get_or_same : {A : Type 0} (xs ys : List A) (at : ℕ) (d : A) → drop at xs ≡ drop at ys → get_or xs at d ≡ get_or ys at d
get_or_same xs ys at d same =
    let here : at + 0 ≡ at = omega arith in
    ap (λ k. get_or xs k d) (sym here) ∙ sym (get_or-drop at xs 0 d) ∙ ap (λ rest. get_or rest 0 d) same ∙ get_or-drop at ys 0 d
    ∙ ap (λ k. get_or ys k d) here

pub index_mut-requires : goal.index_mut-requires
index_mut-requires c =
    let at = c.loop-pair.pair-index in
    let pairs : List (ℕ × Entry) = c.args.pairs.now in
    let d = c.pair-item.result in
    let same = get_or_same c.loop-pair.pairs pairs at d c.loop-pair.invariant.1 in
    omega (arith, ap (λ (pair : ℕ × Entry). pair.0) same, c.requires at d c.loop-pair-test.true, ap length c.loop-pair.invariant.0, length-all_placed c.args.made.now.items (take at pairs))

pub loop-pair-preserved : goal.loop-pair-preserved
loop-pair-preserved c =
    let at = c.loop-pair.pair-index in
    let pairs : List (ℕ × Entry) = c.args.pairs.now in
    let d = c.pair-item.result in
    let pair = get_or c.loop-pair.pairs at d in
    let same = get_or_same c.loop-pair.pairs pairs at d c.loop-pair.invariant.1 in
    let before : List Entry = all_placed c.args.made.now.items (take at pairs) in (
      ap (set c.loop-pair.made.items pair.0) c.swap.ensures.x_after ∙ ap (λ made. set made pair.0 pair.1) c.loop-pair.invariant.0
          ∙ ap (λ (pair : ℕ × Entry). set before pair.0 pair.1) same
          ∙ sym (fold_more (λ (placed : List Entry) (pair : ℕ × Entry). set placed pair.0 pair.1) c.args.made.now.items pairs at d c.loop-pair-test.true),
      drop-set-lt (at + 1) c.loop-pair.pairs at (pair.0, c.swap.new.y) (omega arith)
          ∙ sym (drop-drop 1 at c.loop-pair.pairs) ∙ ap (drop 1) c.loop-pair.invariant.1 ∙ drop-drop 1 at pairs,
    )
