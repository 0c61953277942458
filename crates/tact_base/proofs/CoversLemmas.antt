-- A cover after a told one, the least stamp over covers, and the least replica that has it.
use Rattle.std.proofs.Common.{◌≡◌, ℕ, ◌<◌, ◌≤◌, min, suc, ltb, ◌==◌, Bool, true, false, cond, nat_le, List, [], ◌∷◌}
use Rattle.std.proofs.Common.{length, get_or, set, map, fold, All, refl, ap, ⊎_elim, get_or-set_same, get_or-set_other}
use Rattle.std.proofs.Common.{arith}
use Rattle.std.specs.List.{IsFirstBest}
use Rattle.std.proofs.lemmas.List.{get_or-map, length-map, length-set}
use Rattle.std.proofs.lemmas.List.Elements.{All-nil, All-cons}
use Rattle.std.proofs.lemmas.List.Sums.{position_or_len_is}
use Rattle.std.proofs.lemmas.Bool.{and_parts, cases_eq, leb-true, ltb-false, ltb-true, eq-eqb, ne_eqb}
use Rattle.tact_base.specs.declared.write.Cover.{Cover}
use Rattle.tact_base.specs.Covers.{is_later, later_cover, cover_after, least_of, least_stamp, slowest}

-- the least of numbers
least_from : (n : ℕ) (numbers : List ℕ)
    → (fold min n numbers ≤ n) × All (λ x. fold min n numbers ≤ x) numbers
least_from n [] = (omega arith, All-nil (λ x. n ≤ x))
least_from n (first ∷ numbers) =
    let rest = least_from (min n first) numbers in
    (omega (arith, rest.0), All-cons (λ x. fold min (min n first) numbers ≤ x) first numbers (omega (arith, rest.0)) rest.1)

pub least_of-is_least : (numbers : List ℕ) → All (λ x. least_of numbers ≤ x) numbers
least_of-is_least [] = All-nil (λ x. 0 ≤ x)
least_of-is_least (first ∷ numbers) =
    let rest = least_from first numbers in
    All-cons (λ x. fold min first numbers ≤ x) first numbers rest.0 rest.1

pub least_of-le : (xs : List ℕ) (k : ℕ)
    → k < length xs
    → least_of xs ≤ get_or xs k 0
least_of-le xs k within = least_of-is_least xs k 0 within

fold_min-below : (m a : ℕ) (xs : List ℕ)
    → m ≤ a
    → ((k : ℕ) → k < length xs → m ≤ get_or xs k 0)
    → m ≤ fold min a xs
fold_min-below m a [] first rest = first
fold_min-below m a (x ∷ xs) first rest =
    let here : m ≤ x = rest 0 (omega arith) in
    fold_min-below m (min a x) xs (omega arith) (λ k within. rest (suc k) (omega arith))

-- and at least what is at most each
pub least_of-ge : (m : ℕ) (xs : List ℕ)
    → 0 < length xs
    → ((k : ℕ) → k < length xs → m ≤ get_or xs k 0)
    → m ≤ least_of xs
least_of-ge m [] some each = elim some [ ]
least_of-ge m (x ∷ xs) some each = fold_min-below m x xs (each 0 (omega arith)) (λ k within. each (suc k) (omega arith))

abbrev stamp_of : Cover → ℕ
stamp_of cover = cover.stamp

pub least_stamp-le : (covers : List Cover) (k : ℕ) (d : Cover)
    → k < length covers
    → least_stamp covers ≤ (get_or covers k d).stamp
least_stamp-le covers k d within =
    let long = length-map covers stamp_of in
    rw (← get_or-map stamp_of covers k d 0 within) (least_of-le (map stamp_of covers) k (omega arith))

pub least_stamp-ge : (m : ℕ) (covers : List Cover) (d : Cover)
    → 0 < length covers
    → ((k : ℕ) → k < length covers → m ≤ (get_or covers k d).stamp)
    → m ≤ least_stamp covers
least_stamp-ge m covers d some each =
    let long = length-map covers stamp_of in
    least_of-ge m (map stamp_of covers) (omega arith)
    (λ k within. rw (get_or-map stamp_of covers k d 0 (omega arith)) (each k (omega arith)))

-- the first place with the least stamp
module _ (covers : List Cover) (b : ℕ) (d : Cover) (first : IsFirstBest (λ x y. ltb x.stamp y.stamp) covers (length covers) b) where
  pub least_stamp-first : (get_or covers b d).stamp ≡ least_stamp covers
  least_stamp-first =
      let low = least_stamp-le covers b d first.0 in
      let high = least_stamp-ge (get_or covers b d).stamp covers d (omega (arith, first.0)) (λ k within. ltb-false _ _ (first.1 k d within)) in
      omega arith

  pub slowest-first : slowest covers ≡ b
  slowest-first = position_or_len_is (λ cover. cover.stamp == least_stamp covers) covers b d (omega (arith, first.0))
      (λ k before. ne_eqb _ _ (λ same. absurd (omega (arith, same, least_stamp-first, ltb-true _ _ (first.2 k d before)))))
      (λ within. eq-eqb _ _ least_stamp-first)

-- a cover after a told one is the told one, within the log, or the kept one
pub cover_after-cases : (P : Cover → Type 0) (have : ℕ) (kept told : Cover)
    → (told.count ≤ have → P told)
    → P kept
    → P (cover_after have kept told)
cover_after-cases P have kept told of_told of_kept = go (nat_le told.count have) refl (is_later kept told)
  where
    go : (fits : Bool)
        → nat_le told.count have ≡ fits
        → (later : Bool)
        → P (cond fits (cond later told kept) kept)
    go true is true = of_told (leb-true told.count have is)
    go true is false = of_kept
    go false is later = of_kept

-- a cover that is raised has no lesser stamp, and is the told one where that is later
pub later_cover-stamp : (kept told : Cover) → kept.stamp ≤ (later_cover kept told).stamp
later_cover-stamp kept told = go (is_later kept told) refl
  where
    go : (later : Bool) → is_later kept told ≡ later → kept.stamp ≤ (let after : Cover = cond later told kept in after).stamp
    go true is = leb-true kept.stamp told.stamp (and_parts _ _ (and_parts _ _ is).1).0
    go false is = omega arith

-- with one cover raised the least stamp doesn't fall
pub least_stamp-raised : (covers : List Cover) (i : ℕ) (told d : Cover)
    → i < length covers
    → least_stamp covers ≤ least_stamp (set covers i (later_cover (get_or covers i d) told))
least_stamp-raised covers i told d within =
    let raised = set covers i (later_cover (get_or covers i d) told) in
    let size : length raised ≡ length covers = length-set covers i (later_cover (get_or covers i d) told) in
    least_stamp-ge (least_stamp covers) raised d (omega arith)
    (λ k inside.
    let here = least_stamp-le covers k d (omega (arith, size)) in
    ⊎_elim
    (λ (same : k ≡ i).
    let at : get_or raised k d ≡ later_cover (get_or covers i d) told = rw same (get_or-set_same covers i (later_cover (get_or covers i d) told) d within) in
    omega (arith, here, ap stamp_of at, later_cover-stamp (get_or covers i d) told, ap (λ j. (get_or covers j d).stamp) same))
    (λ (other : k ≡ i → ⊥).
    let at : get_or raised k d ≡ get_or covers k d = get_or-set_other covers i k (later_cover (get_or covers i d) told) d other in
    omega (arith, here, ap stamp_of at))
    (cases_eq k i))
