-- What holds of a list that isn't refused.
use Rattle.std.proofs.Common.{◌≡◌, ℕ, ◌<◌, ◌≤◌, zero, suc, [], ◌∷◌, ◌==◌, add-one, add_comm, inl, inr, Bool, true}
use Rattle.std.proofs.Common.{false, not, cond, nat_lt, ltb, List, ◌+◌, ◌-◌, length, length-drop, get_or, drop, nat_le}
use Rattle.std.proofs.Common.{◌&&◌, Option, Some, None, refl, arith, sym}
use Rattle.std.specs.List.{All, AllPairs, filter, position, position_or_len, zip}
use Rattle.std.specs.Option.{option_map, option_or}
use Rattle.std.proofs.lemmas.List.Sums.{fails_before_first}
use Rattle.std.proofs.lemmas.Bool.Decides.{nat_tests}
use Rattle.std.proofs.lemmas.Slice.Zip.{length-zip, get_or-zip}
use Rattle.std.proofs.lemmas.Grind.{get_or_after_one}
use Rattle.std.proofs.lemmas.List.Kept.{AllPairs-filter}
use Rattle.std.proofs.lemmas.List.Elements.{filter_passes}
use Rattle.std.proofs.lemmas.Bool.{leb-false, eqb-true, cases_eq}
use Rattle.std.specs.Int.RustNames.{unsigned_abs}
use Rattle.tact_base.specs.declared.conit_list.Weight.{Weight}
use Rattle.tact_base.specs.declared.limits.TheConstants.{WEIGHT_MAX}
use Rattle.tact_base.specs.ConitList.{IsConitList, first_unordered, first_out_of_limits}
use Rattle.tact_base.specs.declared.conit_list.ListFault.TheVariants.{TooMany, Unordered, Range}

-- each part of a choice that gives nothing
if_none : {A : Type 0} (b : Bool) (x : A) (o : Option A)
    → cond b (Some x) o ≡ None
    → (b ≡ false) × (o ≡ None)
if_none true x o e = cc
if_none false x o e = (refl, e)

or_none : {A : Type 0} (o p : Option A) → option_or o p ≡ None → (o ≡ None) × (p ≡ None)
or_none (Some x) p e = cc
or_none None p e = (refl, e)

map_none : {A B : Type 0} (f : A → B) (o : Option A) → option_map f o ≡ None → o ≡ None
map_none f (Some x) e = cc
map_none f None e = refl

-- no element passes
pub position-None : {A : Type 0} (p : A → Bool) (xs : List A)
    → position p xs ≡ None
    → All (λ x. p x ≡ false) xs
position-None p xs none k d within =
    let past = (if_none_2 (nat_lt (position_or_len p xs) (length xs)) (position_or_len p xs) none) in
    let far : length xs ≤ position_or_len p xs = grind (arith, nat_tests) in
    fails_before_first p xs k d (omega arith)
  where
    if_none_2 : (b : Bool) (n : ℕ) → cond b (Some n) None ≡ None → b ≡ false
    if_none_2 b n e = (if_none b n None e).0

module _ {T : Type 0} (conit : T → ℕ) (in_limits : T → Bool) (items : List T) (good : IsConitList conit in_limits items) where
  -- at most four
  pub IsConitList-few : length items ≤ 4
  IsConitList-few =
      let few : ltb 4 (length items) ≡ false = (if_none (ltb 4 (length items)) TooMany _ good).0 in
      grind (arith, nat_tests)

  -- each within its limits
  pub IsConitList-limits : All (λ item. in_limits item ≡ true) items
  IsConitList-limits k d within =
      let rest = (if_none (ltb 4 (length items)) TooMany
      (option_or (option_map Unordered (first_unordered conit in_limits items)) (option_map Range (first_out_of_limits conit in_limits items))) good).1 in
      let none = map_none Range (first_out_of_limits conit in_limits items) (or_none (option_map Unordered (first_unordered conit in_limits items)) _ rest).1 in
      not_not (in_limits (get_or items k d)) (position-None (λ item. not (in_limits item)) items none k d within)
    where
      not_not : (b : Bool) → not b ≡ false → b ≡ true
      not_not true e = refl
      not_not false e = sym e

  -- their conits rise
  pub IsConitList-rising : (k : ℕ) (d : T)
      → k + 1 < length items
      → conit (get_or items k d) < conit (get_or items (k + 1) d)
  IsConitList-rising k d within =
      let rest = (if_none (ltb 4 (length items)) TooMany
      (option_or (option_map Unordered (first_unordered conit in_limits items)) (option_map Range (first_out_of_limits conit in_limits items))) good).1 in
      let none = map_none suc _ (map_none Unordered (first_unordered conit in_limits items) (or_none (option_map Unordered (first_unordered conit in_limits items)) _ rest).0) in
      let long : length (drop 1 items) ≡ length items - 1 = length-drop 1 items in
      let pairs : k < length (zip items (drop 1 items)) = rw (length-zip items (drop 1 items), long) (omega arith) in
      let pair = get_or-zip items (drop 1 items) k (d, d) (omega arith) (rw long (omega arith)) in
      let later = leb-false _ _ (position-None (λ pair. nat_le (conit pair.1) (conit pair.0)) (zip items (drop 1 items)) none k (d, d) pairs) in
      let next = get_or_after_one items k d in
      rw (add_comm k 1, ← next) (rw pair at later)

  -- so at most one is on a conit
  pub IsConitList-once : (c : ℕ) → length (filter (λ item. conit item == c) items) ≤ 1
  IsConitList-once c =
      let on = filter (λ item. conit item == c) items in
      one on (AllPairs-filter (λ x y. conit x < conit y) (λ item. conit item == c) items (far items IsConitList-rising)) (filter_passes (λ item. conit item == c) items)
    where
      far : (xs : List T)
          → ((k : ℕ) (d : T) → k + 1 < length xs → conit (get_or xs k d) < conit (get_or xs (k + 1) d))
          → AllPairs (λ x y. conit x < conit y) xs
      far xs up i (suc j) d before within =
          let step : conit (get_or xs j d) < conit (get_or xs (suc j) d) = rw add-one at (up j d (omega arith)) in
          elim (cases_eq i j) [
            | inl e ↦ rw e step
            | inr ne ↦ let less = far xs up i j d (omega arith) (omega arith) in omega arith
          ]
      far xs up i zero d before within = absurd (omega arith)

      one : (xs : List T)
          → AllPairs (λ x y. conit x < conit y) xs
          → All (λ x. (conit x == c) ≡ true) xs
          → length xs ≤ 1
      one [] pairs same = omega arith
      one (x ∷ []) pairs same = omega arith
      one (x ∷ y ∷ xs) pairs same =
          let less : conit x < conit y = pairs 0 1 x (omega arith) (omega arith) in
          let first = eqb-true _ _ (same 0 x (omega arith)) in
          let second = eqb-true _ _ (same 1 x (omega arith)) in
          absurd (omega arith)

-- what holds of the weights of a write
abbrev pub weight_in_limits : Weight → Bool
weight_in_limits weight = nat_le (unsigned_abs weight.nweight) WEIGHT_MAX && nat_le weight.oweight WEIGHT_MAX

abbrev pub IsWeights : List Weight → Type 0
IsWeights = IsConitList (λ weight. weight.conit) weight_in_limits
