-- Sums over the writes that a filter keeps, and over the weights of one write on a conit.
use Rattle.std.proofs.Common.{◌≡◌, ℕ, ◌≤◌, ◌==◌, Bool, true, false, cond, List, [], ◌∷◌, length, filter, sum_by, All, ℤ, pos, negsuc, unsigned_abs, refl, sym, ap, subst, add-zero, arith}
use Rattle.std.proofs.lemmas.Bool.{true≢false, eqb-true}
use Rattle.std.proofs.lemmas.List.{append-nil}
use Rattle.std.proofs.lemmas.List.Elements.{All-head, All-filter, filter_passes}
use Rattle.std.proofs.lemmas.List.Sums.{sum_by-cons}
use Rattle.tact_base.proofs.ConitListLemmas.{IsConitList-once}
use Rattle.tact_base.proofs.ListLemmas.{filter_all}
use Rattle.tact_base.proofs.OrderSums.{sum_by-weights_on}
use Rattle.tact_base.specs.ConitList.{IsConitList}
use Rattle.tact_base.specs.Sums.{above_zero, below_zero, on_conit, weights_on}
use Rattle.tact_base.specs.declared.conit_list.Weight.{Weight}
use Rattle.tact_base.specs.declared.write.Write.{Write}

-- a filter that keeps no more than another gives no greater sum
pub sum_by-filter-le : {X : Type 0} (amount : X → ℕ) (p q : X → Bool)
    → ((x : X) → p x ≡ true → q x ≡ true)
    → (xs : List X)
    → sum_by amount (filter p xs) ≤ sum_by amount (filter q xs)
sum_by-filter-le amount p q more [] = omega arith
sum_by-filter-le {X} amount p q more (x ∷ xs) = go (p x) (q x) (more x) (sum_by-filter-le amount p q more xs)
  where
    go : (one other : Bool)
        → (one ≡ true → other ≡ true)
        → sum_by amount (filter p xs) ≤ sum_by amount (filter q xs)
        → sum_by amount (cond one (x ∷ filter p xs) (filter p xs)) ≤ sum_by amount (cond other (x ∷ filter q xs) (filter q xs))
    go true true more rest = omega (arith, sum_by-cons amount x (filter p xs), sum_by-cons amount x (filter q xs), rest)
    go true false more rest = absurd (true≢false (sym (more refl)))
    go false true more rest = omega (arith, sum_by-cons amount x (filter q xs), rest)
    go false false more rest = rest

-- nor does a filter give a greater sum than the whole list
pub sum_by-filter-le_all : {X : Type 0} (amount : X → ℕ) (p : X → Bool) (xs : List X)
    → sum_by amount (filter p xs) ≤ sum_by amount xs
sum_by-filter-le_all amount p xs =
    subst (λ ys. sum_by amount (filter p xs) ≤ sum_by amount ys) (filter_all (λ x. true) xs (λ k d within. refl)) (sum_by-filter-le amount p (λ x. true) (λ x passes. refl) xs)

-- Sums over the weights that writes have on a conit.
module _ (amount : Weight → ℕ) (conit : ℕ) where
  -- what one write's weights come to there
  abbrev of_write : Write → ℕ
  of_write write = sum_by amount (on_conit conit write.weights)

  -- the weights of one write
  pub weights_on-one : (write : Write)
      → weights_on (write ∷ []) conit ≡ on_conit conit write.weights
  weights_on-one write = ap (on_conit conit) (append-nil write.weights)

  -- a filter of the writes that keeps no more than another, and one against them all
  pub weights_on-filter-le : (p q : Write → Bool)
      → ((write : Write) → p write ≡ true → q write ≡ true)
      → (writes : List Write)
      → sum_by amount (weights_on (filter p writes) conit) ≤ sum_by amount (weights_on (filter q writes) conit)
  weights_on-filter-le p q more writes =
      omega (arith, sum_by-weights_on amount (filter p writes) conit, sum_by-weights_on amount (filter q writes) conit, sum_by-filter-le of_write p q more writes)

  pub weights_on-filter-le_all : (p : Write → Bool) (writes : List Write)
      → sum_by amount (weights_on (filter p writes) conit) ≤ sum_by amount (weights_on writes conit)
  weights_on-filter-le_all p writes =
      omega (arith, sum_by-weights_on amount (filter p writes) conit, sum_by-weights_on amount writes conit, sum_by-filter-le_all of_write p writes)

  -- what holds of nothing, and of each weight, holds of the sum where there is at most one
  few_on_conit : (Q : ℕ → Type 0) (on : List Weight)
      → length on ≤ 1
      → Q 0
      → All (λ (weight : Weight). Q (amount weight)) on
      → Q (sum_by amount on)
  few_on_conit Q [] few none each = none
  few_on_conit Q (weight ∷ []) few none each = rw (sum_by-cons amount weight [], add-zero) (All-head (λ (weight : Weight). Q (amount weight)) weight [] each)
  few_on_conit Q (weight ∷ other ∷ rest) few none each = absurd (omega arith)

  -- so it does of the sum on the conit, where the conits of a list rise
  pub once_on_conit : (Q : ℕ → Type 0) (in_limits : Weight → Bool) (weights : List Weight)
      → IsConitList (λ (weight : Weight). weight.conit) in_limits weights
      → Q 0
      → All (λ (weight : Weight). weight.conit ≡ conit → Q (amount weight)) weights
      → Q (sum_by amount (on_conit conit weights))
  once_on_conit Q in_limits weights good none each =
      let is_there = λ (weight : Weight). weight.conit == conit in
      let P = λ (weight : Weight). weight.conit ≡ conit → Q (amount weight) in
      few_on_conit Q (on_conit conit weights) (IsConitList-once (λ (weight : Weight). weight.conit) in_limits weights good conit) none
      (λ k d within. All-filter is_there P weights each k d within (eqb-true _ _ (filter_passes is_there weights k d within)))

-- each side of a number is within its size
pub above_zero-le : (z : ℤ) → above_zero z ≤ unsigned_abs z
above_zero-le (pos n) = omega arith
above_zero-le (negsuc n) = omega arith

pub below_zero-le : (z : ℤ) → below_zero z ≤ unsigned_abs z
below_zero-le (pos n) = omega arith
below_zero-le (negsuc n) = omega arith

-- so is it for a list that has one weight or none
pub one_or_none-le : (side : ℤ → ℕ)
    → ((z : ℤ) → side z ≤ unsigned_abs z)
    → (weight : Weight) (yes : Bool)
    → sum_by (λ (weight : Weight). side weight.nweight) (cond yes (weight ∷ []) []) ≤ cond yes (unsigned_abs weight.nweight) 0
one_or_none-le side within weight true = omega (arith, within weight.nweight)
one_or_none-le side within weight false = omega arith
