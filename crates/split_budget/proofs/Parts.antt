-- The sum of a part of each nweight on a conit, over writes that are added, taken in turn, or known.
use Rattle.std.proofs.Common.{◌≡◌, ◌==◌, ℕ, ◌+◌, ◌-◌, ◌<◌, ◌≤◌, ◌^◌, ℤ, List, [], ◌∷◌, ◌++◌, length, get_or, take, drop, sum_by, All, false, refl, sym, ap, ◌∙◌, ⊎_elim, arith}
use Rattle.std.specs.List.{flat_map}
use Rattle.std.proofs.lemmas.Bool.{cases_lt, ne_eqb}
use Rattle.std.proofs.lemmas.List.{append-nil, take-append-drop, drop-append-le, drop_all, drop-drop, length_push, get_or_past}
use Rattle.std.proofs.lemmas.List.Concat.{flat_map-append}
use Rattle.std.proofs.lemmas.List.Elements.{filter-append, All-weaker}
use Rattle.std.proofs.lemmas.List.Sums.{sum_by-append, sum_by-cons}
use Rattle.tact_base.proofs.ListLemmas.{filter_none}
use Rattle.tact_base.specs.Sums.{on_conit}
use Rattle.tact_base.specs.declared.conit_list.Weight.{Weight}
use Rattle.split_budget.specs.Budgets.{part_sum, part_on}

module _ (part : ℤ → ℕ) (conit : ℕ) where
  pub part_on-append : (xs ys : List (List Weight))
      → part_on part conit (xs ++ ys) ≡ part_on part conit xs + part_on part conit ys
  part_on-append xs ys =
      let joined = λ (lists : List (List Weight)). flat_map (λ (weights : List Weight). weights) lists in
      let split : on_conit conit (joined (xs ++ ys)) ≡ on_conit conit (joined xs) ++ on_conit conit (joined ys) =
      ap (on_conit conit) (flat_map-append (λ (weights : List Weight). weights) xs ys) ∙ filter-append (λ weight. weight.conit == conit) (joined xs) (joined ys) in
      rw split (sum_by-append (λ weight. part weight.nweight) (on_conit conit (joined xs)) (on_conit conit (joined ys)))

  -- over one write
  pub part_on-one : (weights : List Weight)
      → part_on part conit (weights ∷ []) ≡ part_sum part conit weights
  part_on-one weights = ap (λ (all : List Weight). sum_by (λ weight. part weight.nweight) (on_conit conit all)) (append-nil weights)

  -- added up write by write
  pub part_on-sum : (xs : List (List Weight))
      → sum_by (λ weights. part_sum part conit weights) xs ≡ part_on part conit xs
  part_on-sum [] = refl
  part_on-sum (weights ∷ xs) =
      omega (arith, sum_by-cons (λ (ws : List Weight). part_sum part conit ws) weights xs, part_on-sum xs, part_on-append (weights ∷ []) xs, part_on-one weights)

  -- past the conits of all weights there is nothing
  pub part_sum-past : (conits : ℕ) (weights : List Weight)
      → All (λ weight. weight.conit < conits) weights
      → conits ≤ conit
      → part_sum part conit weights ≡ 0
  part_sum-past conits weights on past =
      ap (sum_by (λ weight. part weight.nweight))
      (filter_none (λ weight. weight.conit == conit) weights
      (All-weaker (λ weight. weight.conit < conits) (λ weight. (weight.conit == conit) ≡ false) (λ weight within. ne_eqb weight.conit conit (λ same. omega (arith, same, within))) weights on))

  -- so what fits with the weights on each conit that has a sum, fits on all
  pub sum-fits : (sums : List ℕ) (weights : List Weight)
      → All (λ weight. weight.conit < length sums) weights
      → (conit < length sums → get_or sums conit 0 + part_sum part conit weights < 2 ^ 64)
      → get_or sums conit 0 + part_sum part conit weights < 2 ^ 64
  sum-fits sums weights on fits =
      ⊎_elim fits
      (λ (past : length sums ≤ conit). omega (arith, get_or_past sums conit 0 past, part_sum-past (length sums) weights on past))
      (cases_lt conit (length sums))

  -- what a list has is what a front of it has, and what the rest has
  part_on-split : (i : ℕ) (xs : List (List Weight))
      → part_on part conit xs ≡ part_on part conit (take i xs) + part_on part conit (drop i xs)
  part_on-split i xs = ap (part_on part conit) (sym (take-append-drop i xs)) ∙ part_on-append (take i xs) (drop i xs)

  -- where more is known, no more is missed
  pub part_on-known : (k m : ℕ) (xs : List (List Weight))
      → k ≤ m
      → part_on part conit (drop m xs) ≤ part_on part conit (drop k xs)
  part_on-known k m xs more =
      let e : drop (m - k) (drop k xs) ≡ drop m xs = drop-drop (m - k) k xs ∙ ap (λ n. drop n xs) (omega arith) in
      rw (← e) (omega (arith, part_on-split (m - k) (drop k xs)))

  -- one more write adds at most what it weighs
  pub part_on-push : (k : ℕ) (xs : List (List Weight)) (weights : List Weight)
      → part_on part conit (drop k (xs ++ weights ∷ [])) ≤ part_on part conit (drop k xs) + part_sum part conit weights
  part_on-push k xs weights =
      ⊎_elim (λ (past : length xs < k).
      rw (drop_all k (xs ++ weights ∷ []) (omega (arith, length_push xs weights))) (omega arith))
      (λ (within : k ≤ length xs).
      rw (drop-append-le k xs (weights ∷ []) within, part_on-append (drop k xs) (weights ∷ []), part_on-one weights) (omega arith))
      (cases_lt (length xs) k)
