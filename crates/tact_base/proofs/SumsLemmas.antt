-- The sums of weights, over lists of writes that are joined or grow.
use Rattle.std.proofs.Common.{◌≡◌, ℕ, ◌+◌, ◌*◌, ◌<◌, ◌≤◌, ◌≢◌, ◌==◌, true, false, eqb, eq-eqb, negsuc, refl, List, [], ◌∷◌, ◌++◌, length, get_or, take, sum_by, ap, ◌∙◌, arith, map, ℤ, pos, ◌+ℤ◌, ◌-ℤ◌}
use Rattle.std.specs.List.{flat_map, All}
use Rattle.std.proofs.lemmas.List.{append-nil, map-append}
use Rattle.std.proofs.lemmas.List.Concat.{flat_map-append}
use Rattle.std.proofs.lemmas.List.Elements.{filter-append, filter_more, All-weaker, All-filter}
use Rattle.std.proofs.lemmas.List.Sums.{sum_by_push, sum_by-cons, sum_by-le}
use Rattle.std.proofs.lemmas.Int.{ints}
use Rattle.std.proofs.lemmas.Bool.Decides.{nat_tests}
use Rattle.std.proofs.Math.Nat.{mul-le-mul_right}
use Rattle.tact_base.proofs.ConitListLemmas.{IsWeights, weight_in_limits, IsConitList-limits, IsConitList-once}
use Rattle.tact_base.specs.declared.conit_list.Weight.{Weight}
use Rattle.tact_base.specs.declared.write.Write.{Write}
use Rattle.tact_base.specs.Sums.{weights_on, on_conit, plus_sum, minus_sum, net_sum, signed_sum, above_zero, below_zero}

pub signed_sum-append : (xs ys : List ℤ) → signed_sum (xs ++ ys) ≡ signed_sum xs +ℤ signed_sum ys
signed_sum-append [] ys = omega (arith, ints)
signed_sum-append (x ∷ xs) ys = omega (arith, ints, signed_sum-append xs ys)

-- of two lists of writes, those of the one and then those of the other
pub weights_on-append : (xs ys : List Write) (conit : ℕ)
    → weights_on (xs ++ ys) conit ≡ weights_on xs conit ++ weights_on ys conit
weights_on-append xs ys conit =
    let f : Write → List Weight = λ write. write.weights in
    ap (on_conit conit) (flat_map-append f xs ys) ∙ filter-append _ (flat_map f xs) (flat_map f ys)

module _ (xs ys : List Write) (conit : ℕ) where
  pub net_sum-append : net_sum (xs ++ ys) conit ≡ net_sum xs conit +ℤ net_sum ys conit
  net_sum-append =
      let f : Weight → ℤ = λ weight. weight.nweight in
      rw (weights_on-append xs ys conit, map-append f (weights_on xs conit) (weights_on ys conit)) (signed_sum-append (map f (weights_on xs conit)) (map f (weights_on ys conit)))

-- the net sum is the one sum less the other
pub signed_sum-parts : (weights : List Weight)
    → signed_sum (map (λ weight. weight.nweight) weights) ≡ pos (sum_by (λ weight. above_zero weight.nweight) weights) -ℤ pos (sum_by (λ weight. below_zero weight.nweight) weights)
signed_sum-parts [] = refl
signed_sum-parts (weight ∷ weights) =
    rw (sum_by-cons (λ weight. above_zero weight.nweight) weight weights, sum_by-cons (λ weight. below_zero weight.nweight) weight weights)
    (part weight.nweight _ _ _ (signed_sum-parts weights))
  where
    part : (z s : ℤ) (a b : ℕ)
        → s ≡ pos a -ℤ pos b
        → z +ℤ s ≡ pos (above_zero z + a) -ℤ pos (below_zero z + b)
    part (pos n) s a b e = omega (arith, ints)
    part (negsuc n) s a b e = omega (arith, ints)

pub net_sum-parts : (writes : List Write) (conit : ℕ)
    → net_sum writes conit ≡ pos (plus_sum writes conit) -ℤ pos (minus_sum writes conit)
net_sum-parts writes conit = signed_sum-parts (weights_on writes conit)

module _ (amount : Weight → ℕ) (conit : ℕ) (weights : List Weight) (i : ℕ) (d : Weight) (within : i < length weights) where
  -- one more weight, which is on the conit
  pub sum_on_conit-yes : (get_or weights i d).conit ≡ conit
      → sum_by amount (on_conit conit (take (i + 1) weights)) ≡ sum_by amount (on_conit conit (take i weights)) + amount (get_or weights i d)
  sum_on_conit-yes same =
      let more = filter_more (λ weight. weight.conit == conit) weights i d within in
      let on = eq-eqb _ _ same in
      rw (more, on) (sum_by_push amount (on_conit conit (take i weights)) (get_or weights i d))

  -- one more weight, which is on another
  pub sum_on_conit-no : ((get_or weights i d).conit ≢ conit)
      → sum_by amount (on_conit conit (take (i + 1) weights)) ≡ sum_by amount (on_conit conit (take i weights))
  sum_on_conit-no other =
      let more = filter_more (λ weight. weight.conit == conit) weights i d within in
      let off : eqb (get_or weights i d).conit conit ≡ false = grind (arith, nat_tests) in
      rw (more, off) (ap (sum_by amount) (append-nil (on_conit conit (take i weights))))

-- over one write's weights, of which at most one is on the conit
pub sum_on_conit-le : (amount : Weight → ℕ) (most : ℕ)
    → ((weight : Weight) → weight_in_limits weight ≡ true → amount weight ≤ most)
    → (conit : ℕ) (weights : List Weight)
    → IsWeights weights
    → sum_by amount (on_conit conit weights) ≤ most
sum_on_conit-le amount most small conit weights good =
    let limits = All-filter (λ weight. weight.conit == conit) (λ weight. weight_in_limits weight ≡ true) weights (IsConitList-limits _ _ weights good) in
    let each : All (λ weight. amount weight ≤ most) (on_conit conit weights) =
    All-weaker (λ weight. weight_in_limits weight ≡ true) (λ weight. amount weight ≤ most) small (on_conit conit weights) limits in
    let few : length (on_conit conit weights) ≤ 1 = IsConitList-once (λ weight. weight.conit) weight_in_limits weights good conit in
    let sum = sum_by-le amount most (on_conit conit weights) each in
    let product : length (on_conit conit weights) * most ≤ 1 * most = mul-le-mul_right most few in
    omega arith
