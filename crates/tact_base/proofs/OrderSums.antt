-- The sums of weights don't depend on the order of the writes.
use Rattle.std.proofs.Common.{◌≡◌, ℕ, ◌+◌, pos, ◌-ℤ◌, List, [], ◌∷◌, flat_map, sum_by, ◌==◌, IsPermutation, refl, sym, ap, ap₂, ◌∙◌}
use Rattle.std.proofs.lemmas.List.Sorted.{sum_by-IsPermutation}
use Rattle.std.proofs.lemmas.List.Sums.{sum_by-append, sum_by-cons}
use Rattle.tact_base.specs.Sums.{above_zero, below_zero, on_conit, weights_on, plus_sum, minus_sum, order_sum, net_sum}
use Rattle.tact_base.specs.WriteOrder.{in_order}
use Rattle.tact_base.specs.declared.conit_list.Weight.{Weight}
use Rattle.tact_base.specs.declared.write.Write.{Write}
use Rattle.tact_base.proofs.ListLemmas.{filter-flat_map}
use Rattle.tact_base.proofs.SumsLemmas.{signed_sum-parts}
use Rattle.tact_base.proofs.OrderLemmas.{IsPermutation-in_order}

-- a sum over joined lists
pub sum_by-flat_map : {X Y : Type 0} (f : Y → ℕ) (g : X → List Y) (xs : List X)
    → sum_by f (flat_map g xs) ≡ sum_by (λ x. sum_by f (g x)) xs
sum_by-flat_map f g [] = refl
sum_by-flat_map f g (x ∷ xs) =
    sum_by-append f (g x) (flat_map g xs)
    ∙ (ap (λ (n : ℕ). sum_by f (g x) + n) (sum_by-flat_map f g xs) ∙ sym (sum_by-cons (λ x. sum_by f (g x)) x xs))

-- a sum over the weights that writes have on a conit, write by write
pub sum_by-weights_on : (f : Weight → ℕ) (writes : List Write) (conit : ℕ)
    → sum_by f (weights_on writes conit) ≡ sum_by (λ write. sum_by f (on_conit conit write.weights)) writes
sum_by-weights_on f writes conit =
    ap (sum_by f) (filter-flat_map (λ weight. weight.conit == conit) (λ (write : Write). write.weights) writes)
    ∙ sum_by-flat_map f (λ (write : Write). on_conit conit write.weights) writes

-- so it is the same in another order
weights-IsPermutation : (f : Weight → ℕ) (xs ys : List Write) (conit : ℕ)
    → IsPermutation xs ys
    → sum_by f (weights_on ys conit) ≡ sum_by f (weights_on xs conit)
weights-IsPermutation f xs ys conit moved =
    sum_by-weights_on f ys conit
    ∙ (sum_by-IsPermutation (λ write. sum_by f (on_conit conit write.weights)) xs ys moved ∙ sym (sum_by-weights_on f xs conit))

-- Writes in another order have the same sums.
module _ (xs ys : List Write) (conit : ℕ) (moved : IsPermutation xs ys) where
  pub plus_sum-IsPermutation : plus_sum ys conit ≡ plus_sum xs conit
  plus_sum-IsPermutation = weights-IsPermutation (λ weight. above_zero weight.nweight) xs ys conit moved

  pub minus_sum-IsPermutation : minus_sum ys conit ≡ minus_sum xs conit
  minus_sum-IsPermutation = weights-IsPermutation (λ weight. below_zero weight.nweight) xs ys conit moved

  pub order_sum-IsPermutation : order_sum ys conit ≡ order_sum xs conit
  order_sum-IsPermutation = weights-IsPermutation (λ weight. weight.oweight) xs ys conit moved

  pub net_sum-IsPermutation : net_sum ys conit ≡ net_sum xs conit
  net_sum-IsPermutation =
      signed_sum-parts (weights_on ys conit)
      ∙ (ap₂ (λ (a b : ℕ). pos a -ℤ pos b) plus_sum-IsPermutation minus_sum-IsPermutation ∙ sym (signed_sum-parts (weights_on xs conit)))

-- so in order
module _ (writes : List Write) (conit : ℕ) where
  pub plus_sum-in_order : plus_sum (in_order writes) conit ≡ plus_sum writes conit
  plus_sum-in_order = plus_sum-IsPermutation writes (in_order writes) conit (IsPermutation-in_order writes)

  pub minus_sum-in_order : minus_sum (in_order writes) conit ≡ minus_sum writes conit
  minus_sum-in_order = minus_sum-IsPermutation writes (in_order writes) conit (IsPermutation-in_order writes)

  pub order_sum-in_order : order_sum (in_order writes) conit ≡ order_sum writes conit
  order_sum-in_order = order_sum-IsPermutation writes (in_order writes) conit (IsPermutation-in_order writes)

  pub net_sum-in_order : net_sum (in_order writes) conit ≡ net_sum writes conit
  net_sum-in_order = net_sum-IsPermutation writes (in_order writes) conit (IsPermutation-in_order writes)
