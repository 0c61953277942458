-- Items of a list that pass a test and stand together.
use Rattle.std.proofs.Common.{◌≡◌, ℕ, ◌-◌, ◌<◌, ◌≤◌, Bool, true, false, cond, List, Some, length, get_or, count_by, take, drop, filter, refl, sym, ap, ◌∙◌, ⊎_elim, arith}
use Rattle.std.specs.List.{AllWithin, slice_get}
use Rattle.std.specs.List.Sorted.{IsPartitionedBy}
use Rattle.std.proofs.lemmas.Bool.{cases_lt, false≢true, false_from_ne_true}
use Rattle.std.proofs.lemmas.Option.{get_or_from_slice_get, slice_get_within}
use Rattle.std.proofs.lemmas.List.{length-take, length-drop, get_or_default, get_or-take, get_or-drop}
use Rattle.std.proofs.lemmas.List.Elements.{filter_passes}
use Rattle.std.proofs.lemmas.List.Sums.{length-filter, sum_by-take-drop, get_or-le-sum_by}
use Rattle.tact_base.proofs.ListLemmas.{filter_all}
use Rattle.commit_order.proofs.Partitions.{front_passes, count_by-front}

fails_at_none : (b : Bool) → cond b 1 0 ≤ 0 → b ≡ false
fails_at_none true some = absurd (omega (arith, some))
fails_at_none false none = refl

-- how many pass where those stand in front: all where the last does, none where the first doesn't
module _ {X : Type 0} (p : X → Bool) (xs : List X) (in_front : IsPartitionedBy p xs) where
  pub count-to_last : (x : X) → slice_get xs (length xs - 1) ≡ Some x → p x ≡ true → count_by p xs ≡ length xs
  count-to_last x is passing =
      let last = length xs - 1 in
      let inside : last < length xs = slice_get_within xs last x is in
      count_by-front p xs (length xs) (omega arith)
      (λ k d low high. in_front k last d (omega (arith, high)) inside (ap p (get_or_from_slice_get xs last x d is) ∙ passing))
      (λ k d low high. absurd (omega (arith, low, high)))

  pub count-from_first : (d : X) → p (get_or xs 0 d) ≡ false → count_by p xs ≡ 0
  count-from_first d failing =
      count_by-front p xs 0 (omega arith)
      (λ k e low high. absurd (omega (arith, high)))
      (λ k e low high. false_from_ne_true (p (get_or xs k e)) (λ passing.
      false≢true (sym failing ∙ ap p (get_or_default xs 0 d e (omega (arith, high))) ∙ in_front 0 k e (omega arith) high passing)))

-- All that pass stand together from a place on: from there on they stand in front, and none passes behind them.
module _ {X : Type 0} (p : X → Bool) (xs : List X) (start : ℕ) (together : take (length (filter p xs)) (drop start xs) ≡ filter p xs) where
  abbrev rest : List X
  rest = drop start xs

  abbrev all : ℕ
  all = length (filter p xs)

  within : all ≤ length rest
  within = omega (arith, ap length together, length-take all rest)

  passes : AllWithin (λ x. p x ≡ true) rest 0 all
  passes = λ k d low high.
      ap p (sym (get_or-take all rest k d high)) ∙ ap (λ items. p (get_or items k d)) together ∙ filter_passes p xs k d high

  none_behind : count_by p (drop all rest) ≡ 0
  none_behind =
      let one : X → ℕ = λ x. cond (p x) 1 0 in
      omega (
        arith,
        length-filter p xs,
        sum_by-take-drop one xs start,
        sum_by-take-drop one rest all,
        length-filter p (take all rest),
        ap length (filter_all p (take all rest) (front_passes p rest all within passes)),
        ap length together,
      )

  fails : AllWithin (λ x. p x ≡ false) rest all (length rest)
  fails = λ k d low high.
      let one : X → ℕ = λ x. cond (p x) 1 0 in
      let there = get_or-le-sum_by one (drop all rest) (k - all) d (omega (arith, low, high, length-drop all rest)) in
      let same : get_or (drop all rest) (k - all) d ≡ get_or rest k d =
      get_or-drop all rest (k - all) d ∙ ap (λ i. get_or rest i d) (omega (arith, low)) in
      fails_at_none (p (get_or rest k d)) (omega (arith, there, ap one same, none_behind))

  pub parted : IsPartitionedBy p rest
  parted = λ i j d before inside passing.
      ⊎_elim
      (λ (early : j < all). passes i d (omega arith) (omega (arith, before, early)))
      (λ (late : all ≤ j). absurd (false≢true (sym (fails j d late inside) ∙ passing)))
      (cases_lt j all)

  -- so many of the rest pass
  pub count_is_all : count_by p rest ≡ all
  count_is_all = count_by-front p rest all within passes fails
