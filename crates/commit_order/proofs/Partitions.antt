-- A list whose elements before a place pass a test, and whose others don't.
use Rattle.std.proofs.Common.{◌≡◌, ℕ, ◌+◌, ◌-◌, ◌<◌, ◌≤◌, Bool, true, false, List, length, take, drop, filter, count_by, sym, ap, ◌∙◌, arith}
use Rattle.std.specs.List.{All, AllWithin}
use Rattle.std.proofs.lemmas.List.{append-nil, length-take-le, length-drop, get_or-take, get_or-drop, take-append-drop}
use Rattle.std.proofs.lemmas.List.Elements.{filter-append}
use Rattle.std.proofs.lemmas.List.Sums.{length-filter}
use Rattle.tact_base.proofs.ListLemmas.{filter_all, filter_none}

module _ {T : Type 0} (p : T → Bool) (xs : List T) (i : ℕ) (within : i ≤ length xs) where
  -- those before it pass
  pub front_passes : AllWithin (λ x. p x ≡ true) xs 0 i → All (λ x. p x ≡ true) (take i xs)
  front_passes front k d inside =
      let early : k < i = rw (length-take-le i xs within) at inside in
      rw (get_or-take i xs k d early) (front k d (omega arith) early)

  -- and the others don't
  pub rest_fails : AllWithin (λ x. p x ≡ false) xs i (length xs) → All (λ x. p x ≡ false) (drop i xs)
  rest_fails rest k d inside =
      let late : k < length xs - i = rw (length-drop i xs) at inside in
      rw (get_or-drop i xs k d) (rest (i + k) d (omega arith) (omega arith))

  -- so many pass
  pub count_by-front : AllWithin (λ x. p x ≡ true) xs 0 i
      → AllWithin (λ x. p x ≡ false) xs i (length xs)
      → count_by p xs ≡ i
  count_by-front front rest =
      let kept : filter p xs ≡ take i xs =
      ap (filter p) (sym (take-append-drop i xs)) ∙ filter-append p (take i xs) (drop i xs)
      ∙ rw (filter_all p (take i xs) (front_passes front), filter_none p (drop i xs) (rest_fails rest)) (append-nil (take i xs)) in
      sym (length-filter p xs) ∙ ap length kept ∙ length-take-le i xs within
