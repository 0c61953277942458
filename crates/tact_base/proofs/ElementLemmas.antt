-- What a list contains, by its first element, and what its filters contain.
use Rattle.std.proofs.Common.{◌≡◌, ◌≢◌, ℕ, ◌<◌, ◌≤◌, ◌++◌, length, flat_map, swap, IsPermutation, suc, zero, ◌⊎◌, Bool}
use Rattle.std.proofs.Common.{true, false, if◌then◌else◌, List, [], ◌∷◌, get_or, filter, All, AllPairs, Contains, refl}
use Rattle.std.proofs.Common.{sym, ap, ◌∙◌, inl, inr, ⊎_elim, arith}
use Rattle.std.proofs.lemmas.Bool.{cases_eq, cases_lt, false≢true}
use Rattle.std.proofs.lemmas.List.Edits.{swapped_from_swap, length-swap}
use Rattle.std.proofs.lemmas.List.Kept.{AllPairs-cons}
use Rattle.std.proofs.lemmas.List.Sorted.{IsPermutation-keeps}
use Rattle.std.proofs.lemmas.List.Elements.{All-head, All-tail, All-append, Contains-append_left, Contains-append_right, Contains-append_cases}

-- Elements of a list, by its first.
module _ {X : Type 0} where
  pub Contains-first : (x y : X) (xs : List X) → x ≡ y → Contains (x ∷ xs) y
  Contains-first x y xs same = (0, omega arith, same)

  pub Contains-later : (x y : X) (xs : List X) → Contains xs y → Contains (x ∷ xs) y
  Contains-later x y xs (k, within, is) = (suc k, omega arith, is)

  pub Contains-cases : (x y : X) (xs : List X) → Contains (x ∷ xs) y → (x ≡ y) ⊎ Contains xs y
  Contains-cases x y xs (zero, within, is) = inl is
  Contains-cases x y xs (suc k, within, is) = inr (k, omega arith, is)

  pub Contains-none : (x : X) → Contains [] x → ⊥
  Contains-none x (k, within, is) = omega arith

  -- a fact of each pair holds of the first and each later one, and of the rest
  pub AllPairs-first : (R : X → X → Type 0) (x : X) (xs : List X)
      → AllPairs R (x ∷ xs)
      → All (R x) xs
  AllPairs-first R x xs all k d within = all 0 (suc k) d (omega arith) (omega arith)

  pub AllPairs-rest : (R : X → X → Type 0) (x : X) (xs : List X)
      → AllPairs R (x ∷ xs)
      → AllPairs R xs
  AllPairs-rest R x xs all i j d less within = all (suc i) (suc j) d (omega arith) (omega arith)

-- An element of joined lists.
module _ {X Y : Type 0} (f : X → List Y) where
  pub Contains-flat_map : (xs : List X) (x : X) (y : Y)
      → Contains xs x
      → Contains (f x) y
      → Contains (flat_map f xs) y
  Contains-flat_map [] x y within here = absurd (Contains-none x within)
  Contains-flat_map (first ∷ rest) x y within here =
      ⊎_elim (λ (same : first ≡ x). Contains-append_left (f first) (flat_map f rest) y (rw same here))
      (λ later. Contains-append_right (f first) (flat_map f rest) y (Contains-flat_map rest x y later here))
      (Contains-cases first x rest within)

  pub Contains-from_flat_map : (xs : List X) (y : Y)
      → Contains (flat_map f xs) y
      → (x : X) × Contains xs x × Contains (f x) y
  Contains-from_flat_map [] y within = absurd (Contains-none y within)
  Contains-from_flat_map (first ∷ rest) y within =
      ⊎_elim (λ (here : Contains (f first) y). (first, Contains-first first first rest refl, here))
      (λ (behind : Contains (flat_map f rest) y).
      let found = Contains-from_flat_map rest y behind in
      (found.0, Contains-later first found.0 rest found.1, found.2))
      (Contains-append_cases (f first) (flat_map f rest) y within)

-- A fact of each pair.
module _ {X : Type 0} (R : X → X → Type 0) where
  pub AllPairs-nil : AllPairs R []
  AllPairs-nil i j d less within = absurd (omega arith)

  pub AllPairs-append : (xs ys : List X)
      → AllPairs R xs
      → AllPairs R ys
      → All (λ x. All (R x) ys) xs
      → AllPairs R (xs ++ ys)
  AllPairs-append [] ys left right across = right
  AllPairs-append (x ∷ xs) ys left right across =
      AllPairs-cons R x (xs ++ ys)
      (All-append (R x) xs ys (AllPairs-first R x xs left) (All-head (λ x. All (R x) ys) x xs across))
      (AllPairs-append xs ys (AllPairs-rest R x xs left) right (All-tail (λ x. All (R x) ys) x xs across))

-- where an element of a list stood before two changed places
stood_at : {X : Type 0} (xs : List X) (i j k : ℕ) (d : X)
    → i < length xs
    → j < length xs
    → k < length xs
    → (m : ℕ) × (m < length xs) × (get_or (swap xs i j) k d ≡ get_or xs m d) × (((k ≡ j) × (m ≡ i)) ⊎ (((k ≢ j) × (k ≡ i) × (m ≡ j)) ⊎ ((k ≢ i) × (k ≢ j) × (m ≡ k))))
stood_at xs i j k d in_i in_j in_k =
    let swapped = swapped_from_swap xs (swap xs i j) i j d in_i in_j refl in
    ⊎_elim (λ (last : k ≡ j). (i, in_i, rw last swapped.1, inl (last, refl)))
    (λ (other : k ≡ j → ⊥).
    ⊎_elim (λ (first : k ≡ i). (j, in_j, rw first swapped.0, inr (inl (other, first, refl))))
    (λ (neither : k ≡ i → ⊥). (k, in_k, swapped.2 k neither other, inr (inr (neither, other, refl))))
    (cases_eq k i))
    (cases_eq k j)

-- a fact of each pair that holds both ways holds whatever the order of the list
module _ {X : Type 0} (R : X → X → Type 0) (back : (x y : X) → R x y → R y x) where
  AllPairs-swap : (xs : List X) (i j : ℕ)
      → i < length xs
      → j < length xs
      → AllPairs R xs
      → AllPairs R (swap xs i j)
  AllPairs-swap xs i j in_i in_j all a b d less within =
      let same_length = length-swap xs i j in
      let one = stood_at xs i j a d in_i in_j (omega arith) in
      let other = stood_at xs i j b d in_i in_j (omega arith) in
      let apart : one.0 ≡ other.0 → ⊥ = omega (arith, one.3, other.3) in
      rw (one.2, other.2)
      (⊎_elim (λ (lt : one.0 < other.0). all one.0 other.0 d lt other.1)
      (λ (le : other.0 ≤ one.0). back (get_or xs other.0 d) (get_or xs one.0 d) (all other.0 one.0 d (omega arith) one.1))
      (cases_lt one.0 other.0))

  pub AllPairs-IsPermutation : (xs ys : List X)
      → IsPermutation xs ys
      → AllPairs R xs
      → AllPairs R ys
  AllPairs-IsPermutation xs ys moved all = IsPermutation-keeps xs (AllPairs R) all AllPairs-swap ys moved

-- What a filter contains.
module _ {X : Type 0} (p : X → Bool) where
  pub Contains-filter : (xs : List X) (x : X)
      → Contains xs x
      → p x ≡ true
      → Contains (filter p xs) x
  Contains-filter [] x within passes = absurd (Contains-none x within)
  Contains-filter (y ∷ ys) x within passes =
      let rest = Contains-filter ys x in
      go (p y) refl (Contains-cases y x ys within) (λ h. rest h passes)
    where
      go : (is : Bool)
          → p y ≡ is
          → (y ≡ x) ⊎ Contains ys x
          → (Contains ys x → Contains (filter p ys) x)
          → Contains (if is then y ∷ filter p ys else filter p ys) x
      go true is (inl same) rest = Contains-first y x (filter p ys) same
      go false is (inl same) rest = absurd (false≢true (sym is ∙ ap p same ∙ passes))
      go true is (inr later) rest = Contains-later y x (filter p ys) (rest later)
      go false is (inr later) rest = rest later

  pub Contains-from_filter : (xs : List X) (x : X) → Contains (filter p xs) x → Contains xs x
  Contains-from_filter [] x within = within
  Contains-from_filter (y ∷ ys) x within = go (p y) within (Contains-from_filter ys x)
    where
      go : (is : Bool)
          → Contains (if is then y ∷ filter p ys else filter p ys) x
          → (Contains (filter p ys) x → Contains ys x)
          → Contains (y ∷ ys) x
      go true h rest = ⊎_elim (λ (same : y ≡ x). Contains-first y x ys same) (λ later. Contains-later y x ys (rest later)) (Contains-cases y x (filter p ys) h)
      go false h rest = Contains-later y x ys (rest h)

  -- a filter after one that passes as much changes what it gives alone by nothing
  pub filter-filter : (q : X → Bool)
      → ((x : X) → p x ≡ true → q x ≡ true)
      → (xs : List X)
      → filter p (filter q xs) ≡ filter p xs
  filter-filter q more [] = refl
  filter-filter q more (x ∷ xs) = go (q x) refl (p x) refl (filter-filter q more xs)
    where
      go : (other : Bool)
          → q x ≡ other
          → (is : Bool)
          → p x ≡ is
          → filter p (filter q xs) ≡ filter p xs
          → filter p (if other then x ∷ filter q xs else filter q xs) ≡ (if is then x ∷ filter p xs else filter p xs)
      go true e true h rest = rw h (ap (λ (l : List X). x ∷ l) rest)
      go true e false h rest = rw h rest
      go false e true h rest = absurd (false≢true (sym e ∙ more x h))
      go false e false h rest = rest
