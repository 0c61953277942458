-- General facts about lists: induction from the right, parts of joined lists, and filters and joins over ranges.
use Rattle.std.proofs.Common.{◌≡◌, ℕ, zero, suc, ◌+◌, ◌-◌, ◌<◌, ◌≤◌, ◌≢◌, Bool, true, false, List, [], ◌∷◌, ◌++◌}
use Rattle.std.proofs.Common.{length, get_or, take, map, fold, filter, flat_map, sum_by, All, Option, Some, None, refl}
use Rattle.std.proofs.Common.{ap, ◌∙◌, subst, ⊎_elim, zero-add, arith}
use Rattle.std.specs.List.{range_with_len, filter_map, cons_option}
use Rattle.std.proofs.lemmas.Bool.{cases_eq}
use Rattle.std.proofs.lemmas.List.{append_assoc, append-nil, length-append, get_or_append_left, get_or-append-add, get_or-map, get_or_past, length-map, length-take}
use Rattle.std.proofs.lemmas.List.FromFn.{get_or-range_with_len, length-range_with_len, get_or-map-range_with_len, length-map-range_with_len}
use Rattle.std.proofs.lemmas.List.Elements.{All-nil, All-cons, All-head, All-tail, All-append, filter-append}
use Rattle.std.proofs.lemmas.List.Sums.{fold-append, sum_by-cons}

-- Induction on a list from the right.
module _ {A : Type 0} (P : List A → Type 0) (start : P []) (more : (xs : List A) (x : A) → P xs → P (xs ++ x ∷ [])) where
  from_right_onto : (front rest : List A) → P front → P (front ++ rest)
  from_right_onto front [] p = rw append-nil p
  from_right_onto front (x ∷ rest) p = rw append_assoc at (from_right_onto (front ++ x ∷ []) rest (more front x p))

  pub from_right : (xs : List A) → P xs
  from_right xs = from_right_onto [] xs start

-- the step of a fold
pub fold-push : {A B : Type 0} (h : B → A → B) (b : B) (xs : List A) (x : A)
    → fold h b (xs ++ x ∷ []) ≡ h (fold h b xs) x
fold-push h b xs x = fold-append h b xs (x ∷ [])

module _ {A : Type 0} (P : A → Type 0) where
  -- what holds of each element of joined lists holds of each element of both
  pub All-append_left : (xs ys : List A) → All P (xs ++ ys) → All P xs
  All-append_left xs ys all k d within =
      rw (get_or_append_left xs ys d k within) at (all k d (omega (arith, length-append xs ys)))

  pub All-append_right : (xs ys : List A) → All P (xs ++ ys) → All P ys
  All-append_right xs ys all k d within =
      rw (get_or-append-add xs ys k d) at (all (length xs + k) d (omega (arith, length-append xs ys)))

  pub All-one : (x : A) → P x → All P (x ∷ [])
  All-one x p = All-cons P x [] p (All-nil P)

  -- each element of what is joined
  pub All-flat_map : {X : Type 0} (f : X → List A) (xs : List X)
      → All (λ x. All P (f x)) xs
      → All P (flat_map f xs)
  All-flat_map f [] all = All-nil P
  All-flat_map f (x ∷ xs) all =
      All-append P (f x) (flat_map f xs) (All-head (λ x. All P (f x)) x xs all) (All-flat_map f xs (All-tail (λ x. All P (f x)) x xs all))

  pub All-from_flat_map : {X : Type 0} (f : X → List A) (xs : List X)
      → All P (flat_map f xs)
      → All (λ x. All P (f x)) xs
  All-from_flat_map f [] all = All-nil (λ x. All P (f x))
  All-from_flat_map f (x ∷ xs) all =
      All-cons (λ x. All P (f x)) x xs (All-append_left (f x) (flat_map f xs) all) (All-from_flat_map f xs (All-append_right (f x) (flat_map f xs) all))

  pub All-from_map : {X : Type 0} (f : X → A) (xs : List X)
      → All P (map f xs)
      → All (λ x. P (f x)) xs
  All-from_map f xs all k d within = rw (get_or-map f xs k d (f d) within) at (all k (f d) (rw (length-map xs f) within))

-- each number of a range
pub All-range : (P : ℕ → Type 0) (start len : ℕ)
    → ((i : ℕ) → start ≤ i → i < start + len → P i)
    → All P (range_with_len start len)
All-range P start zero each = All-nil P
All-range P start (suc len) each =
    All-cons P start (range_with_len (start + 1) len) (each start (omega arith) (omega arith))
    (All-range P (start + 1) len (λ i low high. each i (omega arith) (omega arith)))

pub All-from_range : (P : ℕ → Type 0) (len at : ℕ) → All P (range_with_len 0 len) → at < len → P at
All-from_range P len at all within = subst P (get_or-range_with_len 0 len at 0 within ∙ zero-add at) (all at 0 (omega (arith, length-range_with_len 0 len)))

module _ {A : Type 0} (p : A → Bool) where
  -- where each element passes, and where none does
  pub filter_all : (xs : List A) → All (λ x. p x ≡ true) xs → filter p xs ≡ xs
  filter_all [] all = refl
  filter_all (x ∷ xs) all =
      let here : p x ≡ true = All-head (λ x. p x ≡ true) x xs all in
      rw (here, filter_all xs (All-tail (λ x. p x ≡ true) x xs all))

  pub filter_none : (xs : List A) → All (λ x. p x ≡ false) xs → filter p xs ≡ []
  filter_none [] all = refl
  filter_none (x ∷ xs) all =
      let here : p x ≡ false = All-head (λ x. p x ≡ false) x xs all in
      rw (here, filter_none xs (All-tail (λ x. p x ≡ false) x xs all))

  -- a filter of what is joined
  pub filter-flat_map : {X : Type 0} (f : X → List A) (xs : List X)
      → filter p (flat_map f xs) ≡ flat_map (λ x. filter p (f x)) xs
  filter-flat_map f [] = refl
  filter-flat_map f (x ∷ xs) = filter-append p (f x) (flat_map f xs) ∙ ap (λ rest. filter p (f x) ++ rest) (filter-flat_map f xs)

module _ {A X : Type 0} where
  -- two functions that agree at each element join to the same list
  pub flat_map_agree : (f g : X → List A) (xs : List X)
      → All (λ x. f x ≡ g x) xs
      → flat_map f xs ≡ flat_map g xs
  flat_map_agree f g [] all = refl
  flat_map_agree f g (x ∷ xs) all =
      rw (All-head (λ x. f x ≡ g x) x xs all, flat_map_agree f g xs (All-tail (λ x. f x ≡ g x) x xs all))

  pub flat_map_none : (f : X → List A) (xs : List X) → All (λ x. f x ≡ []) xs → flat_map f xs ≡ []
  flat_map_none f [] all = refl
  flat_map_none f (x ∷ xs) all =
      rw (All-head (λ x. f x ≡ []) x xs all, flat_map_none f xs (All-tail (λ x. f x ≡ []) x xs all))

-- over a range, where all but one number give nothing
pub flat_map_at : {A : Type 0} (f : ℕ → List A) (start len at : ℕ)
    → start ≤ at
    → at < start + len
    → ((i : ℕ) → i ≢ at → f i ≡ [])
    → flat_map f (range_with_len start len) ≡ f at
flat_map_at f start zero at low high none = absurd (omega arith)
flat_map_at f start (suc len) at low high none = ⊎_elim
    (λ (here : start ≡ at).
    rw (flat_map_none f (range_with_len (start + 1) len) (All-range (λ i. f i ≡ []) (start + 1) len (λ i low' high'. none i (omega arith))), here)
    (append-nil (f at)))
    (λ (other : start ≡ at → ⊥).
    rw (none start other) (flat_map_at f (start + 1) len at (omega arith) (omega arith) none))
    (cases_eq start at)

-- what a function gives of the numbers below a bound, read within and past it
pub get_or-map_range : {A : Type 0} (f : ℕ → A) (len at : ℕ) (d : A)
    → at < len
    → get_or (map f (range_with_len 0 len)) at d ≡ f at
get_or-map_range f len at d within = get_or-map-range_with_len f 0 len at at d within (omega arith)

pub get_or-map_range_past : {A : Type 0} (f : ℕ → A) (len at : ℕ) (d : A)
    → len ≤ at
    → get_or (map f (range_with_len 0 len)) at d ≡ d
get_or-map_range_past f len at d past = get_or_past (map f (range_with_len 0 len)) at d (omega (arith, length-map-range_with_len f 0 len))

-- the first few of joined lists, where the second is taken by what the first leaves
pub take-append : {A : Type 0} (n : ℕ) (xs ys : List A)
    → take n (xs ++ ys) ≡ take n xs ++ take (n - length xs) ys
take-append zero xs ys = let none : 0 - length xs ≡ 0 = omega arith in rw none refl
take-append (suc n) [] ys = let all : suc n - 0 ≡ suc n = omega arith in rw all refl
take-append (suc n) (x ∷ xs) ys =
    let less : suc n - suc (length xs) ≡ n - length xs = omega arith in
    rw less (ap (λ rest. x ∷ rest) (take-append n xs ys))

-- and where what the first leaves is told by how much was taken of it
pub take-append-taken : {A : Type 0} (n : ℕ) (xs ys : List A)
    → take n (xs ++ ys) ≡ take n xs ++ take (n - length (take n xs)) ys
take-append-taken n xs ys =
    let left : n - length xs ≡ n - length (take n xs) = omega (arith, length-take n xs) in
    take-append n xs ys ∙ ap (λ k. take n xs ++ take k ys) left

-- two functions that agree at each element map to the same list
pub map_agree : {X A : Type 0} (f g : X → A) (xs : List X)
    → All (λ x. f x ≡ g x) xs
    → map f xs ≡ map g xs
map_agree f g [] all = refl
map_agree f g (x ∷ xs) all =
    rw (All-head (λ x. f x ≡ g x) x xs all, map_agree f g xs (All-tail (λ x. f x ≡ g x) x xs all)) refl

-- and so do two that agree below a bound
pub map_range_agree : {A : Type 0} (f g : ℕ → A) (len : ℕ)
    → ((n : ℕ) → n < len → f n ≡ g n)
    → map f (range_with_len 0 len) ≡ map g (range_with_len 0 len)
map_range_agree f g len agree =
    map_agree f g (range_with_len 0 len)
    (All-range (λ n. f n ≡ g n) 0 len (λ n low high. agree n (omega (arith, high))))

-- a sum of nothing at each element
pub sum_of_none : {A : Type 0} (f : A → ℕ) (xs : List A)
    → All (λ x. f x ≡ 0) xs
    → sum_by f xs ≡ 0
sum_of_none f [] all = refl
sum_of_none f (x ∷ xs) all =
    omega (arith, sum_by-cons f x xs, All-head (λ x. f x ≡ 0) x xs all, sum_of_none f xs (All-tail (λ x. f x ≡ 0) x xs all))

-- what a filter gives is no longer than the list
pub length-filter_map : {X Y : Type 0} (f : X → Option Y) (xs : List X)
    → length (filter_map f xs) ≤ length xs
length-filter_map f [] = omega arith
length-filter_map {X} {Y} f (x ∷ xs) = go (f x) (length-filter_map f xs)
  where
    go : (here : Option Y)
        → length (filter_map f xs) ≤ length xs
        → length (cons_option here (filter_map f xs)) ≤ suc (length xs)
    go None few = omega (arith, few)
    go (Some y) few = omega (arith, few)
