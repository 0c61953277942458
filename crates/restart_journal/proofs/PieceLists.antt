-- A list and its item at a place.
use Rattle.std.proofs.Common.{◌≡◌, ℕ, zero, suc, ◌<◌, ◌≤◌, List, [], ◌∷◌, ◌++◌, length, map, take, drop, Option, None, Some, refl, ap, arith}
use Rattle.std.specs.List.{slice_get}
use Rattle.std.proofs.lemmas.Option.{same_Some}

-- the item that gives what stands at a place of a list of what items give, and those around it
pub mapped_at : {A B : Type 0} (f : A → B) (xs : List A) (k : ℕ) (y : B)
    → slice_get (map f xs) k ≡ Some y
    → (x : A) × (xs ≡ take k xs ++ x ∷ drop (suc k) xs) × (f x ≡ y)
mapped_at f [] k y e = absurd cc
mapped_at f (x ∷ xs) zero y e = (x, refl, same_Some (f x) y e)
mapped_at f (x ∷ xs) (suc k) y e =
    let rest = mapped_at f xs k y e in
    (rest.0, ap (λ more. x ∷ more) rest.1, rest.2)

-- one item more
pub take_one_more : {A : Type 0} (xs : List A) (k : ℕ) (x : A)
    → slice_get xs k ≡ Some x
    → take (suc k) xs ≡ take k xs ++ x ∷ []
take_one_more [] k x e = absurd cc
take_one_more (y ∷ ys) zero x e = ap (λ z. z ∷ []) (same_Some y x e)
take_one_more (y ∷ ys) (suc k) x e = ap (λ more. y ∷ more) (take_one_more ys k x e)

-- the front of a list has what the list has there
pub slice_get-take : {A : Type 0} (xs : List A) (n k : ℕ) → k < n → slice_get (take n xs) k ≡ slice_get xs k
slice_get-take xs zero k lt = absurd (omega arith)
slice_get-take [] (suc n) k lt = refl
slice_get-take (x ∷ xs) (suc n) zero lt = refl
slice_get-take (x ∷ xs) (suc n) (suc k) lt = slice_get-take xs n k (omega arith)

-- where nothing stands at a place, the list ends there
pub ends_before : {A : Type 0} (xs : List A) (k : ℕ) → slice_get xs k ≡ None → length xs ≤ k
ends_before [] k e = omega arith
ends_before (x ∷ xs) zero e = absurd cc
ends_before (x ∷ xs) (suc k) e = omega (arith, ends_before xs k e)

-- and where it doesn't end, something stands
pub something_at : {A : Type 0} (xs : List A) (k : ℕ) → k < length xs → (x : A) × (slice_get xs k ≡ Some x)
something_at [] k lt = absurd (omega arith)
something_at (x ∷ xs) zero lt = (x, refl)
something_at (x ∷ xs) (suc k) lt = something_at xs k (omega arith)
