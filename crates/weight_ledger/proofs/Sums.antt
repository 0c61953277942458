-- Sums over all views.
use Rattle.std.proofs.Common.{◌≡◌, ◌≢◌, ℕ, zero, suc, ◌+◌, ◌≤◌, List, [], ◌∷◌, ◌++◌, set, sym, refl, ap, arith}
use mathlib.Core.Option.{some, some-injective, some-ne-none}
use lib.ListN.{get_elem?}
use Rattle.weight_ledger.specs.Keeping.{total, one_if}

pub one_of : (n : ℕ) → n ≢ 0 → one_if n ≡ 1
one_of zero h = absurd (h refl)
one_of (suc n) h = refl

module _ {A : Type 0} where
  pub total-append : (f : A → ℕ) (xs ys : List A) → total f (xs ++ ys) ≡ total f xs + total f ys
  total-append f [] ys = omega arith
  total-append f (x ∷ xs) ys = omega (arith, total-append f xs ys)

  pub total-set : (f : A → ℕ) (xs : List A) (i : ℕ) (v w : A) → get_elem? xs i ≡ some v
      → total f (set xs i w) + f v ≡ total f xs + f w
  total-set f [] i v w e = absurd (some-ne-none v (sym e))
  total-set f (x ∷ xs) zero v w e = omega (arith, ap f (some-injective x v e))
  total-set f (x ∷ xs) (suc i) v w e = omega (arith, total-set f xs i v w e)

  -- one term is at most the sum, and so are two at different places
  pub term_le : (f : A → ℕ) (xs : List A) (i : ℕ) (v : A)
      → get_elem? xs i ≡ some v
      → f v ≤ total f xs
  term_le f [] i v e = absurd (some-ne-none v (sym e))
  term_le f (x ∷ xs) zero v e = omega (arith, ap f (some-injective x v e))
  term_le f (x ∷ xs) (suc i) v e = omega (arith, term_le f xs i v e)

  pub terms_le : (f : A → ℕ) (xs : List A) (i j : ℕ) (v w : A)
      → j ≢ i
      → get_elem? xs i ≡ some v
      → get_elem? xs j ≡ some w
      → f v + f w ≤ total f xs
  terms_le f [] i j v w ne e h = absurd (some-ne-none v (sym e))
  terms_le f (x ∷ xs) zero zero v w ne e h = absurd (ne refl)
  terms_le f (x ∷ xs) zero (suc j) v w ne e h = omega (arith, ap f (some-injective x v e), term_le f xs j w h)
  terms_le f (x ∷ xs) (suc i) zero v w ne e h = omega (arith, ap f (some-injective x w h), term_le f xs i v e)
  terms_le f (x ∷ xs) (suc i) (suc j) v w ne e h = omega (arith, terms_le f xs i j v w (λ k. ne (ap suc k)) e h)

  -- a view becomes one with the same number
  pub total_kept : (f : A → ℕ) (xs : List A) (i : ℕ) (v w : A) → get_elem? xs i ≡ some v → f w ≡ f v
      → total f (set xs i w) ≡ total f xs
  total_kept f xs i v w e same = omega (arith, total-set f xs i v w e, same)

  -- two views become one, and one is left with 0
  pub total_joined : (f : A → ℕ) (xs : List A) (i j : ℕ) (v w b z : A)
      → get_elem? xs i ≡ some v
      → get_elem? (set xs i b) j ≡ some w
      → f b ≡ f v + f w
      → f z ≡ 0
      → total f (set (set xs i b) j z) ≡ total f xs
  total_joined f xs i j v w b z e h sum none =
      omega (arith, total-set f xs i v b e, total-set f (set xs i b) j w z h, sum, none)

  -- a view becomes two
  pub total_cut : (f : A → ℕ) (xs : List A) (i : ℕ) (v l r : A)
      → get_elem? xs i ≡ some v
      → f l + f r ≡ f v
      → total f (set xs i l ++ r ∷ []) ≡ total f xs
  total_cut f xs i v l r e sum = omega (arith, total-set f xs i v l e, total-append f (set xs i l) (r ∷ []), sum)
