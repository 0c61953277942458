-- Two lists whose elements are related pair by pair.
use Rattle.std.proofs.Common.{◌≡◌, ℕ, ◌<◌, zero, suc, List, [], ◌∷◌, ◌++◌, All, get_or, length, map, set, refl, arith}
use Rattle.std.proofs.lemmas.List.Elements.{All-cons, All-head, All-nil, All-tail}
use Rattle.std.specs.List.{AllZip}

-- one more pair, and how many there are
module _ {A B : Type 0} (R : A → B → Type 0) where
  pub AllZip-join : (xs : List A) (ys : List B) (x : A) (y : B) → AllZip R xs ys → R x y → AllZip R (xs ++ x ∷ []) (ys ++ y ∷ [])
  AllZip-join [] [] x y all one = (one, tt)
  AllZip-join [] (b ∷ ys) x y all one = absurd all
  AllZip-join (a ∷ xs) [] x y all one = absurd all
  AllZip-join (a ∷ xs) (b ∷ ys) x y all one = (all.0, AllZip-join xs ys x y all.1 one)

  pub AllZip-size : (xs : List A) (ys : List B) → AllZip R xs ys → length ys ≡ length xs
  AllZip-size [] [] all = refl
  AllZip-size [] (b ∷ ys) all = absurd all
  AllZip-size (a ∷ xs) [] all = absurd all
  AllZip-size (a ∷ xs) (b ∷ ys) all = let rest = AllZip-size xs ys all.1 in omega (arith, rest)

-- what follows of each pair
pub AllZip-less : {A B : Type 0} (R S : A → B → Type 0) (xs : List A) (ys : List B)
    → ((x : A) (y : B) → R x y → S x y)
    → AllZip R xs ys
    → AllZip S xs ys
AllZip-less R S [] [] less all = tt
AllZip-less R S [] (b ∷ ys) less all = absurd all
AllZip-less R S (a ∷ xs) [] less all = absurd all
AllZip-less R S (a ∷ xs) (b ∷ ys) less all = (less a b all.0, AllZip-less R S xs ys less all.1)

-- one of the pairs
pub AllZip-at : {A B : Type 0} (R : A → B → Type 0) (xs : List A) (ys : List B) (at : ℕ) (d : A) (e : B)
    → AllZip R xs ys
    → at < length xs
    → (at < length ys) × R (get_or xs at d) (get_or ys at e)
AllZip-at R [] ys at d e all within = absurd (omega (arith, within))
AllZip-at R (x ∷ xs) [] at d e all within = absurd all
AllZip-at R (x ∷ xs) (y ∷ ys) zero d e all within = (omega arith, all.0)
AllZip-at R (x ∷ xs) (y ∷ ys) (suc at) d e all within =
    let rest = AllZip-at R xs ys at d e all.1 (omega (arith, within)) in
    (omega (arith, rest.0), rest.1)

-- of two lists of one kind of elements
module _ {X : Type 0} (R : X → X → Type 0) where
  pub AllZip-refl : ((x : X) → R x x) → (xs : List X) → AllZip R xs xs
  AllZip-refl same [] = tt
  AllZip-refl same (x ∷ xs) = (same x, AllZip-refl same xs)

  pub AllZip-trans : ((x y z : X) → R x y → R y z → R x z)
      → (xs ys zs : List X)
      → AllZip R xs ys
      → AllZip R ys zs
      → AllZip R xs zs
  AllZip-trans then [] [] [] one other = tt
  AllZip-trans then [] [] (z ∷ zs) one other = absurd other
  AllZip-trans then [] (y ∷ ys) zs one other = absurd one
  AllZip-trans then (x ∷ xs) [] zs one other = absurd one
  AllZip-trans then (x ∷ xs) (y ∷ ys) [] one other = absurd other
  AllZip-trans then (x ∷ xs) (y ∷ ys) (z ∷ zs) one other = (then x y z one.0 other.0, AllZip-trans then xs ys zs one.1 other.1)

  pub AllZip-set : ((x : X) → R x x)
      → (xs : List X) (place : ℕ) (y : X)
      → place < length xs
      → R (get_or xs place y) y
      → AllZip R xs (set xs place y)
  AllZip-set same [] place y within there = absurd (omega (arith, within))
  AllZip-set same (x ∷ xs) zero y within there = (there, AllZip-refl same xs)
  AllZip-set same (x ∷ xs) (suc place) y within there = (same x, AllZip-set same xs place y (omega (arith, within)) there)

  -- what it keeps of each element
  pub All-zip : (P : X → Type 0)
      → ((x y : X) → R x y → P x → P y)
      → (xs ys : List X)
      → AllZip R xs ys
      → All P xs
      → All P ys
  All-zip P keeps [] [] zip all = All-nil P
  All-zip P keeps [] (y ∷ ys) zip all = absurd zip
  All-zip P keeps (x ∷ xs) [] zip all = absurd zip
  All-zip P keeps (x ∷ xs) (y ∷ ys) zip all =
      All-cons P y ys (keeps x y zip.0 (All-head P x xs all)) (All-zip P keeps xs ys zip.1 (All-tail P x xs all))

  pub All-zip_back : (P : X → Type 0)
      → ((x y : X) → R x y → P y → P x)
      → (xs ys : List X)
      → AllZip R xs ys
      → All P ys
      → All P xs
  All-zip_back P keeps [] [] zip all = All-nil P
  All-zip_back P keeps [] (y ∷ ys) zip all = absurd zip
  All-zip_back P keeps (x ∷ xs) [] zip all = absurd zip
  All-zip_back P keeps (x ∷ xs) (y ∷ ys) zip all =
      All-cons P x xs (keeps x y zip.0 (All-head P y ys all)) (All-zip_back P keeps xs ys zip.1 (All-tail P y ys all))

  pub map-zip : {Y : Type 0} (f : X → Y)
      → ((x y : X) → R x y → f y ≡ f x)
      → (xs ys : List X)
      → AllZip R xs ys
      → map f ys ≡ map f xs
  map-zip f keeps [] [] zip = refl
  map-zip f keeps [] (y ∷ ys) zip = absurd zip
  map-zip f keeps (x ∷ xs) [] zip = absurd zip
  map-zip f keeps (x ∷ xs) (y ∷ ys) zip = rw (keeps x y zip.0, map-zip f keeps xs ys zip.1) refl
