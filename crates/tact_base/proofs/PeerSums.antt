-- Sums over the replicas other than one.
use Rattle.std.proofs.Common.{◌≡◌, ℕ, zero, suc, ◌+◌, ◌<◌, ◌≤◌, ◌==◌, true, false, not, cond, List, [], ◌∷◌, length, get_or, map, sum, sum_by, All, inl, inr, ◌⊎◌, refl, sym, ap, ◌∙◌, arith}
use Rattle.std.specs.List.{range_with_len}
use Rattle.std.proofs.lemmas.Bool.{cases_eq, eq-eqb, ne_eqb}
use Rattle.std.proofs.lemmas.List.{ext_get_or}
use Rattle.std.proofs.lemmas.List.Elements.{All-head, All-tail}
use Rattle.std.proofs.lemmas.List.FromFn.{length-map-range_with_len, get_or-map-range_with_len}
use Rattle.std.proofs.lemmas.List.Sums.{sum_by-cons, sum-map}
use Rattle.tact_base.specs.Setup.{Setup, replicas_of, peers_of}
use Rattle.tact_base.proofs.FilterSums.{sum_by-filter-le_all}

-- where each term is at most another
pub sum_by-each-le : {X : Type 0} (f g : X → ℕ) (xs : List X)
    → All (λ x. f x ≤ g x) xs
    → sum_by f xs ≤ sum_by g xs
sum_by-each-le f g [] all = omega arith
sum_by-each-le f g (x ∷ xs) all =
    omega (arith, sum_by-cons f x xs, sum_by-cons g x xs, All-head (λ x. f x ≤ g x) x xs all, sum_by-each-le f g xs (All-tail (λ x. f x ≤ g x) x xs all))

-- and where the terms are the same
pub sum_by-each : {X : Type 0} (f g : X → ℕ) (xs : List X)
    → All (λ x. f x ≡ g x) xs
    → sum_by f xs ≡ sum_by g xs
sum_by-each f g [] all = refl
sum_by-each f g (x ∷ xs) all =
    omega (arith, sum_by-cons f x xs, sum_by-cons g x xs, All-head (λ x. f x ≡ g x) x xs all, sum_by-each f g xs (All-tail (λ x. f x ≡ g x) x xs all))

pub sum_by-plus : {X : Type 0} (f g : X → ℕ) (xs : List X)
    → sum_by (λ x. f x + g x) xs ≡ sum_by f xs + sum_by g xs
sum_by-plus f g [] = refl
sum_by-plus f g (x ∷ xs) =
    omega (arith, sum_by-cons f x xs, sum_by-cons g x xs, sum_by-cons (λ x. f x + g x) x xs, sum_by-plus f g xs)

-- an amount at one number
abbrev pub at_one : ℕ → ℕ → ℕ → ℕ
at_one one amount i = cond (one == i) amount 0

at_one-before : (one amount start len : ℕ)
    → one < start
    → sum_by (at_one one amount) (range_with_len start len) ≡ 0
at_one-before one amount start zero before = refl
at_one-before one amount start (suc len) before =
    let off : (one == start) ≡ false = ne_eqb one start (λ (same : one ≡ start). omega (arith, same)) in
    let here : at_one one amount start ≡ 0 = ap (λ yes. cond yes amount 0) off in
    omega (arith, here, sum_by-cons (at_one one amount) start (range_with_len (start + 1) len), at_one-before one amount (start + 1) len (omega arith))

at_one-le : (one amount start len : ℕ)
    → sum_by (at_one one amount) (range_with_len start len) ≤ amount
at_one-le one amount start zero = omega arith
at_one-le one amount start (suc len) = go (cases_eq one start) (at_one-le one amount (start + 1) len)
  where
    go : (one ≡ start) ⊎ (one ≡ start → ⊥)
        → sum_by (at_one one amount) (range_with_len (start + 1) len) ≤ amount
        → sum_by (at_one one amount) (range_with_len start (suc len)) ≤ amount
    go (inl same) rest =
        let on : (one == start) ≡ true = eq-eqb one start same in
        let here : at_one one amount start ≡ amount = ap (λ yes. cond yes amount 0) on in
        omega (arith, here, sum_by-cons (at_one one amount) start (range_with_len (start + 1) len), at_one-before one amount (start + 1) len (omega arith))
    go (inr other) rest =
        let off : (one == start) ≡ false = ne_eqb one start other in
        let here : at_one one amount start ≡ 0 = ap (λ yes. cond yes amount 0) off in
        omega (arith, here, sum_by-cons (at_one one amount) start (range_with_len (start + 1) len), rest)

-- over the peers, an amount at one of them counts once
pub at_one-peers : (setup : Setup) (replica one amount : ℕ)
    → sum_by (at_one one amount) (peers_of setup replica) ≤ amount
at_one-peers setup replica one amount =
    omega (arith, sum_by-filter-le_all (at_one one amount) (λ peer. not (peer == replica)) (replicas_of setup), at_one-le one amount 0 setup.replicas)

-- a list, read number by number
list-reads : (xs : List ℕ) → map (λ i. get_or xs i 0) (range_with_len 0 (length xs)) ≡ xs
list-reads xs =
    ext_get_or 0 (map (λ i. get_or xs i 0) (range_with_len 0 (length xs))) xs (length-map-range_with_len (λ i. get_or xs i 0) 0 (length xs))
    (λ i within. get_or-map-range_with_len (λ i. get_or xs i 0) 0 (length xs) i i 0 (omega (arith, within, length-map-range_with_len (λ i. get_or xs i 0) 0 (length xs))) (omega arith))

-- what a list has at the peers is at most what it has in all
pub reads-peers : (setup : Setup) (replica : ℕ) (xs : List ℕ)
    → length xs ≡ setup.replicas
    → sum_by (λ i. get_or xs i 0) (peers_of setup replica) ≤ sum xs
reads-peers setup replica xs size =
    let some = sum_by-filter-le_all (λ i. get_or xs i 0) (λ peer. not (peer == replica)) (replicas_of setup) in
    let whole : sum_by (λ i. get_or xs i 0) (range_with_len 0 (length xs)) ≡ sum xs = sym (sum-map (λ i. get_or xs i 0) (range_with_len 0 (length xs))) ∙ ap sum (list-reads xs) in
    let same : sum_by (λ i. get_or xs i 0) (range_with_len 0 (length xs)) ≡ sum_by (λ i. get_or xs i 0) (replicas_of setup) = ap (λ n. sum_by (λ i. get_or xs i 0) (range_with_len 0 n)) size in
    omega (arith, some, whole, same)
