-- Where the numbers of a replica on a conit stand, and what is read there and after a write.
use Rattle.std.proofs.Common.{◌≡◌, ℕ, ◌+◌, ◌-◌, ◌*◌, ◌/◌, ◌%◌, ◌<◌, ◌≤◌, List, length, get_or, set, map, take, drop, replicate, sym, ap, ◌∙◌, inl, inr, ◌⊎◌, ⊎_elim, arith}
use Rattle.std.proofs.lemmas.Bool.{cases_eq, cases_lt}
use Rattle.std.proofs.lemmas.List.{get_or-set_same, get_or-set_other, set_past, get_or_read, get_or_past, get_or-replicate, get_or-take, get_or-drop, length-replicate, length-take-le, length-drop}
use Rattle.std.proofs.lemmas.List.FromFn.{fill_by_all}
use Rattle.std.proofs.lemmas.Nat.{div-mul-add, mod-mul-add, mul-le}
use Rattle.tact_base.proofs.ListLemmas.{get_or-map_range}
use Rattle.tact_base.proofs.SetupLemmas.{place_in}
use Rattle.tact_base.specs.Setup.{Setup, place_of, conits_of}
use Rattle.split_budget.specs.Budgets.{by_place}

-- a place tells the replica and the conit
module _ (s : Setup) (r k r' k' : ℕ) (in_k : k < s.conits) (in_k' : k' < s.conits) (same : place_of s r k ≡ place_of s r' k') where
  pub place_of-replica : r ≡ r'
  place_of-replica = sym (div-mul-add r s.conits k in_k) ∙ ap (λ place. place / s.conits) same ∙ div-mul-add r' s.conits k' in_k'

  pub place_of-conit : k ≡ k'
  place_of-conit = sym (mod-mul-add r s.conits k in_k) ∙ ap (λ place. place % s.conits) same ∙ mod-mul-add r' s.conits k' in_k'

-- what stands there, of numbers that a function gives
pub get_or-by_place : (s : Setup) (number : ℕ → ℕ → ℕ) (replica conit : ℕ)
    → replica < s.replicas
    → conit < s.conits
    → get_or (by_place s number) (place_of s replica conit) 0 ≡ number replica conit
get_or-by_place s number replica conit r k =
    let at = get_or-map_range (λ place. number (place / s.conits) (place % s.conits)) (s.replicas * s.conits) (place_of s replica conit) 0 (place_in s replica conit r k) in
    rw (div-mul-add replica s.conits conit k, mod-mul-add replica s.conits conit k) at at

-- what code reads at the place of a replica on a conit
pub read_at_place : (s : Setup) (xs : List ℕ) (replica conit place read : ℕ)
    → length xs ≡ s.replicas * s.conits
    → replica < s.replicas
    → conit < s.conits
    → place ≡ place_of s replica conit
    → read ≡ get_or xs place read
    → read ≡ get_or xs (place_of s replica conit) 0
read_at_place s xs replica conit place read long r k at is =
    let within : place < length xs = rw (at, long) (place_in s replica conit r k) in
    get_or_read xs place read within is 0 ∙ ap (λ i. get_or xs i 0) at

-- what is read after a write
pub get_or-set_cases : (xs : List ℕ) (i v q : ℕ)
    → i < length xs
    → ((q ≡ i) × (get_or (set xs i v) q 0 ≡ v)) ⊎ ((q ≡ i → ⊥) × (get_or (set xs i v) q 0 ≡ get_or xs q 0))
get_or-set_cases xs i v q within =
    ⊎_elim (λ (same : q ≡ i). inl (same, rw same (get_or-set_same xs i v 0 within)))
    (λ (other : q ≡ i → ⊥). inr (other, get_or-set_other xs i q v 0 other))
    (cases_eq q i)

-- a write of a greater number lessens nothing
pub get_or-set_grows : (xs : List ℕ) (i v q : ℕ)
    → get_or xs i 0 ≤ v
    → get_or xs q 0 ≤ get_or (set xs i v) q 0
get_or-set_grows xs i v q more =
    ⊎_elim (λ (within : i < length xs).
    ⊎_elim (λ (here : (q ≡ i) × (get_or (set xs i v) q 0 ≡ v)). rw (here.1, here.0) more)
    (λ (there : (q ≡ i → ⊥) × (get_or (set xs i v) q 0 ≡ get_or xs q 0)). omega (arith, there.1))
    (get_or-set_cases xs i v q within))
    (λ (past : length xs ≤ i). rw (set_past xs i v past) (omega arith))
    (cases_lt i (length xs))

-- what is read of a list of one number, at that number
pub get_or-replicate_same : (n i x : ℕ) → get_or (replicate n x) i x ≡ x
get_or-replicate_same n i x =
    ⊎_elim (λ (within : i < n). get_or-replicate n i x x within)
    (λ (past : n ≤ i). get_or_past (replicate n x) i x (rw (length-replicate n x) past))
    (cases_lt i n)

-- the numbers of a replica on all conits stand side by side
pub row_at : (s : Setup) (xs : List ℕ) (replica first : ℕ)
    → length xs ≡ s.replicas * s.conits
    → replica < s.replicas
    → first ≡ place_of s replica 0
    → take (first + s.conits - first) (drop first xs) ≡ map (λ conit. get_or xs (place_of s replica conit) 0) (conits_of s)
row_at s xs replica first long in_r at =
    let width : first + s.conits - first ≡ s.conits = omega arith in
    let within : first + s.conits ≤ length xs = omega (arith, mul-le (replica + 1) s.conits s.replicas s.conits (omega (arith, in_r)) (omega arith), at, long) in
    rw width (fill_by_all (λ conit. get_or xs (place_of s replica conit) 0) (take s.conits (drop first xs)) s.conits 0
    (length-take-le s.conits (drop first xs) (rw (length-drop first xs) (omega (arith, within))))
    (λ conit in_conit.
    get_or-take s.conits (drop first xs) conit 0 in_conit
    ∙ get_or-drop first xs conit 0
    ∙ ap (λ place. get_or xs place 0) (omega (arith, at))))
