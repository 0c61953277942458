-- A setup is its counts and a bound for each owner and conit.
use Rattle.std.proofs.Common.{◌≡◌, ℕ, zero, suc, ◌+◌, ◌-◌, ◌*◌, ◌/◌, ◌%◌, ◌<◌, ◌≤◌, ◌==◌, Bool, true, false, nat_le, ltb, List, [], ◌∷◌, ◌++◌, length, get_or, take, drop, map, sum, All, Option, None, refl, sym, ap, subst, ◌∙◌, arith}
use Rattle.std.specs.Prelude.{◌&&◌, slice_get, slice_range}
use Rattle.std.specs.List.{flat_map, filter_map, range_with_len}
use Rattle.std.proofs.lemmas.Bool.{le-ltb, eq-eqb}
use Rattle.std.proofs.lemmas.Bool.Decides.{nat_tests}
use Rattle.std.proofs.lemmas.List.{take_at, drop_at, drop-drop, ext_get_or, get_or-map, get_or_past, length-map, length-append, take_all}
use Rattle.std.proofs.lemmas.List.Concat.{flat_map-cons}
use Rattle.std.proofs.lemmas.List.Folds.{flat_map-map}
use Rattle.std.proofs.lemmas.List.FromFn.{length-map-range_with_len}
use Rattle.std.proofs.lemmas.List.Sums.{sum_by-cons}
use Rattle.std.proofs.lemmas.Nat.{div-add-mod', div_below}
use Rattle.std.proofs.Math.Seq.{take-add}
use Rattle.tact_base.specs.declared.limits.TheConstants.{ALPHA_MAX, CONITS_MAX, REPLICAS_MAX, REPLICAS_MIN}
use Rattle.tact_base.specs.Setup.{Setup, IsSetup, alpha_of, loans_of, owners_and_conits, are_counts_good, row_fault}
use Rattle.tact_base.proofs.ListLemmas.{get_or-map_range}
use Rattle.tact_base.proofs.RangeLists.{flat_map_range_more}
use Rattle.tact_base.proofs.SetupLemmas.{HasCounts, HasCounts-from_IsSetup, HasRow-from_IsSetup, config_fault-at_rows, row_of, row_of-at_place, length-loans_of}
use Rattle.run_model.specs.Bytes.{number_bytes}
use Rattle.run_record.specs.declared.parts.Bound.{Bound}
use Rattle.run_record.specs.declared.parts.Counts.{Counts}
use Rattle.run_record.specs.RecordBytes.{bound_bytes}
use Rattle.run_record.specs.EntriesAt.{AreCounts, loan_bound}
use Rattle.run_record.specs.RecordAt.{setup_from}

-- ---- a list in pieces of one length

range_is : (ys : List ℕ) (start n : ℕ) → slice_range ys start (start + n) ≡ take n (drop start ys)
range_is ys start n =
    let long : start + n - start ≡ n = omega arith in
    ap (λ len. take len (drop start ys)) long

pub piece_at : {X : Type 0} (f : X → List ℕ) (n : ℕ) (xs : List X) (k : ℕ) (d : X)
    → ((i : ℕ) → i < length xs → length (f (get_or xs i d)) ≡ n)
    → k < length xs
    → take n (drop (k * n) (flat_map f xs)) ≡ f (get_or xs k d)
piece_at f n [] k d long lt = absurd (omega arith)
piece_at f n (x ∷ xs) zero d long lt =
    let here : length (f x) ≡ n = long 0 (omega arith) in
    let none : 0 * n ≡ 0 = omega arith in
    rw (flat_map-cons, none) (take_at (f x) (flat_map f xs) n here)
piece_at f n (x ∷ xs) (suc k) d long lt =
    let here : length (f x) ≡ n = long 0 (omega arith) in
    let more : suc k * n ≡ n + k * n = omega arith in
    let past : drop (n + k * n) (f x ++ flat_map f xs) ≡ drop (k * n) (flat_map f xs) =
    sym (drop-drop (k * n) n (f x ++ flat_map f xs)) ∙ ap (drop (k * n)) (drop_at (f x) (flat_map f xs) n here) in
    rw (flat_map-cons, more, past) (piece_at f n xs k d (λ i lt. long (suc i) (omega arith)) (omega arith))

pub pieces_join : (ys : List ℕ) (n count : ℕ)
    → flat_map (λ k. take n (drop (k * n) ys)) (range_with_len 0 count) ≡ take (count * n) ys
pieces_join ys n zero =
    let none : 0 * n ≡ 0 = omega arith in
    rw none refl
pieces_join ys n (suc count) =
    let next : count + 1 ≡ suc count = omega arith in
    let more : count * n + n ≡ (count + 1) * n = omega arith in
    let piece : ℕ → List ℕ = λ k. take n (drop (k * n) ys) in
    let one : flat_map piece (range_with_len 0 (count + 1)) ≡ take ((count + 1) * n) ys =
    flat_map_range_more piece count ∙ ap (λ front. front ++ take n (drop (count * n) ys)) (pieces_join ys n count)
    ∙ sym (take-add (count * n) n ys) ∙ ap (λ k. take k ys) more in
    subst (λ c. flat_map piece (range_with_len 0 c) ≡ take (c * n) ys) next one

-- ---- the bounds of a setup

abbrev pub bound_of : Setup → ℕ × ℕ → Bound
bound_of s pair = record { alpha = alpha_of s pair.0 pair.1; loans = loans_of s pair.0 pair.1 }

abbrev pub bound_text : Bound → List ℕ
bound_text bound = number_bytes bound.alpha ++ flat_map number_bytes bound.loans

-- the bound at a place among them
abbrev pub at_row : Setup → ℕ → Bound
at_row s place = record { alpha = get_or s.alphas place 0; loans = take s.replicas (drop (place * s.replicas) s.loans) }

abbrev pub bounds_of : Setup → List Bound
bounds_of s = map (at_row s) (range_with_len 0 (s.replicas * s.conits))

abbrev bound_with : ℕ → List ℕ → Bound
bound_with alpha loans = record { alpha = alpha; loans = loans }

pub bound_at_row : (s : Setup) (place : ℕ) → bound_of s (place / s.conits, place % s.conits) ≡ at_row s place
bound_at_row s place =
    let at = div-add-mod' place s.conits in
    let same : bound_of s (place / s.conits, place % s.conits) ≡ bound_with (get_or s.alphas place 0) (slice_range s.loans (place * s.replicas) (place * s.replicas + s.replicas)) =
    ap (λ p. bound_with (get_or s.alphas p 0) (slice_range s.loans (p * s.replicas) (p * s.replicas + s.replicas))) at in
    same ∙ ap (λ loans. bound_with (get_or s.alphas place 0) loans) (range_is s.loans (place * s.replicas) s.replicas)

pub spelled_bounds : (s : Setup) → flat_map (bound_bytes s) (owners_and_conits s) ≡ flat_map bound_text (bounds_of s)
spelled_bounds s =
    flat_map-map (bound_bytes s) (λ place. (place / s.conits, place % s.conits)) (range_with_len 0 (s.replicas * s.conits))
    ∙ same (range_with_len 0 (s.replicas * s.conits))
    ∙ sym (flat_map-map bound_text (at_row s) (range_with_len 0 (s.replicas * s.conits)))
  where
    same : (places : List ℕ) → flat_map (λ place. bound_bytes s (place / s.conits, place % s.conits)) places ≡ flat_map (λ place. bound_text (at_row s place)) places
    same [] = refl
    same (place ∷ places) = rw (flat_map-cons, flat_map-cons, same places) (ap (λ (b : Bound). bound_text b ++ flat_map (λ place. bound_text (at_row s place)) places) (bound_at_row s place))

-- ---- bounds that a record may have

-- loans to holders from one on
abbrev pub AreLoans : ℕ → ℕ → List ℕ → Type 0
AreLoans owner holder [] = Unit {0}
AreLoans owner holder (x ∷ xs) = (x < loan_bound owner holder) × AreLoans owner (suc holder) xs

pub record IsBound (replicas owner : ℕ) (bound : Bound) : Type 0 where
  pub alpha : bound.alpha ≤ ALPHA_MAX
  pub long : length bound.loans ≡ replicas
  pub loans : AreLoans owner 0 bound.loans
  pub total : sum bound.loans ≤ bound.alpha

-- bounds of the rows from one on
abbrev pub AreBounds : ℕ → ℕ → ℕ → List Bound → Type 0
AreBounds replicas conits row [] = Unit {0}
AreBounds replicas conits row (b ∷ bs) = IsBound replicas (row / conits) b × AreBounds replicas conits (suc row) bs

bound_at_place : (replicas conits row : ℕ) (bounds : List Bound) (k : ℕ) (d : Bound)
    → AreBounds replicas conits row bounds
    → k < length bounds
    → IsBound replicas ((row + k) / conits) (get_or bounds k d)
bound_at_place replicas conits row [] k d are lt = absurd (omega arith)
bound_at_place replicas conits row (b ∷ bs) zero d are lt =
    let at : row + 0 ≡ row = omega arith in
    rw at are.0
bound_at_place replicas conits row (b ∷ bs) (suc k) d are lt =
    let at : row + suc k ≡ suc row + k = omega arith in
    rw at (bound_at_place replicas conits (suc row) bs k d are.1 (omega arith))

own_loan : (owner holder loan : ℕ) → holder ≡ owner → loan < loan_bound owner holder → loan ≡ 0
own_loan owner holder loan same lt =
    let is : (holder == owner) ≡ true = eq-eqb holder owner same in
    omega (arith, rw is at lt)

own_is_none : (owner holder : ℕ) (loans : List ℕ) (k : ℕ)
    → AreLoans owner holder loans
    → holder + k ≡ owner
    → get_or loans k 0 ≡ 0
own_is_none owner holder [] k are at = get_or_past [] k 0 (omega arith)
own_is_none owner holder (x ∷ xs) zero are at = own_loan owner holder x (omega (arith, at)) are.0
own_is_none owner holder (x ∷ xs) (suc k) are at = own_is_none owner (suc holder) xs k are.1 (omega (arith, at))

loan_fits : (owner holder loan : ℕ) → (holder ≡ owner → loan ≡ 0) → loan ≤ ALPHA_MAX → loan < loan_bound owner holder
loan_fits owner holder loan none small = grind (arith, nat_tests)

pub loans_fit : (owner holder : ℕ) (loans : List ℕ)
    → ((k : ℕ) → holder + k ≡ owner → get_or loans k 0 ≡ 0)
    → sum loans ≤ ALPHA_MAX
    → AreLoans owner holder loans
loans_fit owner holder [] none small = tt
loans_fit owner holder (x ∷ xs) none small =
    let both : sum (x ∷ xs) ≡ x + sum xs = sum_by-cons (λ y. y) x xs in
    let here : x ≤ ALPHA_MAX = omega (arith, both, small) in
    let rest : sum xs ≤ ALPHA_MAX = omega (arith, both, small) in
    (loan_fits owner holder x (λ same. none 0 (omega (arith, same))) here, loans_fit owner (suc holder) xs (λ k at. none (suc k) (omega (arith, at))) rest)

-- ---- from bounds to their setup

no_row_fault : (owner conit alpha : ℕ) (loans : List ℕ)
    → alpha ≤ ALPHA_MAX
    → get_or loans owner 0 ≡ 0
    → sum loans ≤ alpha
    → row_fault owner conit alpha loans ≡ None
no_row_fault owner conit alpha loans a o t =
    let first : ltb ALPHA_MAX alpha ≡ false = le-ltb _ _ a in
    let own : get_or loans owner 0 ≤ 0 = omega (arith, o) in
    let second : ltb 0 (get_or loans owner 0) ≡ false = le-ltb _ _ own in
    let third : ltb alpha (sum loans) ≡ false = le-ltb _ _ t in
    rw (first, second, third) refl

none_of : {X Y : Type 0} (f : X → Option Y) (xs : List X)
    → All (λ x. f x ≡ None) xs
    → slice_get (filter_map f xs) 0 ≡ None
none_of f [] all = refl
none_of f (x ∷ xs) all =
    let here : f x ≡ None = all 0 x (omega arith) in
    rw here (none_of f xs (λ k d lt. all (suc k) d (omega arith)))

no_bound : Bound
no_bound = record { alpha = 0; loans = [] }

module _ (counts : Counts) (bounds : List Bound) (good : AreCounts counts) (many : length bounds ≡ counts.replicas * counts.conits) (are : AreBounds counts.replicas counts.conits 0 bounds) where
  abbrev whole : Setup
  whole = setup_from counts bounds

  is_bound : (k : ℕ) → k < length bounds → IsBound counts.replicas (k / counts.conits) (get_or bounds k no_bound)
  is_bound k lt =
      let at : 0 + k ≡ k = omega arith in
      rw at at (bound_at_place counts.replicas counts.conits 0 bounds k no_bound are lt)

  row_is : (k : ℕ) → k < length bounds → at_row whole k ≡ get_or bounds k no_bound
  row_is k lt =
      let b = get_or bounds k no_bound in
      let alpha : get_or whole.alphas k 0 ≡ b.alpha = get_or-map (λ (b : Bound). b.alpha) bounds k no_bound 0 lt in
      let loans : take counts.replicas (drop (k * counts.replicas) whole.loans) ≡ b.loans =
      piece_at (λ (b : Bound). b.loans) counts.replicas bounds k no_bound (λ i within. (is_bound i within).long) lt in
      same (get_or whole.alphas k 0) (take counts.replicas (drop (k * counts.replicas) whole.loans)) b alpha loans
    where
      same : (alpha : ℕ) (loans : List ℕ) (b : Bound) → alpha ≡ b.alpha → loans ≡ b.loans → record { alpha = alpha; loans = loans } ≡ b
      same alpha loans b a l = rw (a, l) refl

  pub bounds_back : bounds_of whole ≡ bounds
  bounds_back =
      let long : length (bounds_of whole) ≡ length bounds = length-map-range_with_len (at_row whole) 0 (counts.replicas * counts.conits) ∙ sym many in
      ext_get_or no_bound (bounds_of whole) bounds long
      (λ k within. get_or-map_range (at_row whole) (counts.replicas * counts.conits) k no_bound (omega (arith, within, long, many)) ∙ row_is k (omega (arith, within, long)))

  row_good : (k : ℕ) → k < length bounds → row_of whole (k / counts.conits, k % counts.conits) ≡ None
  row_good k lt =
      let b = get_or bounds k no_bound in
      let is = is_bound k lt in
      let own : get_or b.loans (k / counts.conits) 0 ≡ 0 = own_is_none (k / counts.conits) 0 b.loans (k / counts.conits) is.loans (omega arith) in
      let fine = no_row_fault (k / counts.conits) (k % counts.conits) b.alpha b.loans is.alpha own is.total in
      let row = row_is k lt in
      let alpha : get_or whole.alphas k 0 ≡ b.alpha = ap (λ (r : Bound). r.alpha) row in
      let loans : slice_range whole.loans (k * counts.replicas) (k * counts.replicas + counts.replicas) ≡ b.loans =
      range_is whole.loans (k * counts.replicas) counts.replicas ∙ ap (λ (r : Bound). r.loans) row in
      row_of-at_place whole k ∙ rw (alpha, loans) fine

  loans_long : (n : ℕ) (bs : List Bound) → ((i : ℕ) → i < length bs → length ((get_or bs i no_bound).loans) ≡ n) → length (flat_map (λ (b : Bound). b.loans) bs) ≡ length bs * n
  loans_long n [] each = omega arith
  loans_long n (b ∷ bs) each =
      let rest = loans_long n bs (λ i lt. each (suc i) (omega arith)) in
      let here : length b.loans ≡ n = each 0 (omega arith) in
      rw flat_map-cons (omega (arith, rest, here, length-append b.loans (flat_map (λ (b : Bound). b.loans) bs)))

  counts_good : are_counts_good whole ≡ true
  counts_good =
      let alphas : length whole.alphas ≡ counts.replicas * counts.conits = length-map bounds (λ (b : Bound). b.alpha) ∙ many in
      let loans : length whole.loans ≡ counts.replicas * counts.conits * counts.replicas =
      loans_long counts.replicas bounds (λ i lt. (is_bound i lt).long) ∙ ap (λ n. n * counts.replicas) many in
      let low : nat_le REPLICAS_MIN counts.replicas ≡ true = le_true _ _ good.0 in
      let high : nat_le counts.replicas REPLICAS_MAX ≡ true = le_true _ _ good.1 in
      let least : nat_le 1 counts.conits ≡ true = le_true _ _ good.2 in
      let most : nat_le counts.conits CONITS_MAX ≡ true = le_true _ _ good.3 in
      let as_many : (length whole.alphas == counts.replicas * counts.conits) ≡ true = eq-eqb _ _ alphas in
      let as_long : (length whole.loans == counts.replicas * counts.conits * counts.replicas) ≡ true = eq-eqb _ _ loans in
      all_true _ _ _ _ _ _ low high least most as_many as_long
    where
      le_true : (a b : ℕ) → a ≤ b → nat_le a b ≡ true
      le_true a b h = grind (arith, nat_tests)

      all_true : (a b c d e f : Bool) → a ≡ true → b ≡ true → c ≡ true → d ≡ true → e ≡ true → f ≡ true → (a && b && c && d && e && f) ≡ true
      all_true a b c d e f ta tb tc td te tf = rw (ta, tb, tc, td, te, tf) refl

  pub bounds_are_setup : IsSetup whole
  bounds_are_setup =
      config_fault-at_rows whole counts_good
      ∙ none_of (row_of whole) (owners_and_conits whole)
      (λ k d lt.
      let long : length (owners_and_conits whole) ≡ counts.replicas * counts.conits = length-map-range_with_len _ 0 (counts.replicas * counts.conits) in
      let within : k < counts.replicas * counts.conits = omega (arith, lt, long) in
      let at = get_or-map_range (λ place. (place / counts.conits, place % counts.conits)) (counts.replicas * counts.conits) k d within in
      rw at (row_good k (omega (arith, within, many))))

-- ---- from a setup to its bounds

abbrev pub counts_of : Setup → Counts
counts_of s = record { replicas = s.replicas; conits = s.conits }

module _ (s : Setup) (is : IsSetup s) where
  has : HasCounts s
  has = HasCounts-from_IsSetup s is

  row_bound : (place : ℕ) → place < s.replicas * s.conits → IsBound s.replicas (place / s.conits) (at_row s place)
  row_bound place lt =
      let owner : place / s.conits < s.replicas = div_below place s.conits s.replicas (omega (arith, has.conits_low)) lt in
      let conit : place % s.conits < s.conits = omega (arith, has.conits_low) in
      let row = HasRow-from_IsSetup s is (place / s.conits) (place % s.conits) owner conit in
      let long = length-loans_of s has (place / s.conits) (place % s.conits) owner conit in
      let b = bound_of s (place / s.conits, place % s.conits) in
      let none : (k : ℕ) → 0 + k ≡ place / s.conits → get_or b.loans k 0 ≡ 0 = λ k at. subst (λ o. get_or b.loans o 0 ≡ 0) (sym (omega (arith, at))) row.own in
      let made : IsBound s.replicas (place / s.conits) b = record {
        alpha = row.alpha;
        long = long;
        loans = loans_fit (place / s.conits) 0 b.loans none (omega (arith, row.total, row.alpha));
        total = row.total;
      } in
      subst (IsBound s.replicas (place / s.conits)) (bound_at_row s place) made

  rows_are : (count row : ℕ)
      → row + count ≤ s.replicas * s.conits
      → AreBounds s.replicas s.conits row (map (at_row s) (range_with_len row count))
  rows_are zero row within = tt
  rows_are (suc count) row within =
      let next : row + 1 ≡ suc row = omega arith in
      let rest : AreBounds s.replicas s.conits (row + 1) (map (at_row s) (range_with_len (row + 1) count)) = rows_are count (row + 1) (omega (arith, within)) in
      (row_bound row (omega (arith, within)), subst (λ r. AreBounds s.replicas s.conits r (map (at_row s) (range_with_len (row + 1) count))) next rest)

  pub setup_bounds : AreBounds s.replicas s.conits 0 (bounds_of s)
  setup_bounds = rows_are (s.replicas * s.conits) 0 (omega arith)

  pub length-bounds_of : length (bounds_of s) ≡ s.replicas * s.conits
  length-bounds_of = length-map-range_with_len (at_row s) 0 (s.replicas * s.conits)

  alphas_back : map (λ (b : Bound). b.alpha) (bounds_of s) ≡ s.alphas
  alphas_back =
      let long : length (map (λ (b : Bound). b.alpha) (bounds_of s)) ≡ length s.alphas = length-map (bounds_of s) (λ (b : Bound). b.alpha) ∙ length-bounds_of ∙ sym has.alphas in
      ext_get_or 0 (map (λ (b : Bound). b.alpha) (bounds_of s)) s.alphas long
      (λ k within.
      let inside : k < s.replicas * s.conits = omega (arith, within, long, has.alphas) in
      get_or-map (λ (b : Bound). b.alpha) (bounds_of s) k no_bound 0 (omega (arith, inside, length-bounds_of))
      ∙ ap (λ (b : Bound). b.alpha) (get_or-map_range (at_row s) (s.replicas * s.conits) k no_bound inside))

  loans_back : flat_map (λ (b : Bound). b.loans) (bounds_of s) ≡ s.loans
  loans_back =
      let rows = range_with_len 0 (s.replicas * s.conits) in
      flat_map-map (λ (b : Bound). b.loans) (at_row s) rows
      ∙ pieces_join s.loans s.replicas (s.replicas * s.conits)
      ∙ take_all (s.replicas * s.conits * s.replicas) s.loans (omega (arith, has.loans))

  pub setup_back : setup_from (counts_of s) (bounds_of s) ≡ s
  setup_back = rw (alphas_back, loans_back) refl

  pub setup_counts : AreCounts (counts_of s)
  setup_counts = (has.replicas_low, has.replicas_high, has.conits_low, has.conits_high)
