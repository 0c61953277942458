-- The setup that bounds make is never at fault.
use Rattle.std.proofs.Common.{◌≡◌, ℕ, zero, suc, ◌+◌, ◌-◌, ◌*◌, ◌/◌, ◌%◌, ◌<◌, ◌≤◌, Bool, true, false, cond, eqb, List, [], ◌∷◌, ◌++◌, length, map, drop, get_or, sum, Option, Some, None, All, refl, sym, ap, subst, ◌∙◌, ⊎_elim, arith}
use Rattle.std.specs.List.{find, flat_map, range_with_len, slice_range}
use Rattle.std.proofs.lemmas.Bool.{and_parts, and_from, le-leb, le-ltb, eq-eqb, eqb-true, cond-false, cases_lt}
use Rattle.std.proofs.lemmas.List.{length-append, length-drop, drop-append-le, drop_at, take-append-le, take_all}
use Rattle.std.proofs.lemmas.List.Elements.{All-head, All-tail, All-map}
use Rattle.std.proofs.lemmas.List.FromFn.{get_or-map-range_with_len, length-map-range_with_len}
use Rattle.std.proofs.lemmas.List.Sums.{sum_by-le}
use Rattle.std.proofs.lemmas.Nat.{div_below, row_fits}
use Rattle.tact_base.specs.declared.limits.TheConstants.{ALPHA_MAX}
use Rattle.tact_base.specs.declared.setup.ConfigFault.{ConfigFault}
use Rattle.tact_base.specs.declared.setup.ConfigFault.TheVariants.{BadCount, AlphaOver, OwnLoan, LoansOver, NoMemory}
use Rattle.tact_base.specs.Setup.{Setup, owners_and_conits, are_counts_good, row_fault, IsSetup, IsRefusalOf}
use Rattle.tact_base.proofs.RangeLists.{flat_map_range_more}
use Rattle.tact_base.proofs.SetupLemmas.{row_of, first_of, first_of-drop_none, first_of-drop_all, config_fault-at_rows, row_of-at_place}
use Rattle.work_load.specs.Bounds.{binds, alpha_by, loans_by, bound_of, alphas_of, loans_of, setup_of}
use Rattle.work_load.specs.Ranges.{IsBoundOf}
use Rattle.work_load.specs.declared.bounds.Bound.{Bound}

-- what a search finds passes its test, and what holds of each element holds of it
found_cons : {X : Type 0} (P : X → Type 0) (test : X → Bool) (y : X) (ys : List X) (x : X) (passes : Bool)
    → (find test ys ≡ Some x → (test x ≡ true) × P x)
    → P y
    → test y ≡ passes
    → cond passes (Some y) (find test ys) ≡ Some x
    → (test x ≡ true) × P x
found_cons {X} P test y ys x true rest here is h =
    let same : y ≡ x = cc in
    (subst (λ (z : X). test z ≡ true) same is, subst P same here)
found_cons P test y ys x false rest here is h = rest h

pub found : {X : Type 0} (P : X → Type 0) (test : X → Bool) (xs : List X) (x : X)
    → All P xs
    → find test xs ≡ Some x
    → (test x ≡ true) × P x
found P test [] x all h = cc
found P test (y ∷ ys) x all h =
    found_cons P test y ys x (test y) (found P test ys x (All-tail P y ys all)) (All-head P y ys all) refl h

-- a part of joined lists: within the first, and the second
slice-front : {X : Type 0} (xs ys : List X) (start n : ℕ)
    → start + n ≤ length xs
    → slice_range (xs ++ ys) start (start + n) ≡ slice_range xs start (start + n)
slice-front {X} xs ys start n within =
    let left : n ≤ length (drop start xs) = simp length-drop (omega arith) in
    let size : start + n - start ≡ n = omega arith in
    rw (size, drop-append-le start xs ys (omega arith)) (take-append-le n (drop start xs) ys left)

slice-second : {X : Type 0} (xs ys : List X) (start n : ℕ)
    → length xs ≡ start
    → length ys ≡ n
    → slice_range (xs ++ ys) start (start + n) ≡ ys
slice-second xs ys start n first second = rw (drop_at xs ys start first) (take_all (start + n - start) ys (omega arith))

-- rows of one length, joined: how long they are together, and each of them
pub length-flat_map_rows : {X : Type 0} (row : ℕ → List X) (n count : ℕ)
    → ((place : ℕ) → place < count → length (row place) ≡ n)
    → length (flat_map row (range_with_len 0 count)) ≡ count * n
length-flat_map_rows row n zero rows = omega arith
length-flat_map_rows row n (suc count) rows =
    let front : length (flat_map row (range_with_len 0 count)) ≡ count * n = length-flat_map_rows row n count (λ place below. rows place (omega arith)) in
    let last : length (row count) ≡ n = rows count (omega arith) in
    let one : count + 1 ≡ suc count = omega arith in
    let joined : length (flat_map row (range_with_len 0 (count + 1))) ≡ (count + 1) * n =
    rw (flat_map_range_more row count, length-append) (omega arith) in
    subst (λ (k : ℕ). length (flat_map row (range_with_len 0 k)) ≡ k * n) one joined

pub slice-flat_map_rows : {X : Type 0} (row : ℕ → List X) (n count place : ℕ)
    → ((place : ℕ) → place < count → length (row place) ≡ n)
    → place < count
    → slice_range (flat_map row (range_with_len 0 count)) (place * n) (place * n + n) ≡ row place
slice-flat_map_rows row n zero place rows within = absurd (omega arith)
slice-flat_map_rows {X} row n (suc count) place rows within =
    let before : (place : ℕ) → place < count → length (row place) ≡ n = λ place below. rows place (omega arith) in
    let front : length (flat_map row (range_with_len 0 count)) ≡ count * n = length-flat_map_rows row n count before in
    let one : count + 1 ≡ suc count = omega arith in
    let xs = flat_map row (range_with_len 0 count) in
    let at_front : place < count → slice_range (xs ++ row count) (place * n) (place * n + n) ≡ row place = λ below.
    slice-front xs (row count) (place * n) n (rw front (row_fits place n count n below (omega arith)))
    ∙ slice-flat_map_rows row n count place before below in
    let at_last : count ≤ place → slice_range (xs ++ row count) (place * n) (place * n + n) ≡ row place = λ above.
    let same : count ≡ place = omega arith in
    subst (λ (k : ℕ). slice_range (xs ++ row count) (k * n) (k * n + n) ≡ row k) same
    (slice-second xs (row count) (count * n) n front (rows count (omega arith))) in
    let joined : slice_range (flat_map row (range_with_len 0 (count + 1))) (place * n) (place * n + n) ≡ row place =
    rw (flat_map_range_more row count) (⊎_elim at_front at_last (cases_lt place count)) in
    subst (λ (k : ℕ). slice_range (flat_map row (range_with_len 0 k)) (place * n) (place * n + n) ≡ row place) one joined

-- of a choice among three where no test holds
none_chosen : {A : Type 0} (a b c : Bool) (x y z : Option A)
    → a ≡ false
    → b ≡ false
    → c ≡ false
    → cond a x (cond b y (cond c z None)) ≡ None
none_chosen a b c x y z not_a not_b not_c = cond-false a x _ not_a ∙ cond-false b y _ not_b ∙ cond-false c z None not_c

-- an alpha and loans by holder that are as they should be
pub record IsRow (replicas owner limit : ℕ) (loans : List ℕ) : Type 0 where
  pub holders : length loans ≡ replicas
  pub alpha : limit ≤ ALPHA_MAX
  pub own : get_or loans owner 0 ≡ 0
  pub total : sum loans ≤ limit

pub row_fault-at_IsRow : (replicas owner conit alpha : ℕ) (loans : List ℕ)
    → IsRow replicas owner alpha loans
    → row_fault owner conit alpha loans ≡ None
row_fault-at_IsRow replicas owner conit alpha loans row =
    none_chosen _ _ _ (Some (AlphaOver owner conit)) (Some (OwnLoan owner conit)) (Some (LoansOver owner conit))
    (le-ltb ALPHA_MAX alpha row.alpha) (le-ltb 0 (get_or loans owner 0) (omega (arith, row.own))) (le-ltb alpha (sum loans) row.total)

-- a setup of good counts whose rows have no fault
no_fault_from : (s : Setup)
    → ((place : ℕ) → place < s.replicas * s.conits → row_of s (place / s.conits, place % s.conits) ≡ None)
    → (left place : ℕ)
    → place + left ≡ s.replicas * s.conits
    → first_of s (drop place (owners_and_conits s)) ≡ None
no_fault_from s rows zero place ends = first_of-drop_all s place (omega arith)
no_fault_from s rows (suc left) place ends =
    let below : place < s.replicas * s.conits = omega arith in
    sym (first_of-drop_none s place below (rows place below)) ∙ no_fault_from s rows left (place + 1) (omega arith)

pub IsSetup-from_rows : (s : Setup)
    → are_counts_good s ≡ true
    → ((place : ℕ) → place < s.replicas * s.conits → row_of s (place / s.conits, place % s.conits) ≡ None)
    → IsSetup s
IsSetup-from_rows s good rows = config_fault-at_rows s good ∙ no_fault_from s rows (s.replicas * s.conits) 0 (omega arith)

-- what is lent where no bound says it
lent_little : (own : Bool) → cond own 0 100000 ≤ 100000
lent_little true = omega arith
lent_little false = omega arith

default_row : (replicas owner : ℕ)
    → replicas ≤ 8
    → owner < replicas
    → IsRow replicas owner 1000000 (map (λ holder. cond (eqb holder owner) 0 100000) (range_with_len 0 replicas))
default_row replicas owner few within =
    let lent : ℕ → ℕ = λ holder. cond (eqb holder owner) 0 100000 in
    let size : length (map lent (range_with_len 0 replicas)) ≡ replicas = length-map-range_with_len lent 0 replicas in
    let each : All (λ (loan : ℕ). loan ≤ 100000) (map lent (range_with_len 0 replicas)) =
    All-map (λ (loan : ℕ). loan ≤ 100000) lent (range_with_len 0 replicas) (λ k d below. lent_little (eqb (get_or (range_with_len 0 replicas) k d) owner)) in
    let most : sum (map lent (range_with_len 0 replicas)) ≤ length (map lent (range_with_len 0 replicas)) * 100000 =
    sum_by-le (λ (loan : ℕ). loan) 100000 (map lent (range_with_len 0 replicas)) each in
    let itself : eqb owner owner ≡ true = eq-eqb owner owner refl in
    record {
      holders = size;
      alpha = omega arith;
      own = get_or-map-range_with_len lent 0 replicas owner owner 0 within (omega arith) ∙ ap (λ (own : Bool). cond own 0 100000) itself;
      total = omega (arith, rw size at most);
    }

-- the row of an owner on a conit, by the bound that is found
row_by : (replicas owner conit : ℕ) (bounds : List Bound)
    → All (IsBoundOf replicas) bounds
    → replicas ≤ 8
    → owner < replicas
    → (bound : Option Bound)
    → bound_of bounds owner conit ≡ bound
    → IsRow replicas owner (alpha_by bound) (loans_by replicas owner bound)
row_by replicas owner conit bounds all few within (Some bound) is =
    let passed = found (IsBoundOf replicas) (binds owner conit) bounds bound all is in
    let same : bound.owner ≡ owner = eqb-true _ _ (and_parts _ _ passed.0).0 in
    record {
      holders = passed.1.holders;
      alpha = passed.1.alpha;
      own = subst (λ (k : ℕ). get_or bound.loans k 0 ≡ 0) same passed.1.own;
      total = passed.1.total;
    }
row_by replicas owner conit bounds all few within None is = default_row replicas owner few within

-- where there is no fault, only want of memory is a refusal
pub memory-from_refusal : (fault : Option ConfigFault) (refusal : ConfigFault)
    → fault ≡ None
    → IsRefusalOf fault refusal
    → refusal ≡ NoMemory
memory-from_refusal fault NoMemory none refused = refl
memory-from_refusal fault BadCount none refused = cc
memory-from_refusal fault (AlphaOver owner conit) none refused = cc
memory-from_refusal fault (OwnLoan owner conit) none refused = cc
memory-from_refusal fault (LoansOver owner conit) none refused = cc

-- the alpha at a place among those by owner and then conit, and the loans there
abbrev alpha_at : ℕ → List Bound → ℕ → ℕ
alpha_at conits bounds place = alpha_by (bound_of bounds (place / conits) (place % conits))

abbrev row_at : ℕ → ℕ → List Bound → ℕ → List ℕ
row_at replicas conits bounds place = loans_by replicas (place / conits) (bound_of bounds (place / conits) (place % conits))

module _ (replicas conits : ℕ) (bounds : List Bound) (many : 2 ≤ replicas) (few : replicas ≤ 8) (some : 1 ≤ conits) (few_conits : conits ≤ 16)
    (all : All (IsBoundOf replicas) bounds) where
  is_row : (place : ℕ)
      → place < replicas * conits
      → IsRow replicas (place / conits) (alpha_at conits bounds place) (row_at replicas conits bounds place)
  is_row place below =
      row_by replicas (place / conits) (place % conits) bounds all few (div_below place conits replicas (omega arith) below)
      (bound_of bounds (place / conits) (place % conits)) refl

  rows_are_long : (place : ℕ) → place < replicas * conits → length (row_at replicas conits bounds place) ≡ replicas
  rows_are_long place below = (is_row place below).holders

  counts_are_good : are_counts_good (setup_of replicas conits bounds) ≡ true
  counts_are_good =
      let replicas_good = and_from _ _ (le-leb 2 replicas many) (le-leb replicas 8 few) in
      let conits_good = and_from _ _ (and_from _ _ replicas_good (le-leb 1 conits some)) (le-leb conits 16 few_conits) in
      let alphas = length-map-range_with_len (alpha_at conits bounds) 0 (replicas * conits) in
      let loans = length-flat_map_rows (row_at replicas conits bounds) replicas (replicas * conits) rows_are_long in
      and_from _ _ (and_from _ _ conits_good (eq-eqb _ _ alphas)) (eq-eqb _ _ loans)

  no_row_fault : (place : ℕ)
      → place < replicas * conits
      → row_of (setup_of replicas conits bounds) (place / conits, place % conits) ≡ None
  no_row_fault place below =
      let loans = loans_of replicas conits bounds in
      let alpha : get_or (alphas_of replicas conits bounds) place 0 ≡ alpha_at conits bounds place =
      get_or-map-range_with_len (alpha_at conits bounds) 0 (replicas * conits) place place 0 below (omega arith) in
      let row : slice_range loans (place * replicas) (place * replicas + replicas) ≡ row_at replicas conits bounds place =
      slice-flat_map_rows (row_at replicas conits bounds) replicas (replicas * conits) place rows_are_long below in
      row_of-at_place (setup_of replicas conits bounds) place
      ∙ ap (λ (alpha : ℕ). row_fault (place / conits) (place % conits) alpha (slice_range loans (place * replicas) (place * replicas + replicas))) alpha
      ∙ ap (λ (row : List ℕ). row_fault (place / conits) (place % conits) (alpha_at conits bounds place) row) row
      ∙ row_fault-at_IsRow replicas (place / conits) (place % conits) _ _ (is_row place below)

-- the setup of bounds that are within their limits has no fault
pub IsSetup-of : (replicas conits : ℕ) (bounds : List Bound)
    → 2 ≤ replicas
    → replicas ≤ 8
    → 1 ≤ conits
    → conits ≤ 16
    → All (IsBoundOf replicas) bounds
    → IsSetup (setup_of replicas conits bounds)
IsSetup-of replicas conits bounds many few some few_conits all =
    IsSetup-from_rows (setup_of replicas conits bounds) (counts_are_good replicas conits bounds many few some few_conits all)
    (no_row_fault replicas conits bounds many few some few_conits all)
