-- What a setup without a fault is, and its first owner and conit at fault.
use Rattle.std.proofs.Common.{◌≡◌, ℕ, ◌+◌, ◌*◌, ◌/◌, ◌%◌, ◌<◌, ◌≤◌, suc, zero, Bool, true, false, cond, List, [], ◌∷◌}
use Rattle.std.proofs.Common.{◌++◌, length, take, drop, get_or, sum, Option, Some, None, is_some, refl, sym, ap, ◌∙◌}
use Rattle.std.proofs.Common.{arith}
use Rattle.std.specs.List.{slice_get, slice_range, filter_map, flat_map, cons_option}
use Rattle.std.proofs.lemmas.Bool.{and_parts, leb-true, eqb-true, ltb-false, cond-true, cond-false}
use Rattle.std.proofs.lemmas.List.{at_drop_more, at_drop_all, take_all, take_more, flat_map_more, length-take, length-drop}
use Rattle.std.proofs.lemmas.List.FromFn.{get_or-map-range_with_len, length-map-range_with_len}
use Rattle.std.proofs.lemmas.Nat.{div-add-mod', div_below, mul-add-lt, mul-le, row_fits, div-mul-add, mod-mul-add}
use Rattle.tact_base.specs.declared.limits.TheConstants.{ALPHA_MAX}
use Rattle.tact_base.specs.declared.setup.ConfigFault.{ConfigFault}
use Rattle.tact_base.specs.declared.setup.ConfigFault.TheVariants.{BadCount, AlphaOver, OwnLoan, LoansOver}
use Rattle.tact_base.specs.Setup.{Setup, place_of, alpha_of, loans_of, owners_and_conits, are_counts_good, row_fault, first_row_fault, config_fault, IsSetup}

-- the counts of a setup are within their limits, and its lists are as long as they ask for
pub record HasCounts (s : Setup) : Type 0 where
  pub replicas_low : 2 ≤ s.replicas
  pub replicas_high : s.replicas ≤ 8
  pub conits_low : 1 ≤ s.conits
  pub conits_high : s.conits ≤ 16
  pub alphas : length s.alphas ≡ s.replicas * s.conits
  pub loans : length s.loans ≡ s.replicas * s.conits * s.replicas

pub HasCounts-from_good : (s : Setup) → are_counts_good s ≡ true → HasCounts s
HasCounts-from_good s h =
    let f = and_parts _ _ h in
    let e = and_parts _ _ f.0 in
    let d = and_parts _ _ e.0 in
    let c = and_parts _ _ d.0 in
    let b = and_parts _ _ c.0 in
    record {
      replicas_low = leb-true _ _ b.0;
      replicas_high = leb-true _ _ b.1;
      conits_low = leb-true _ _ c.1;
      conits_high = leb-true _ _ d.1;
      alphas = eqb-true _ _ e.1;
      loans = eqb-true _ _ f.1;
    }

-- a choice that gives none, where one side gives some
none_from_cond : {A : Type 0} (b : Bool) (x : Option A) (y : A)
    → cond b x (Some y) ≡ None
    → (b ≡ true) × (x ≡ None)
none_from_cond true x y h = (refl, h)
none_from_cond false x y h = cc

-- a setup without a fault has good counts and no row at fault
pub IsSetup-parts : (s : Setup)
    → IsSetup s
    → (are_counts_good s ≡ true) × (first_row_fault s ≡ None)
unfolding config_fault
IsSetup-parts s h = none_from_cond (are_counts_good s) (first_row_fault s) BadCount h

pub HasCounts-from_IsSetup : (s : Setup) → IsSetup s → HasCounts s
HasCounts-from_IsSetup s h = HasCounts-from_good s (IsSetup-parts s h).0

pub config_fault-at_counts : (s : Setup)
    → are_counts_good s ≡ false
    → config_fault s.replicas s.conits s.alphas s.loans ≡ Some BadCount
unfolding config_fault
config_fault-at_counts s h = cond-false (are_counts_good s) (first_row_fault s) (Some BadCount) h

pub config_fault-at_rows : (s : Setup)
    → are_counts_good s ≡ true
    → config_fault s.replicas s.conits s.alphas s.loans ≡ first_row_fault s
unfolding config_fault
config_fault-at_rows s h = cond-true (are_counts_good s) (first_row_fault s) (Some BadCount) h

-- where an owner's numbers on a conit stand is within the lists
pub place_in : (s : Setup) (owner conit : ℕ)
    → owner < s.replicas
    → conit < s.conits
    → place_of s owner conit < s.replicas * s.conits
place_in s owner conit o c = omega (arith, mul-add-lt owner s.conits conit s.replicas o c)

pub row_in : (s : Setup)
    → HasCounts s
    → (place : ℕ)
    → place < s.replicas * s.conits
    → place * s.replicas + s.replicas ≤ length s.loans
row_in s h place p = rw h.loans (row_fits place s.replicas (s.replicas * s.conits) s.replicas p (omega arith))

pub places_are_few : (s : Setup) → HasCounts s → s.replicas * s.conits ≤ 128
places_are_few s h = omega (arith, mul-le s.replicas s.conits 8 16 h.replicas_high h.conits_high)

pub length-loans_of : (s : Setup)
    → HasCounts s
    → (owner conit : ℕ)
    → owner < s.replicas
    → conit < s.conits
    → length (loans_of s owner conit) ≡ s.replicas
length-loans_of s h owner conit o c =
    let fits = row_in s h (place_of s owner conit) (place_in s owner conit o c) in
    simp (length-take, length-drop) (omega arith)

-- an owner and a conit, as a row's fault takes them
abbrev pub row_of : Setup → ℕ × ℕ → Option ConfigFault
row_of s pair = row_fault pair.0 pair.1 (alpha_of s pair.0 pair.1) (loans_of s pair.0 pair.1)

-- the first fault of a list of owners and conits
abbrev pub first_of : Setup → List (ℕ × ℕ) → Option ConfigFault
first_of s pairs = slice_get (filter_map (row_of s) pairs) 0

first_of-cons_some : (s : Setup) (pair : ℕ × ℕ) (pairs : List (ℕ × ℕ)) (fault : ConfigFault)
    → row_of s pair ≡ Some fault
    → first_of s (pair ∷ pairs) ≡ Some fault
first_of-cons_some s pair pairs fault h = rw h refl

first_of-cons_none : (s : Setup) (pair : ℕ × ℕ) (pairs : List (ℕ × ℕ))
    → row_of s pair ≡ None
    → first_of s (pair ∷ pairs) ≡ first_of s pairs
first_of-cons_none s pair pairs h = rw h refl

length-owners_and_conits : (s : Setup) → length (owners_and_conits s) ≡ s.replicas * s.conits
length-owners_and_conits s = length-map-range_with_len _ 0 (s.replicas * s.conits)

get_or-owners_and_conits : (s : Setup) (place : ℕ)
    → place < s.replicas * s.conits
    → get_or (owners_and_conits s) place (0, 0) ≡ (place / s.conits, place % s.conits)
get_or-owners_and_conits s place p = get_or-map-range_with_len _ 0 (s.replicas * s.conits) place place (0, 0) p (omega arith)

-- one row on, from a place that has no fault, and at one that has
pub first_of-drop_none : (s : Setup) (place : ℕ)
    → place < s.replicas * s.conits
    → row_of s (place / s.conits, place % s.conits) ≡ None
    → first_of s (drop (place + 1) (owners_and_conits s)) ≡ first_of s (drop place (owners_and_conits s))
first_of-drop_none s place p h =
    let within : place < length (owners_and_conits s) = rw (length-owners_and_conits s) p in
    let next = at_drop_more (first_of s) (owners_and_conits s) place (0, 0) within in
    let at : row_of s (get_or (owners_and_conits s) place (0, 0)) ≡ None = rw (get_or-owners_and_conits s place p) h in
    sym (next ∙ first_of-cons_none s _ _ at)

pub first_of-drop_at : (s : Setup) (place : ℕ) (fault : Option ConfigFault)
    → place < s.replicas * s.conits
    → row_of s (place / s.conits, place % s.conits) ≡ fault
    → is_some fault ≡ true
    → first_of s (drop place (owners_and_conits s)) ≡ fault
first_of-drop_at s place None p h some = cc
first_of-drop_at s place (Some fault) p h some =
    let within : place < length (owners_and_conits s) = rw (length-owners_and_conits s) p in
    let next = at_drop_more (first_of s) (owners_and_conits s) place (0, 0) within in
    let at : row_of s (get_or (owners_and_conits s) place (0, 0)) ≡ Some fault = rw (get_or-owners_and_conits s place p) h in
    next ∙ first_of-cons_some s _ _ fault at

pub first_of-drop_all : (s : Setup) (place : ℕ)
    → s.replicas * s.conits ≤ place
    → first_of s (drop place (owners_and_conits s)) ≡ None
first_of-drop_all s place p = at_drop_all (first_of s) (owners_and_conits s) place (rw (length-owners_and_conits s) p)

pub row_of-at_place : (s : Setup) (place : ℕ)
    → row_of s (place / s.conits, place % s.conits)
    ≡ row_fault (place / s.conits) (place % s.conits) (get_or s.alphas place 0) (slice_range s.loans (place * s.replicas) (place * s.replicas + s.replicas))
row_of-at_place s place =
    ap (λ at. row_fault (place / s.conits) (place % s.conits) (get_or s.alphas at 0) (slice_range s.loans (at * s.replicas) (at * s.replicas + s.replicas))) (div-add-mod' place s.conits)

pub owner_in_row : (s : Setup)
    → HasCounts s
    → (place : ℕ)
    → place < s.replicas * s.conits
    → place / s.conits < length (slice_range s.loans (place * s.replicas) (place * s.replicas + s.replicas))
owner_in_row s h place p =
    let owner : place / s.conits < s.replicas = div_below place s.conits s.replicas (omega (arith, h.conits_low)) p in
    let fits = row_in s h place p in
    simp (length-take, length-drop) (omega arith)

pub none_from_is_some : {A : Type 0} (o : Option A) → is_some o ≡ false → o ≡ None
none_from_is_some None h = refl
none_from_is_some (Some x) h = cc

-- where the first is none, each is
none_at : {X Y : Type 0} (f : X → Option Y) (xs : List X) (k : ℕ) (d : X)
    → slice_get (filter_map f xs) 0 ≡ None
    → k < length xs
    → f (get_or xs k d) ≡ None
none_at f [] k d h p = absurd (omega arith)
none_at f (x ∷ xs) k d h p = none_at_cons f x xs k d (none_at f xs) (f x) refl h p
  where
    none_at_cons : {X Y : Type 0} (f : X → Option Y) (x : X) (xs : List X) (k : ℕ) (d : X)
        → ((k : ℕ) (d : X) → slice_get (filter_map f xs) 0 ≡ None → k < length xs → f (get_or xs k d) ≡ None)
        → (o : Option Y)
        → f x ≡ o
        → slice_get (cons_option o (filter_map f xs)) 0 ≡ None
        → k < suc (length xs)
        → f (get_or (x ∷ xs) k d) ≡ None
    none_at_cons f x xs k d rest (Some y) e h p = cc
    none_at_cons f x xs zero d rest None e h p = e
    none_at_cons f x xs (suc k) d rest None e h p = rest k d h (omega arith)

-- an owner's alpha on a conit is within its limit, it lends nothing to itself there, and its loans don't pass the alpha
pub record HasRow (s : Setup) (owner conit : ℕ) : Type 0 where
  pub alpha : alpha_of s owner conit ≤ ALPHA_MAX
  pub own : get_or (loans_of s owner conit) owner 0 ≡ 0
  pub total : sum (loans_of s owner conit) ≤ alpha_of s owner conit

-- of a choice among three that gives none, no test holds
none_from_tests : {A : Type 0} (a b c : Bool) (x y z : A)
    → cond a (Some x) (cond b (Some y) (cond c (Some z) None)) ≡ None
    → (a ≡ false) × (b ≡ false) × (c ≡ false)
none_from_tests false false false x y z h = (refl, refl, refl)
none_from_tests true b c x y z h = cc
none_from_tests false true c x y z h = cc
none_from_tests false false true x y z h = cc

HasRow-from_fault : (s : Setup) (owner conit : ℕ)
    → row_fault owner conit (alpha_of s owner conit) (loans_of s owner conit) ≡ None
    → HasRow s owner conit
HasRow-from_fault s owner conit h =
    let tests = none_from_tests _ _ _ (AlphaOver owner conit) (OwnLoan owner conit) (LoansOver owner conit) h in
    record {
      alpha = ltb-false _ _ tests.0;
      own = omega (arith, ltb-false _ _ tests.1);
      total = ltb-false _ _ tests.2;
    }

pub HasRow-from_IsSetup : (s : Setup)
    → IsSetup s
    → (owner conit : ℕ)
    → owner < s.replicas
    → conit < s.conits
    → HasRow s owner conit
HasRow-from_IsSetup s h owner conit o c =
    let place = place_of s owner conit in
    let p = place_in s owner conit o c in
    let none = none_at (row_of s) (owners_and_conits s) place (0, 0) (IsSetup-parts s h).1 (rw (length-owners_and_conits s) p) in
    let at : row_of s (place / s.conits, place % s.conits) ≡ None = rw (get_or-owners_and_conits s place p) at none in
    let parts : row_of s (owner, conit) ≡ None = rw (div-mul-add owner s.conits conit c, mod-mul-add owner s.conits conit c) at at in
    HasRow-from_fault s owner conit parts

-- Of a text that has a part for each owner and conit, by counts that were read: one of these on, and all.
module _ (s : Setup) (f : ℕ × ℕ → List ℕ) (replicas conits : ℕ) (replicas_are : replicas ≡ s.replicas) (conits_are : conits ≡ s.conits)
    (front text : List ℕ) (place : ℕ) (so_far : text ≡ front ++ flat_map f (take place (owners_and_conits s))) where
  pub flat_map_next_row : (more : List ℕ)
      → place < replicas * conits
      → more ≡ text ++ f (place / conits, place % conits)
      → more ≡ front ++ flat_map f (take (place + 1) (owners_and_conits s))
  flat_map_next_row more below is =
      let within : place < s.replicas * s.conits = rw (replicas_are, conits_are) at below in
      let next = take_more (owners_and_conits s) place (0, 0) (rw (length-owners_and_conits s) within) in
      let row = get_or-owners_and_conits s place within in
      is
      ∙ ap (λ m. text ++ f (place / m, place % m)) conits_are
      ∙ rw (next, row, so_far) (flat_map_more f front (take place (owners_and_conits s)) (place / s.conits, place % s.conits))

  pub flat_map_all_rows : replicas * conits ≤ place → text ≡ front ++ flat_map f (owners_and_conits s)
  flat_map_all_rows above =
      let past : s.replicas * s.conits ≤ place = rw (replicas_are, conits_are) at above in
      so_far ∙ ap (λ rows. front ++ flat_map f rows) (take_all place (owners_and_conits s) (rw (length-owners_and_conits s) past))
