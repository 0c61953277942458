-- Items whose conits rise are a list by conit, and a list by conit rises.
use Rattle.std.proofs.Common.{◌≡◌, ℕ, zero, suc, ◌-◌, ◌<◌, ◌≤◌, Bool, true, false, not, ltb, nat_le, List, [], ◌∷◌, length, get_or, drop, Option, Some, None, refl, ap, add_comm, add-one, arith}
use Rattle.std.specs.Prelude.{All, position}
use Rattle.std.specs.List.{zip, position_or_len}
use Rattle.std.proofs.lemmas.Bool.{le-ltb}
use Rattle.std.proofs.lemmas.Bool.Decides.{nat_tests}
use Rattle.std.proofs.lemmas.List.{length-drop}
use Rattle.std.proofs.lemmas.List.Sums.{position_or_len_is}
use Rattle.std.proofs.lemmas.Slice.Zip.{length-zip, get_or-zip}
use Rattle.std.proofs.lemmas.Grind.{get_or_after_one}
use Rattle.tact_base.specs.declared.limits.TheConstants.{LIST_MAX}
use Rattle.tact_base.specs.declared.conit_list.ListFault.{ListFault}
use Rattle.tact_base.specs.ConitList.{IsConitList, list_fault}
use Rattle.tact_base.proofs.ConitListLemmas.{IsConitList-limits, IsConitList-rising}

-- no element passes a test
none_passes : {A : Type 0} (p : A → Bool) (xs : List A) (d : A)
    → ((k : ℕ) → k < length xs → p (get_or xs k d) ≡ false)
    → position p xs ≡ None
none_passes p xs d fails =
    let past : position_or_len p xs ≡ length xs = position_or_len_is p xs (length xs) d (omega arith) fails (λ below. absurd (omega arith)) in
    grind (arith, nat_tests)

-- a conit that is less isn't reached
not_reached : (a b : ℕ) → a < b → nat_le b a ≡ false
not_reached a b lt = grind (arith, nat_tests)

module _ {T : Type 0} (conit : T → ℕ) (in_limits : T → Bool) (conits : ℕ) where
  -- an item in its limits, its conit at least `least` and below `conits`
  pub record IsItem (least : ℕ) (x : T) : Type 0 where
    pub reached : least ≤ conit x
    pub below : conit x < conits
    pub limits : in_limits x ≡ true

  -- items whose conits rise from `least` on
  abbrev pub AreRising : ℕ → List T → Type 0
  AreRising least [] = Unit {0}
  AreRising least (x ∷ xs) = IsItem least x × AreRising (suc (conit x)) xs

  rising_step : (xs : List T) (least k : ℕ) (d : T)
      → AreRising least xs
      → suc k < length xs
      → conit (get_or xs k d) < conit (get_or xs (suc k) d)
  rising_step (v ∷ w ∷ xs) least zero d rising within = rising.1.0.reached
  rising_step (v ∷ w ∷ xs) least (suc k) d rising within = rising_step (w ∷ xs) (suc (conit v)) k d rising.1 (omega arith)
  rising_step (v ∷ []) least k d rising within = absurd (omega arith)
  rising_step [] least k d rising within = absurd (omega arith)

  rising_each : (xs : List T) (least k : ℕ) (d : T)
      → AreRising least xs
      → k < length xs
      → (conit (get_or xs k d) < conits) × (in_limits (get_or xs k d) ≡ true)
  rising_each (x ∷ xs) least zero d rising within = (rising.0.below, rising.0.limits)
  rising_each (x ∷ xs) least (suc k) d rising within = rising_each xs (suc (conit x)) k d rising.1 (omega arith)
  rising_each [] least k d rising within = absurd (omega arith)

  -- items that rise are a list as its type has it
  pub rising_is_list : (nothing : T) (xs : List T) (least : ℕ)
      → AreRising least xs
      → length xs ≤ LIST_MAX
      → IsConitList conit in_limits xs × All (λ x. conit x < conits) xs
  rising_is_list nothing xs least rising few =
      let ordered : position (λ (pair : T × T). nat_le (conit pair.1) (conit pair.0)) (zip xs (drop 1 xs)) ≡ None =
      none_passes (λ (pair : T × T). nat_le (conit pair.1) (conit pair.0)) (zip xs (drop 1 xs)) (nothing, nothing) (λ k within.
      let long : length (drop 1 xs) ≡ length xs - 1 = length-drop 1 xs in
      let short : k < length xs - 1 = omega (arith, long, within, length-zip xs (drop 1 xs)) in
      let pair = get_or-zip xs (drop 1 xs) k (nothing, nothing) (omega arith) (omega (arith, long)) in
      let step = rising_step xs least k nothing rising (omega arith) in
      let next = get_or_after_one xs k nothing in
      rw (pair, next, add_comm 1 k, add-one) (not_reached _ _ step)) in
      let inside : position (λ x. not (in_limits x)) xs ≡ None =
      none_passes (λ x. not (in_limits x)) xs nothing (λ k within. ap not (rising_each xs least k nothing rising within).1) in
      let long : ltb LIST_MAX (length xs) ≡ false = le-ltb _ _ few in
      (rw (long, ordered, inside) refl, λ k d within. (rising_each xs least k d rising within).0)

  -- so their list isn't refused
  pub rising_not_refused : (nothing : T) (fault : ListFault) (xs : List T) (least : ℕ)
      → AreRising least xs
      → length xs ≤ LIST_MAX
      → list_fault conit in_limits xs ≡ Some fault
      → ⊥
  rising_not_refused nothing fault xs least rising few refused =
      some_is_not (list_fault conit in_limits xs) (rising_is_list nothing xs least rising few).0 refused
    where
      some_is_not : (o : Option ListFault) → o ≡ None → o ≡ Some fault → ⊥
      some_is_not o none some = cc

  rise_from : (xs : List T) (least : ℕ)
      → ((k : ℕ) (d : T) → k < length xs → conit (get_or xs k d) < conits)
      → ((k : ℕ) (d : T) → k < length xs → in_limits (get_or xs k d) ≡ true)
      → ((k : ℕ) (d : T) → suc k < length xs → conit (get_or xs k d) < conit (get_or xs (suc k) d))
      → ((d : T) → 0 < length xs → least ≤ conit (get_or xs 0 d))
      → AreRising least xs
  rise_from [] least below limits rising first = tt
  rise_from (x ∷ xs) least below limits rising first = (
    record { reached = first x (omega arith); below = below 0 x (omega arith); limits = limits 0 x (omega arith) },
    rise_from xs (suc (conit x)) (λ k d within. below (suc k) d (omega arith)) (λ k d within. limits (suc k) d (omega arith))
        (λ k d within. rising (suc k) d (omega arith)) (λ d some. rising 0 d (omega arith)),
  )

  -- a list as its type has it rises
  pub kept_rises : (xs : List T)
      → IsConitList conit in_limits xs
      → All (λ x. conit x < conits) xs
      → AreRising 0 xs
  kept_rises xs kept below =
      rise_from xs 0 (λ k d within. below k d within)
      (λ k d within. IsConitList-limits conit in_limits xs kept k d within)
      (λ k d within. rw add-one at (IsConitList-rising conit in_limits xs kept k d (omega arith)))
      (λ d some. omega arith)
