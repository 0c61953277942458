-- Lists that are read stand where they were read, and lists that stand there are read: so many items, so many numbers,
-- and lists by conit.
use Rattle.std.proofs.Common.{◌≡◌, ℕ, zero, suc, ◌^◌, ◌<◌, ◌≤◌, Bool, List, [], ◌∷◌, ◌++◌, length, All, Some, Ok, refl, sym, ap, subst, arith}
use Rattle.std.specs.List.{flat_map}
use Rattle.std.proofs.lemmas.List.Concat.{flat_map-cons}
use Rattle.std.proofs.lemmas.List.Elements.{All-cons, All-nil, All-head, All-tail}
use Rattle.tact_base.specs.declared.limits.TheConstants.{LIST_MAX}
use Rattle.tact_base.specs.declared.conit_list.ListFault.{ListFault}
use Rattle.tact_base.specs.ConitList.{IsConitList, list_fault}
use Rattle.tact_base.proofs.ConitListLemmas.{IsConitList-few}
use Rattle.run_model.specs.Bytes.{◌>>=◌, Field, byte_at, number_at, numbers_at, list_at, number_bytes}
use Rattle.run_model.proofs.ByteLemmas.{AreBytes}
use Rattle.run_model.proofs.Readers.{Reader, Then, Made, IsByte, IsNumber, byte_field, number_field, given, and_then, making, said}
use Rattle.run_model.proofs.Rising.{IsItem, AreRising, rising_is_list, rising_not_refused, kept_rises}

-- ---- so many items

-- items one after the other, each spelled with the least number that it begins with
abbrev pub Listed : {A : Type 0} → (ℕ → A → List ℕ → Type 0) → (A → ℕ) → ℕ → List A → List ℕ → Type 0
Listed Spells after least [] text = text ≡ []
Listed Spells after least (x ∷ xs) text =
    (a : List ℕ) × (b : List ℕ) × Spells least x a × Listed Spells after (after x) xs b × (text ≡ a ++ b)

-- so many of them
abbrev pub Counted : {A : Type 0} → (ℕ → A → List ℕ → Type 0) → (A → ℕ) → ℕ → ℕ → List A → List ℕ → Type 0
Counted Spells after count least xs text = (length xs ≡ count) × Listed Spells after least xs text

module _ {A : Type 0} (item : ℕ → List ℕ → ℕ → Field A) (after : A → ℕ) (Spells : ℕ → A → List ℕ → Type 0) (reader : (least : ℕ) → Reader (Spells least) (item least)) where
  none_more : (least : ℕ) → Reader (Counted Spells after 0 least) (list_at item after 0 least)
  unfolding list_at
  none_more least = said (given []) to from
    where
      to : (xs : List A) (text : List ℕ) → (xs ≡ []) × (text ≡ []) → Counted Spells after 0 least xs text
      to xs text s = subst (λ (ys : List A). Counted Spells after 0 least ys text) (sym s.0) (refl, s.1)

      from : (xs : List A) (text : List ℕ) → Counted Spells after 0 least xs text → (xs ≡ []) × (text ≡ [])
      from [] text s = (refl, s.1)
      from (x ∷ xs) text s = absurd (omega (arith, s.0))

  pub list_reader : (count least : ℕ) → Reader (Counted Spells after count least) (list_at item after count least)
  unfolding list_at
  list_reader zero least = none_more least
  list_reader (suc count) least =
      let more : Reader (Then (Spells least) (λ x. Made (Counted Spells after count (after x)) (λ xs. x ∷ xs)))
      (λ bytes place. item least bytes place >>= λ first. list_at item after count (after first.0) bytes first.1 >>= λ others. Ok (first.0 ∷ others.0, others.1)) =
      and_then (reader least) (λ x. making (list_reader count (after x)) (λ xs. x ∷ xs)) in
      said more to from
    where
      to : (ys : List A) (text : List ℕ)
          → Then (Spells least) (λ x. Made (Counted Spells after count (after x)) (λ xs. x ∷ xs)) ys text
          → Counted Spells after (suc count) least ys text
      to ys text s =
          let whole : Counted Spells after (suc count) least (s.0 ∷ s.4.0) text = (ap suc s.4.1.0, (s.1, s.2, s.3, s.4.1.1, s.5)) in
          subst (λ (zs : List A). Counted Spells after (suc count) least zs text) (sym s.4.2) whole

      from : (ys : List A) (text : List ℕ)
          → Counted Spells after (suc count) least ys text
          → Then (Spells least) (λ x. Made (Counted Spells after count (after x)) (λ xs. x ∷ xs)) ys text
      from [] text s = absurd (omega (arith, s.0))
      from (x ∷ xs) text s = (x, s.1.0, s.1.1, s.1.2, (xs, (omega (arith, s.0), s.1.3), refl), s.1.4)

-- ---- numbers

module _ (most : ℕ) where
  -- so many numbers, none above the most, and how they are spelled
  abbrev pub AreNumbers : ℕ → List ℕ → List ℕ → Type 0
  AreNumbers count numbers text = (length numbers ≡ count) × All (λ number. number ≤ most) numbers × (text ≡ flat_map number_bytes numbers)

  listed_numbers : (numbers text : List ℕ)
      → Listed (λ least. IsNumber 0 (suc most)) (λ number. 0) 0 numbers text
      → All (λ number. number ≤ most) numbers × (text ≡ flat_map number_bytes numbers)
  listed_numbers [] text s = (All-nil (λ number. number ≤ most), s)
  listed_numbers (x ∷ xs) text s =
      let rest = listed_numbers xs s.1 s.3 in
      (All-cons (λ number. number ≤ most) x xs (omega (arith, s.2.1)) rest.0, rw (flat_map-cons, s.4, s.2.2, rest.1) refl)

  numbers_listed : (numbers : List ℕ)
      → All (λ number. number ≤ most) numbers
      → Listed (λ least. IsNumber 0 (suc most)) (λ number. 0) 0 numbers (flat_map number_bytes numbers)
  numbers_listed [] all = refl
  numbers_listed (x ∷ xs) all = (
    number_bytes x,
    flat_map number_bytes xs,
    (omega arith, omega (arith, All-head (λ number. number ≤ most) x xs all), refl),
    numbers_listed xs
        (All-tail (λ number. number ≤ most) x xs all),
    rw flat_map-cons refl,
  )

  pub numbers_reader : (count : ℕ) → most < 2 ^ 64 → Reader (AreNumbers count) (numbers_at (suc most) count)
  numbers_reader count wide =
      said (list_reader (λ least. number_at 0 (suc most)) (λ number. 0) (λ least. IsNumber 0 (suc most)) (λ least. number_field 0 (suc most) (omega (arith, wide))) count 0) to from
    where
      to : (numbers text : List ℕ) → Counted (λ least. IsNumber 0 (suc most)) (λ number. 0) count 0 numbers text → AreNumbers count numbers text
      to numbers text s = let t = listed_numbers numbers text s.1 in (s.0, t.0, t.1)

      from : (numbers text : List ℕ) → AreNumbers count numbers text → Counted (λ least. IsNumber 0 (suc most)) (λ number. 0) count 0 numbers text
      from numbers text s = (s.0, rw s.2 (numbers_listed numbers s.1))

-- ---- lists by conit

module _ {T : Type 0} (conit : T → ℕ) (in_limits : T → Bool) (spell : T → List ℕ) (conits : ℕ) where
  -- how an item is spelled, in its limits, its conit at least `least`
  abbrev pub IsSpelledItem : ℕ → T → List ℕ → Type 0
  IsSpelledItem least x text = IsItem conit in_limits conits least x × (text ≡ spell x)

  listed_rise : (xs : List T) (least : ℕ) (text : List ℕ)
      → Listed IsSpelledItem (λ x. suc (conit x)) least xs text
      → AreRising conit in_limits conits least xs × (text ≡ flat_map spell xs)
  listed_rise [] least text s = (tt, s)
  listed_rise (x ∷ xs) least text s =
      let rest = listed_rise xs (suc (conit x)) s.1 s.3 in
      ((s.2.0, rest.0), rw (flat_map-cons, s.4, s.2.1, rest.1) refl)

  rise_listed : (xs : List T) (least : ℕ)
      → AreRising conit in_limits conits least xs
      → Listed IsSpelledItem (λ x. suc (conit x)) least xs (flat_map spell xs)
  rise_listed [] least rising = refl
  rise_listed (x ∷ xs) least rising =
      (spell x, flat_map spell xs, (rising.0, refl), rise_listed xs (suc (conit x)) rising.1, rw flat_map-cons refl)

  module _ (nothing : T) (item : ℕ → List ℕ → ℕ → Field T) (reader : (least : ℕ) → Reader (IsSpelledItem least) (item least)) where
    -- a list by conit: how many, and each
    pub conit_list_reader : Reader (λ xs text. (IsConitList conit in_limits xs × All (λ x. conit x < conits) xs) × (text ≡ length xs ∷ flat_map spell xs))
        (λ bytes place. byte_at 0 (suc LIST_MAX) bytes place >>= λ count. list_at item (λ x. suc (conit x)) count.0 0 bytes count.1)
    conit_list_reader =
        said (and_then (byte_field 0 (suc LIST_MAX)) (λ count. list_reader item (λ x. suc (conit x)) IsSpelledItem reader count 0)) to from
      where
        to : (xs : List T) (text : List ℕ)
            → Then (IsByte 0 (suc LIST_MAX)) (λ count. Counted IsSpelledItem (λ x. suc (conit x)) count 0) xs text
            → (IsConitList conit in_limits xs × All (λ x. conit x < conits) xs) × (text ≡ length xs ∷ flat_map spell xs)
        to xs text s =
            let rise = listed_rise xs 0 s.2 s.4.1 in
            let good = rising_is_list conit in_limits conits nothing xs 0 rise.0 (omega (arith, s.3.1, s.4.0)) in
            (good, rw (s.5, s.3.2, rise.1, s.4.0) refl)

        from : (xs : List T) (text : List ℕ)
            → (IsConitList conit in_limits xs × All (λ x. conit x < conits) xs) × (text ≡ length xs ∷ flat_map spell xs)
            → Then (IsByte 0 (suc LIST_MAX)) (λ count. Counted IsSpelledItem (λ x. suc (conit x)) count 0) xs text
        from xs text s =
            let few : length xs ≤ 4 = IsConitList-few conit in_limits xs s.0.0 in
            (length xs, length xs ∷ [], flat_map spell xs, (omega arith, omega (arith, few), refl), (refl, rise_listed xs 0 (kept_rises conit in_limits conits xs s.0.0 s.0.1)), s.1)

    -- so a list that was read isn't refused
    pub never_refused : (fault : ListFault) (count : ℕ) (bytes : List ℕ) (place : ℕ) (xs : List T) (next : ℕ)
        → AreBytes bytes
        → count ≤ LIST_MAX
        → list_at item (λ x. suc (conit x)) count 0 bytes place ≡ Ok (xs, next)
        → list_fault conit in_limits xs ≡ Some fault
        → ⊥
    never_refused fault count bytes place xs next fits few read refused =
        let t = (list_reader item (λ x. suc (conit x)) IsSpelledItem reader count 0).taken bytes place xs next fits read in
        let rise = listed_rise xs 0 t.0 t.1.1 in
        rising_not_refused conit in_limits conits nothing fault xs 0 rise.0 (omega (arith, t.1.0)) refused
