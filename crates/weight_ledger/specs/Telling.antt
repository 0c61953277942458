-- What the steps of a cell tell: of the step, the seat before, the number found and the seat after.
use Rattle.std.specs.Prelude.{◌≡◌, ◌≢◌, ℕ, ◌+◌, ◌-◌, ◌≤◌, List, [], ◌∷◌, ◌++◌, slice_index, Option, Some}
use Rattle.atomic_table.specs.Table.{Me, Step, rest}
use Rattle.weight_ledger.specs.declared.view.View.{View}
use Rattle.weight_ledger.specs.Keeping.{amount, owner, newcomer, in_phase, changed}

module _ {S L : Type 0} where
  -- a new seat has nothing, and the label of the first
  abbrev pub came : Step S → Me S (View L) → ℕ → Me S (View L) → Type 0
  came st me found new = new ≡ (newcomer me.0.label, [])

  -- a seat claims where the word was 0, and else stays as it was
  abbrev pub claimed : Step S → Me S (View L) → ℕ → Me S (View L) → Type 0
  claimed st me found new = (found ≡ 0 → new ≡ (in_phase me.0 1 [], me.1)) × (found ≢ 0 → new ≡ me)

  -- the number found goes behind the book
  abbrev pub read : Step S → Me S (View L) → ℕ → Me S (View L) → Type 0
  read st me found new = new ≡ (in_phase me.0 me.0.phase (me.0.book ++ found ∷ []), me.1)

  -- the holder gives the slot back and stands idle
  abbrev pub gave : Step S → Me S (View L) → ℕ → Me S (View L) → Type 0
  gave st me found new = new ≡ (in_phase me.0 0 [], rest me.1)

  -- the book and the holder's amount change alike
  abbrev pub raised : Step S → Me S (View L) → ℕ → Me S (View L) → Type 0
  raised st me found new = let p = st.word - 1 in new ≡ (changed me.0 p (slice_index me.0.book p + st.first) (amount p me.0 + st.first), me.1)

  abbrev pub lowered : Step S → Me S (View L) → ℕ → Me S (View L) → Type 0
  lowered st me found new = let p = st.word - 1 in new ≡ (changed me.0 p (slice_index me.0.book p - st.first) (amount p me.0 - st.first), me.1)

  -- nothing changes; the number found is at least the seat's amount at the place
  abbrev pub bounded : Step S → Me S (View L) → ℕ → Me S (View L) → Type 0
  bounded st me found new = (new ≡ me) × (amount (st.word - 1) me.0 ≤ found)

  -- nothing changes; the book has at least the holder's amounts, and just these where it owns the place
  abbrev pub agreed : Step S → Me S (View L) → ℕ → Me S (View L) → Type 0
  agreed st me found new = (new ≡ me) × ((p : ℕ) → amount p me.0 ≤ slice_index me.0.book p)
      × ((p : ℕ) → owner p me.0 ≢ 0 → slice_index me.0.book p ≡ amount p me.0)

-- the value is out: it has the label, and its totals are the book
abbrev pub went_out : {T L : Type 0} → (T → L) → (T → List ℕ) → Step (Option T) → Me (Option T) (View L) → ℕ → Me (Option T) (View L) → Type 0
went_out {T} label totals st me found new = (value : T) × (new ≡ (in_phase me.0 3 me.0.book, (0, Some value) ∷ me.1)) × (Some (label value) ≡ me.0.label) × (totals value ≡ me.0.book)
