-- Entries placed at their ticks are the history that their pairs merge to.
use Rattle.std.proofs.Common.{◌≡◌, ℕ, ◌<◌, List, [], ◌∷◌, ◌++◌, All, Contains, flat_map, length, get_or, set, slice_get, Some, refl, sym, ap, ◌∙◌, ⊎_elim, arith}
use Rattle.std.proofs.lemmas.Bool.{cases_eq}
use Rattle.std.proofs.lemmas.List.{length-set, get_or-set_same, get_or-set_other, same_lists}
use Rattle.std.proofs.lemmas.List.Elements.{All-head, Contains-get_or}
use Rattle.std.proofs.lemmas.List.Sums.{fold-append}
use Rattle.std.proofs.lemmas.Option.{slice_get_within, slice_get-get_or, get_or_from_slice_get}
use Rattle.tact_base.proofs.ElementLemmas.{Contains-first, Contains-later, Contains-cases, Contains-none}
use Rattle.tact_base.proofs.ListLemmas.{All-append_right, All-from_flat_map}
use Rattle.tact_base.specs.Roomy.{Roomy}
use Rattle.run_model.specs.declared.entry.Entry.{Entry}
use Rattle.run_history.specs.Ticks.{IsMerge}
use Rattle.run_work.specs.Placing.{all_placed}

-- a list keeps its length
pub length-all_placed : (made : List Entry) (pairs : List (ℕ × Entry))
    → length (all_placed made pairs) ≡ length made
length-all_placed made [] = refl
length-all_placed made ((tick, entry) ∷ pairs) =
    length-all_placed (set made tick entry) pairs ∙ length-set made tick entry

-- the placings of joined pairs are those of the first and then of the others
pub all_placed-append : (made : List Entry) (pairs more : List (ℕ × Entry))
    → all_placed made (pairs ++ more) ≡ all_placed (all_placed made pairs) more
all_placed-append = fold-append (λ (placed : List Entry) (pair : ℕ × Entry). set placed pair.0 pair.1)

-- each pair's entry stands in the history at its tick
abbrev AreOf : List Entry → List (ℕ × Entry) → Type 0
AreOf history pairs = (tick : ℕ) (entry : Entry) → Contains pairs (tick, entry) → slice_get history tick ≡ Some entry

module _ (history : List Entry) where
  rest_of : (first : ℕ × Entry) (pairs : List (ℕ × Entry)) → AreOf history (first ∷ pairs) → AreOf history pairs
  rest_of first pairs of tick entry within = of tick entry (Contains-later first (tick, entry) pairs within)

  -- the first pair's entry is the history's at its tick
  placed-first : (made : List Entry) (tick : ℕ) (entry : Entry) (pairs : List (ℕ × Entry)) (d : Entry)
      → AreOf history ((tick, entry) ∷ pairs)
      → length made ≡ length history
      → get_or (set made tick entry) tick d ≡ get_or history tick d
  placed-first made tick entry pairs d of size =
      let stands : slice_get history tick ≡ Some entry = of tick entry (Contains-first (tick, entry) (tick, entry) pairs refl) in
      let within : tick < length made = omega (arith, slice_get_within history tick entry stands) in
      get_or-set_same made tick entry d within ∙ sym (get_or_from_slice_get history tick entry d stands)

  -- where a list has the history's entry, it has it after all placings
  placed-keeps : (made : List Entry) (pairs : List (ℕ × Entry)) (at : ℕ) (d : Entry)
      → AreOf history pairs
      → length made ≡ length history
      → get_or made at d ≡ get_or history at d
      → get_or (all_placed made pairs) at d ≡ get_or history at d
  placed-keeps made [] at d of size same = same
  placed-keeps made ((tick, entry) ∷ pairs) at d of size same =
      placed-keeps (set made tick entry) pairs at d (rest_of (tick, entry) pairs of) (length-set made tick entry ∙ size)
      (⊎_elim (λ (here : at ≡ tick). rw here (placed-first made tick entry pairs d of size))
      (λ (other : at ≡ tick → ⊥). get_or-set_other made tick at entry d other ∙ same)
      (cases_eq at tick))

  -- at the tick of a pair a list has the history's entry after all placings
  placed-at : (made : List Entry) (pairs : List (ℕ × Entry)) (at : ℕ) (there d : Entry)
      → AreOf history pairs
      → length made ≡ length history
      → Contains pairs (at, there)
      → get_or (all_placed made pairs) at d ≡ get_or history at d
  placed-at made [] at there d of size within = absurd (Contains-none (at, there) within)
  placed-at made ((tick, entry) ∷ pairs) at there d of size within =
      let kept : length (set made tick entry) ≡ length history = length-set made tick entry ∙ size in
      let later = rest_of (tick, entry) pairs of in
      ⊎_elim
      (λ (first : (tick, entry) ≡ (at, there)).
      let same : tick ≡ at = ap (λ (pair : ℕ × Entry). pair.0) first in
      placed-keeps (set made tick entry) pairs at d later kept (rw (← same) (placed-first made tick entry pairs d of size)))
      (λ (behind : Contains pairs (at, there)). placed-at (set made tick entry) pairs at there d later kept behind)
      (Contains-cases (tick, entry) (at, there) pairs within)

-- with the entries of all pairs placed, a list as long as the history is the history
pub all_placed-IsMerge : (made history : List Entry) (pairs : List (ℕ × Entry))
    → IsMerge pairs history
    → length made ≡ length history
    → all_placed made pairs ≡ history
all_placed-IsMerge made history pairs merge size =
    same_lists (all_placed made pairs) history (length-all_placed made pairs ∙ size)
    (λ at d within.
    let inside : at < length history = omega (arith, length-all_placed made pairs) in
    placed-at history made pairs at (get_or history at d) d (λ tick entry. (merge tick entry).0) size
    ((merge at (get_or history at d)).1 (slice_get-get_or history at d inside)))

-- each pair's tick is below the length of the history
ticks_within : (history : List Entry) (pairs : List (ℕ × Entry))
    → IsMerge pairs history
    → All (λ (pair : ℕ × Entry). pair.0 < length history) pairs
ticks_within history pairs merge at d within =
    let pair = get_or pairs at d in
    slice_get_within history pair.0 pair.1 ((merge pair.0 pair.1).0 (Contains-get_or pairs at d within))

-- and so in each of the lists that the pairs lie in
pub ticks_in_part : (history : List Entry) (before after : List (Roomy (ℕ × Entry))) (part : Roomy (ℕ × Entry))
    → IsMerge (flat_map (λ (part : Roomy (ℕ × Entry)). part.items) (before ++ part ∷ after)) history
    → All (λ (pair : ℕ × Entry). pair.0 < length history) part.items
ticks_in_part history before after part merge =
    let items = λ (part : Roomy (ℕ × Entry)). part.items in
    let IsWithin : ℕ × Entry → Type 0 = λ pair. pair.0 < length history in
    let AreWithin : Roomy (ℕ × Entry) → Type 0 = λ part. All IsWithin part.items in
    All-head AreWithin part after
    (All-append_right AreWithin before (part ∷ after)
    (All-from_flat_map IsWithin items (before ++ part ∷ after)
    (ticks_within history (flat_map items (before ++ part ∷ after)) merge)))
