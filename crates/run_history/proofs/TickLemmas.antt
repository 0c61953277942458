-- What a replica drew of a history, entry by entry, and the merge of parts by tick.
use Rattle.std.proofs.Common.{◌≡◌, ℕ, ◌+◌, ◌<◌, ◌==◌, Bool, true, false, cond, if◌then◌else◌, List, [], ◌∷◌, ◌++◌}
use Rattle.std.proofs.Common.{Contains, filter, length, map, get_or, slice_get, Some, refl, sym, ap, ◌∙◌, eq-eqb}
use Rattle.std.proofs.Common.{ne_eqb, arith}
use Rattle.std.specs.List.{enumerate_from}
use Rattle.std.proofs.lemmas.List.{append-nil}
use Rattle.std.proofs.lemmas.List.Elements.{filter-append}
use Rattle.std.proofs.lemmas.List.FromFn.{length-enumerate_from, get_or-enumerate_from}
use Rattle.std.proofs.lemmas.Option.{slice_get_within, get_or_from_slice_get, slice_get_read}
use Rattle.run_model.specs.Histories.{part_of}
use Rattle.run_model.specs.declared.entry.Entry.{Entry}
use Rattle.tact_base.proofs.ElementLemmas.{Contains-filter, Contains-from_filter}
use Rattle.run_history.specs.Ticks.{drawn_by, entries_of}

module _ {A : Type 0} where
  pub enumerate_from-push : (n : ℕ) (xs : List A) (x : A)
      → enumerate_from n (xs ++ x ∷ []) ≡ enumerate_from n xs ++ (n + length xs, x) ∷ []
  enumerate_from-push n [] x = ap (λ k. (k, x) ∷ []) (omega arith)
  enumerate_from-push n (y ∷ ys) x =
      let later : n + 1 + length ys ≡ n + length (y ∷ ys) = omega arith in
      ap (λ rest. (n, y) ∷ rest) (enumerate_from-push (n + 1) ys x ∙ ap (λ k. enumerate_from (n + 1) ys ++ (k, x) ∷ []) later)

  -- the elements of those that a test of elements passes
  pub passed-elements : (p : A → Bool) (n : ℕ) (xs : List A)
      → map (λ (pair : ℕ × A). pair.1) (filter (λ (pair : ℕ × A). p pair.1) (enumerate_from n xs)) ≡ filter p xs
  passed-elements p n [] = refl
  passed-elements p n (x ∷ xs) = go (p x) (passed-elements p (n + 1) xs)
    where
      go : (is : Bool)
          → map (λ (pair : ℕ × A). pair.1) (filter (λ (pair : ℕ × A). p pair.1) (enumerate_from (n + 1) xs)) ≡ filter p xs
          → map (λ (pair : ℕ × A). pair.1) (if is then (n, x) ∷ filter (λ (pair : ℕ × A). p pair.1) (enumerate_from (n + 1) xs)
          else filter (λ (pair : ℕ × A). p pair.1) (enumerate_from (n + 1) xs))
          ≡ (if is then x ∷ filter p xs else filter p xs)
      go true rest = ap (λ l. x ∷ l) rest
      go false rest = rest

  -- an element stands at its place
  pub Contains-enumerate : (xs : List A) (k : ℕ) (x : A) → slice_get xs k ≡ Some x
      → Contains (enumerate_from 0 xs) (k, x)
  Contains-enumerate xs k x is =
      let within : k < length xs = slice_get_within xs k x is in
      let place : 0 + k ≡ k = omega arith in (
        k,
        omega (arith, length-enumerate_from 0 xs),
        get_or-enumerate_from 0 xs k (k, x) within ∙ ap (λ n. (n, get_or xs k x)) place ∙ ap (λ y. (k, y)) (get_or_from_slice_get xs k x x is),
      )

  pub enumerate-Contains : (xs : List A) (k : ℕ) (x : A) → Contains (enumerate_from 0 xs) (k, x)
      → slice_get xs k ≡ Some x
  enumerate-Contains xs k x (i, within, is) =
      let inside : i < length xs = omega (arith, length-enumerate_from 0 xs) in
      let read : (k, x) ≡ (0 + i, get_or xs i x) = sym is ∙ get_or-enumerate_from 0 xs i (k, x) inside in
      let place : k ≡ i = omega (arith, ap (λ (pair : ℕ × A). pair.0) read) in
      rw place (slice_get_read xs (length xs) i x refl inside (ap (λ (pair : ℕ × A). pair.1) read))

-- One more entry.
module _ (history : List Entry) (entry : Entry) (replica : ℕ) where
  pushed : drawn_by (history ++ entry ∷ []) replica ≡ drawn_by history replica ++ cond (entry.replica == replica) ((length history, entry) ∷ []) []
  pushed =
      let test = λ (pair : ℕ × Entry). pair.1.replica == replica in
      let here : 0 + length history ≡ length history = omega arith in
      ap (filter test) (enumerate_from-push 0 history entry ∙ ap (λ k. enumerate_from 0 history ++ (k, entry) ∷ []) here)
      ∙ filter-append test (enumerate_from 0 history) ((length history, entry) ∷ [])

  pub drawn_by-push_same : entry.replica ≡ replica
      → drawn_by (history ++ entry ∷ []) replica ≡ drawn_by history replica ++ (length history, entry) ∷ []
  drawn_by-push_same same =
      pushed ∙ ap (λ yes. drawn_by history replica ++ cond yes ((length history, entry) ∷ []) []) (eq-eqb entry.replica replica same)

  pub drawn_by-push_other : (entry.replica ≡ replica → ⊥)
      → drawn_by (history ++ entry ∷ []) replica ≡ drawn_by history replica
  drawn_by-push_other other =
      pushed ∙ ap (λ yes. drawn_by history replica ++ cond yes ((length history, entry) ∷ []) []) (ne_eqb entry.replica replica other)
      ∙ append-nil (drawn_by history replica)

-- the entries of what a replica drew are its part
pub entries_of-drawn_by : (history : List Entry) (replica : ℕ)
    → entries_of (drawn_by history replica) ≡ part_of history replica
entries_of-drawn_by history replica = passed-elements (λ (entry : Entry). entry.replica == replica) 0 history

-- what stands in the history is drawn, by the replica that it names
pub Contains-drawn_by : (history : List Entry) (tick : ℕ) (entry : Entry)
    → slice_get history tick ≡ Some entry → Contains (drawn_by history entry.replica) (tick, entry)
Contains-drawn_by history tick entry is =
    Contains-filter (λ (pair : ℕ × Entry). pair.1.replica == entry.replica) (enumerate_from 0 history) (tick, entry)
    (Contains-enumerate history tick entry is) (eq-eqb entry.replica entry.replica refl)

pub drawn_by-Contains : (history : List Entry) (replica tick : ℕ) (entry : Entry)
    → Contains (drawn_by history replica) (tick, entry) → slice_get history tick ≡ Some entry
drawn_by-Contains history replica tick entry within =
    enumerate-Contains history tick entry (Contains-from_filter (λ (pair : ℕ × Entry). pair.1.replica == replica) (enumerate_from 0 history) (tick, entry) within)
