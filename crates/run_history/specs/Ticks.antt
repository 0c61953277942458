-- Histories by tick: the tick of an entry is its place in the history.
use Rattle.std.specs.Prelude.{◌≡◌, ℕ, ◌==◌, ◌↔◌, List, [], ◌∷◌, ◌++◌, Contains, filter, length, map, slice_get, Some}
use Rattle.std.specs.List.{enumerate_from}
use Rattle.run_model.specs.declared.entry.Entry.{Entry}

-- what a replica drew of a history: its entries, each with its tick
abbrev pub drawn_by : List Entry → ℕ → List (ℕ × Entry)
drawn_by history replica = filter (λ pair. pair.1.replica == replica) (enumerate_from 0 history)

-- the entries of pairs of tick and entry
abbrev pub entries_of : List (ℕ × Entry) → List Entry
entries_of pairs = map (λ pair. pair.1) pairs

-- A history is the merge of pairs by tick: it has at each tick the entry of a pair with that tick, and ends
-- where none has one.
abbrev pub IsMerge : List (ℕ × Entry) → List Entry → Type 0
IsMerge pairs history =
    (tick : ℕ) (entry : Entry) → Contains pairs (tick, entry) ↔ (slice_get history tick ≡ Some entry)

-- what is seen after a draw: it begins with what was seen before, and ends with the entry, at its tick
pub record EndsWith (entry : Entry) (tick : ℕ) (before after : List Entry) : Type 0 where
  pub others : List Entry
  pub is : after ≡ (before ++ others) ++ entry ∷ []
  pub at : tick ≡ length (before ++ others)
