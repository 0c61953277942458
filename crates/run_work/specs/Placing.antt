-- Entries placed at their ticks.
use Rattle.std.specs.Prelude.{ℕ, List, fold, slice_set}
use Rattle.run_model.specs.declared.entry.Entry.{Entry}

-- entries with those of pairs of tick and entry placed at their ticks, one after another
abbrev pub all_placed : List Entry → List (ℕ × Entry) → List Entry
all_placed entries pairs = fold (λ placed pair. slice_set placed pair.0 pair.1) entries pairs
