-- What was so before a position of a history.
use Rattle.std.specs.Prelude.{ℕ, List, slice_get, take}
use Rattle.std.specs.Option.{option_map_or}
use Rattle.run_model.specs.Histories.{part_of}
use Rattle.run_model.specs.Taking.{have}
use Rattle.run_model.specs.declared.entry.Entry.{Entry}

-- how many writes of an origin the replica of the entry there had
abbrev pub have_before : List Entry → ℕ → ℕ → ℕ
have_before history position origin =
    option_map_or (λ entry. have entry.replica (part_of (take position history) entry.replica) origin) (slice_get history position) 0
