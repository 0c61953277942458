-- Lines and texts without bad bytes.
use Rattle.std.specs.Prelude.{◌≡◌, ℕ, ◌==◌, Bool, false, not, ◌&&◌, List}
use Rattle.std.specs.List.{list_any}
use Rattle.run_record.specs.Lines.{is_bad_byte}

-- a line that has good bytes alone
abbrev pub IsGood : List ℕ → Type 0
IsGood raw = list_any is_bad_byte raw ≡ false

-- a byte that stands in no such line and ends none
abbrev pub is_foul : ℕ → Bool
is_foul byte = is_bad_byte byte && not (byte == 10)
