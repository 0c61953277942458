-- Counts of faults, which never fall. A count ends at the greatest u64 and stays there.
use Rattle.std.specs.Prelude.{◌≡◌, ℕ, ◌-◌, ◌^◌, ◌<◌, ◌⊎◌}

-- the count rose in a call; at a count's end that is met too
abbrev pub HasRisen : ℕ → ℕ → Type 0
HasRisen before after = (before < after) ⊎ (before ≡ 2 ^ 64 - 1)
