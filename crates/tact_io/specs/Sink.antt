-- What a sink gains, of the bytes that were written to it, where it tells them.
use Rattle.std.specs.Prelude.{◌≡◌, ℕ, ◌<◌, List, ◌++◌, length, take, Option}
use Rattle.std.specs.Option.{option_map}

-- it gained exactly these bytes, at its end; it tells as it told before
abbrev pub Gains : Option (List ℕ) → Option (List ℕ) → List ℕ → Type 0
Gains before after bytes = after ≡ option_map (λ written. written ++ bytes) before

-- it gained a front of these bytes that isn't all of them
abbrev pub GainsPart : Option (List ℕ) → Option (List ℕ) → List ℕ → Type 0
GainsPart before after bytes = (k : ℕ) × (k < length bytes) × Gains before after (take k bytes)
