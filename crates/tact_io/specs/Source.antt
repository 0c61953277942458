-- What a source gives, of the bytes that were left in it, where it tells them.
use Rattle.std.specs.Prelude.{◌≡◌, ℕ, List, [], ◌++◌, Option, IfSome}
use Rattle.std.specs.Option.{option_map}

-- these bytes came next and are no longer left; it tells as it told before
abbrev pub Gives : Option (List ℕ) → Option (List ℕ) → List ℕ → Type 0
Gives before after bytes = before ≡ option_map (λ rest. bytes ++ rest) after

-- where it tells, nothing is left
abbrev pub IsAtEnd : Option (List ℕ) → Type 0
IsAtEnd left = IfSome left (λ rest. rest ≡ [])

-- where it tells, these bytes were all that was left
abbrev pub IsAllOf : Option (List ℕ) → List ℕ → Type 0
IsAllOf before bytes = IfSome before (λ left. bytes ≡ left)
