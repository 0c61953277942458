-- The values of keys, each at a place of its own.
use Rattle.std.specs.Prelude.{◌≡◌, ℕ, ℤ, pos, ◌<◌, List, length, slice_index_or, nat_eq, Option, Some}
use Rattle.std.specs.Map.{lookup}
use Rattle.std.specs.Option.{option_map_or}
use Rattle.tact_base.specs.Images.{Image}

-- the place of each key, the values at the places, and how many keys more can get a place without taking memory
pub record CurrentState : Type 0 where
  pub places : List (ℕ × ℕ)
  pub values : List ℤ
  pub spare : ℕ

-- the place of a key
abbrev pub place_of : CurrentState → ℕ → Option ℕ
place_of current key = lookup (nat_eq key) current.places

-- what a key holds: the value at its place, and 0 where it has none
abbrev pub holds : CurrentState → Image
holds current key = option_map_or (λ place. slice_index_or current.values place (pos 0)) (place_of current key) (pos 0)

-- how many places a key wants: one where it has none
abbrev pub lacking : CurrentState → ℕ → ℕ
lacking current key = option_map_or (λ place. 0) (place_of current key) 1

-- some key has the place
abbrev pub IsPlace : CurrentState → ℕ → Type 0
IsPlace current place = (key : ℕ) × (place_of current key ≡ Some place)

-- each place has a value, and no two keys have the same one
pub record IsPlaced (places : List (ℕ × ℕ)) (values : List ℤ) : Type 0 where
  pub within : (key place : ℕ) → lookup (nat_eq key) places ≡ Some place → place < length values
  pub apart : (key other place : ℕ) → lookup (nat_eq key) places ≡ Some place → lookup (nat_eq other) places ≡ Some place → other ≡ key

-- the places of keys stay
abbrev pub KeepPlaces : CurrentState → CurrentState → Type 0
KeepPlaces old new = (key place : ℕ) → place_of old key ≡ Some place → place_of new key ≡ Some place

-- and so does what each key holds
pub record Extends (old new : CurrentState) : Type 0 where
  pub holds : (key : ℕ) → holds new key ≡ holds old key
  pub places : KeepPlaces old new
