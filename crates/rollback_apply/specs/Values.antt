-- The values of keys as they are kept in maps.
use Rattle.std.specs.Prelude.{ℕ, ℤ, pos, nat_eq, unwrap_or}
use Rattle.std.specs.declared.hash.FoldHasher.{FoldHasher}
use Rattle.std.specs.declared.hash.BuildHasherDefault.{BuildHasherDefault}
use Rattle.std.specs.HashMap.{HashMap, get}
use Rattle.tact_base.specs.Images.{Image}

-- the map from keys to values
abbrev pub Values : Type 0
Values = HashMap ℕ ℤ (BuildHasherDefault FoldHasher)

-- the value of each key, which is 0 for one that the map lacks
abbrev pub value_at : Values → Image
value_at values key = unwrap_or (get nat_eq values key) (pos 0)
