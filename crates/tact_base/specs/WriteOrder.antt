-- All writes are ordered by stamp, then origin, then index (Golding's timestamped anti-entropy, made total).
use Rattle.std.specs.Prelude.{ℕ, Bool, List, [], ◌∷◌, nat_le, nat_lt, filter, if◌then◌else◌}
use Rattle.std.specs.declared.cmp.Ordering.{Ordering}
use Rattle.std.specs.Ordering.{nat_cmp, ordering_then, is_lt}
use Rattle.tact_base.specs.declared.write.Place.{Place}
use Rattle.tact_base.specs.declared.write.Write.{Write}

-- how two places compare
abbrev pub place_cmp : Place → Place → Ordering
place_cmp a b = ordering_then (nat_cmp a.stamp b.stamp) (ordering_then (nat_cmp a.origin b.origin) (nat_cmp a.index b.index))

-- the place of a write
abbrev pub write_place : Write → Place
write_place write = record { stamp = write.stamp; origin = write.origin; index = write.index }

-- how two writes compare: as their places do
abbrev pub write_cmp : Write → Write → Ordering
write_cmp a b = place_cmp (write_place a) (write_place b)

-- whether the first write comes before the second
abbrev pub comes_before : Write → Write → Bool
comes_before a b = is_lt (write_cmp a b)

-- a list that is in order, with a write put in its place
abbrev pub with_write : Write → List Write → List Write
with_write write [] = write ∷ []
with_write write (first ∷ rest) = if comes_before write first then write ∷ first ∷ rest else first ∷ with_write write rest

-- the writes, in order
abbrev pub in_order : List Write → List Write
in_order [] = []
in_order (write ∷ writes) = with_write write (in_order writes)

-- of writes in order, those with a stamp of at most the point are committed
abbrev pub committed_to : ℕ → List Write → List Write
committed_to point writes = filter (λ write. nat_le write.stamp point) writes

-- and the others are tentative
abbrev pub tentative_past : ℕ → List Write → List Write
tentative_past point writes = filter (λ write. nat_lt point write.stamp) writes
