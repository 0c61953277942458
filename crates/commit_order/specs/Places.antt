-- Where a place stands among writes in order.
use Rattle.std.specs.Prelude.{ℕ, List, count_by}
use Rattle.std.specs.Ordering.{is_lt}
use Rattle.tact_base.specs.WriteOrder.{place_cmp, write_place}
use Rattle.tact_base.specs.declared.write.Place.{Place}
use Rattle.tact_base.specs.declared.write.Write.{Write}

-- how many of the writes come before a place
abbrev pub place_in : List Write → Place → ℕ
place_in writes place = count_by (λ write. is_lt (place_cmp (write_place write) place)) writes
