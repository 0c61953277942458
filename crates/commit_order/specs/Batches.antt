-- Writes that are put in together.
use Rattle.std.specs.Prelude.{ℕ, List, [], ◌∷◌, length}
use Rattle.std.specs.List.{fold}
use Rattle.tact_base.specs.WriteOrder.{write_place, with_write}
use Rattle.tact_base.specs.declared.write.Write.{Write}
use Rattle.commit_order.specs.Places.{place_in}

-- a list that is in order, with the writes put in their places, one after another
abbrev pub with_writes : List Write → List Write → List Write
with_writes writes held = fold (λ ordered write. with_write write ordered) held writes

-- where the first of the writes belongs among those held: at the end where there is none
abbrev pub first_place : List Write → List Write → ℕ
first_place held [] = length held
first_place held (write ∷ writes) = place_in held (write_place write)
