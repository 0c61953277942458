-- An image: operations in order, of which a front is committed. What keys hold after them is their fold.
use Rattle.std.specs.Prelude.{◌≡◌, ℕ, ℤ, Bool, false, ◌+◌, ◌-◌, ◌&&◌, nat_le, List, take, Option, Some, None, if◌then◌else◌, slice_get}
use Rattle.std.specs.List.{sum_by}
use Rattle.std.specs.Option.{option_map_or}
use Rattle.tact_base.specs.Images.{Image, image_from, image_of}
use Rattle.tact_base.specs.declared.write.Op.{Op}
use Rattle.rollback_apply.specs.Keys.{names}

-- how many operations are committed, these in order, the tentative ones in order, and how many more can surely be put in
-- without taking memory
pub record ImageState : Type 0 where
  pub committed : ℕ
  pub settled : List Op
  pub ops : List Op
  pub room : ℕ

-- what keys hold after the committed operations
abbrev pub base_of : ImageState → Image
base_of state = image_of state.settled

-- the first operations with the new ones among them are the last: each amount that operations have sums up alike
abbrev pub AreJoined : List Op → List Op → List Op → Type 0
AreJoined ops new all = (amount : Op → ℕ) → sum_by amount all ≡ sum_by amount ops + sum_by amount new

-- what keys hold after all operations
abbrev pub value_in : ImageState → Image
value_in state = image_from (base_of state) state.ops

-- whether the operation at a place, counted from the first committed one, is tentative and names a key
abbrev pub names_at : ImageState → ℕ → ℕ → Bool
names_at state place key =
    nat_le state.committed place && option_map_or (λ op. names op key) (slice_get state.ops (place - state.committed)) false

-- what a key held before the operation at a place, where that one is tentative and names it
abbrev pub value_before : ImageState → ℕ → ℕ → Option ℤ
value_before state place key =
    if names_at state place key
    then Some (image_from (base_of state) (take (place - state.committed) state.ops) key)
    else None
