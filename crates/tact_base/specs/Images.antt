-- What keys hold after operations: the fold of the operations, in order, from the empty image.
use Rattle.std.specs.Prelude.{ℕ, Bool, ℤ, pos, ◌+ℤ◌, ◌-ℤ◌, ◌==◌, not, ◌&&◌, int_le, List, map, fold, if◌then◌else◌}
use Rattle.std.specs.Int.{int_min, int_max}
use Rattle.tact_base.specs.declared.limits.TheConstants.{VALUE_MAX}
use Rattle.tact_base.specs.declared.write.Op.{Op}
use Rattle.tact_base.specs.declared.write.Op.TheVariants.{Put, Add, Shift}
use Rattle.tact_base.specs.declared.write.Write.{Write}

-- the value of each key, which is 0 for an absent one
abbrev pub Image : Type 0
Image = ℕ → ℤ

abbrev pub empty_image : Image
empty_image key = pos 0

-- stops at 10^15 and -10^15
abbrev pub capped : ℤ → ℤ
capped value = int_max (pos 0 -ℤ pos VALUE_MAX) (int_min (pos VALUE_MAX) value)

-- the image with another value of one key
abbrev pub with_value : Image → ℕ → ℤ → Image
with_value image key value other = if other == key then value else image other

-- whether a shift acts: the keys differ, and the first holds at least the amount
abbrev pub shift_acts : Image → ℕ → ℕ → ℕ → Bool
shift_acts image from to amount = not (from == to) && int_le (pos amount) (image from)

-- the image after one operation
abbrev pub after_op : Image → Op → Image
after_op image (Put key value) = with_value image key value
after_op image (Add key delta) = with_value image key (capped (image key +ℤ delta))
after_op image (Shift from to amount) =
    if shift_acts image from to amount
    then with_value (with_value image from (image from -ℤ pos amount)) to (capped (image to +ℤ pos amount))
    else image

-- the image after operations in order, from another one
abbrev pub image_from : Image → List Op → Image
image_from image ops = fold after_op image ops

-- and from the empty one
abbrev pub image_of : List Op → Image
image_of ops = image_from empty_image ops

-- the operations of writes
abbrev pub ops_of : List Write → List Op
ops_of writes = map (λ write. write.op) writes
