-- The keys that an operation names, at most two, and what an image holds at them.
use Rattle.std.specs.Prelude.{ℕ, ℤ, Bool, ◌==◌, ◌||◌, List, [], ◌∷◌, Option, Some, None, if◌then◌else◌}
use Rattle.tact_base.specs.Images.{Image, with_value, after_op}
use Rattle.tact_base.specs.declared.write.Op.{Op}
use Rattle.tact_base.specs.declared.write.Op.TheVariants.{Put, Add, Shift}
use Rattle.rollback_apply.specs.declared.keys.KeyValues.{KeyValues}

-- the key that an operation changes first
abbrev pub first_key : Op → ℕ
first_key (Put key value) = key
first_key (Add key delta) = key
first_key (Shift from to amount) = from

-- the key that it changes last, the same one but for a shift
abbrev pub second_key : Op → ℕ
second_key (Put key value) = key
second_key (Add key delta) = key
second_key (Shift from to amount) = to

-- whether an operation names a key
abbrev pub names : Op → ℕ → Bool
names op key = key == first_key op || key == second_key op

-- the values of the keys of an operation
abbrev pub key_values : Image → Op → KeyValues
key_values image op = record { first = image (first_key op); second = image (second_key op) }

-- the image with other values of these keys
abbrev pub with_key_values : Image → Op → KeyValues → Image
with_key_values image op values =
    with_value (with_value image (first_key op) values.first) (second_key op) values.second

-- the value of a key among these, where it is one of the keys
abbrev pub value_among : KeyValues → Op → ℕ → Option ℤ
value_among values op key =
    if key == first_key op
    then Some values.first
    else (if key == second_key op then Some values.second else None)

-- what the keys of each operation held before it
abbrev pub undos_of : Image → List Op → List KeyValues
undos_of image [] = []
undos_of image (op ∷ ops) = key_values image op ∷ undos_of (after_op image op) ops
