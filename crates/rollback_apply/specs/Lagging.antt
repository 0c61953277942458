-- What keys hold after operations that aren't applied.
use Rattle.std.specs.Prelude.{List, [], ◌∷◌}
use Rattle.tact_base.specs.Images.{Image, after_op}
use Rattle.tact_base.specs.declared.write.Op.{Op}
use Rattle.rollback_apply.specs.Keys.{key_values}
use Rattle.rollback_apply.specs.declared.keys.KeyValues.{KeyValues}

-- what the keys of each operation hold after it
abbrev pub afters_of : Image → List Op → List KeyValues
afters_of image [] = []
afters_of image (op ∷ ops) = key_values (after_op image op) op ∷ afters_of (after_op image op) ops
