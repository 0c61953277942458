use Rattle.std.proofs.Common.{◌≡◌, take}
use Rattle.tact_base.specs.Images.{image_from}
use Rattle.rollback_apply.specs.Current.{holds}
use Rattle.rollback_apply.specs.Layers.{ops_in}
use Rattle.rollback_apply.proofs.lagging.value_by.Given as goal

abbrev pub invariant-loop-at : goal.invariant-loop-at
invariant-loop-at l = l.value ≡ image_from (holds l.current) (ops_in (take l.at l.late)) l.key
