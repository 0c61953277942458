use Rattle.std.proofs.Common.{◌≡◌, ℕ, ◌+◌, ◌*◌, ◌≤◌, take}
use Rattle.std.specs.HashMap.{spare}
use Rattle.tact_base.specs.Images.{image_from}
use Rattle.rollback_apply.specs.Values.{value_at}
use Rattle.rollback_apply.proofs.values.apply_all.Given as goal

abbrev pub invariant-loop-op : goal.invariant-loop-op
invariant-loop-op l = record {
  values : (key : ℕ) → value_at l.values key ≡ image_from (value_at l.initial.values) (take l.op-index l.ops) key;
  left : spare l.initial.values ≤ spare l.values + 2 * l.op-index;
}
