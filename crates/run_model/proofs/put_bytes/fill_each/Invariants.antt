use Rattle.std.proofs.Common.{◌≡◌, ◌+◌, ◌*◌, ◌++◌, take}
use Rattle.std.specs.List.{flat_map}
use Rattle.run_model.specs.Bytes.{weight_bytes}
use Rattle.run_model.proofs.put_bytes.fill_each.Given as goal

abbrev pub invariant-loop-item : goal.invariant-loop-item
invariant-loop-item l =
    (l.out.items ≡ l.fn.out.items ++ flat_map weight_bytes (take l.item-index l.items))
    × (l.fn.out.room ≡ l.out.room + 17 * l.item-index)
