use Rattle.std.proofs.Common.{◌≡◌, ◌+◌, ◌*◌, ◌∷◌, ◌++◌, length, take}
use Rattle.std.specs.List.{flat_map}
use Rattle.run_model.specs.Bytes.{signed_bytes}
use Rattle.run_model.proofs.put_call_bytes.fill_sums.Given as goal

abbrev pub invariant-loop-sum : goal.invariant-loop-sum
invariant-loop-sum l =
    (l.out.items ≡ l.fn.out.items ++ length l.sums ∷ flat_map signed_bytes (take l.sum-index l.sums))
    × (l.fn.out.room ≡ l.out.room + (1 + 8 * l.sum-index))
