use Rattle.std.proofs.Common.{◌≡◌, ◌+◌, ◌*◌, ◌++◌, take}
use Rattle.std.specs.List.{flat_map}
use Rattle.run_model.specs.Bytes.{number_bytes}
use Rattle.run_model.proofs.short_bytes.ShortBytes.put_numbers.Given as goal

abbrev pub invariant-loop-number : goal.invariant-loop-number
invariant-loop-number l =
    (l.self.items ≡ l.fn.self.items ++ flat_map number_bytes (take l.number-index l.numbers))
    × (l.fn.self.room ≡ l.self.room + 8 * l.number-index)
