use Rattle.std.proofs.Common.{◌≡◌, ◌++◌, map, take, decimal}
use Rattle.run_model.specs.Text.{spaced}
use Rattle.run_record.proofs.printing.put_each.Given as goal

abbrev pub invariant-loop-number : goal.invariant-loop-number
invariant-loop-number l = l.out ≡ l.initial.out ++ spaced (map decimal (take l.number-index l.numbers))
