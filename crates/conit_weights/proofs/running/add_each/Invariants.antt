use Rattle.std.proofs.Common.{◌≡◌, ℕ, ◌+◌, length, get_or, map, take}
use Rattle.conit_sums.specs.declared.Summed.{Summed}
use Rattle.conit_sums.specs.ConitSums.{write_sum}
use Rattle.conit_weights.specs.Running.{part_of}
use Rattle.conit_weights.proofs.running.add_each.Given as goal

abbrev pub invariant-loop-weight : goal.invariant-loop-weight
invariant-loop-weight l = record {
  conits : length l.sums.items ≡ length l.initial.sums.items;
  sums : (summed : Summed) (conit : ℕ)
      → get_or (map (part_of summed) l.sums.items) conit 0 ≡ get_or (map (part_of summed) l.initial.sums.items) conit 0 + write_sum summed (take l.weight-index l.weights) conit;
}
