use Rattle.std.proofs.Common.{◌≡◌, ℕ, ◌+◌, length, get_or, take}
use Rattle.conit_sums.specs.ConitSums.{write_sum}
use Rattle.conit_sums.proofs.add_each.Given as goal

abbrev pub invariant-loop-weight : goal.invariant-loop-weight
invariant-loop-weight l = record {
  conits : length l.sums.items ≡ length l.initial.sums.items;
  sums : (conit : ℕ)
      → get_or l.sums.items conit 0 ≡ get_or l.initial.sums.items conit 0 + write_sum l.summed (take l.weight-index l.weights) conit;
}
