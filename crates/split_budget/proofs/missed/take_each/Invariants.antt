use Rattle.std.proofs.Common.{◌≡◌, ℕ, ◌+◌, length, get_or, take}
use Rattle.conit_sums.specs.ConitSums.{sum_of}
use Rattle.split_budget.proofs.missed.take_each.Given as goal

abbrev pub invariant-loop-write : goal.invariant-loop-write
invariant-loop-write l = record {
  conits : length l.sums.items ≡ length l.initial.sums.items;
  sums : (conit : ℕ)
      → get_or l.sums.items conit 0 + sum_of l.summed (take l.write-index l.writes) conit ≡ get_or l.initial.sums.items conit 0;
}
