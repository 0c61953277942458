use Rattle.std.proofs.Common.{◌≡◌, ◌++◌, map, cond, eqb}
use Rattle.std.specs.List.{range_with_len}
use Rattle.work_load.proofs.bounds.push_loans.Given as goal

abbrev pub invariant-loop-holder : goal.invariant-loop-holder
invariant-loop-holder l = l.list ≡ l.initial.list ++ map (λ holder. cond (eqb holder l.owner) 0 100000) (range_with_len 0 l.holder)
