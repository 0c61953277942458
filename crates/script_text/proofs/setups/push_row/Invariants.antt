use Rattle.std.proofs.Common.{◌≡◌, ◌++◌}
use Rattle.std.specs.List.{range_with_len}
use Rattle.std.proofs.Common.{map, cond, eqb}
use Rattle.script_text.proofs.setups.push_row.Given as goal

abbrev pub invariant-loop-holder : goal.invariant-loop-holder
invariant-loop-holder l = l.list ≡ l.initial.list ++ map (λ holder. cond (eqb holder l.owner) 0 l.loan) (range_with_len 0 l.holder)
