use Rattle.std.proofs.Common.{◌≡◌, ◌++◌}
use Rattle.script_text.specs.Setups.{opening_row}
use Rattle.std.specs.List.{range_with_len, flat_map}
use Rattle.script_text.proofs.setups.push_rows.Given as goal

abbrev pub invariant-loop : goal.invariant-loop
invariant-loop l = l.list ≡ l.initial.list ++ flat_map (λ conit. opening_row l.replicas l.loan l.owner) (range_with_len 0 l.counter)
