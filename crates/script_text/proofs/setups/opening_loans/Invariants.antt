use Rattle.std.proofs.Common.{◌≡◌}
use Rattle.script_text.specs.Setups.{opening_row}
use Rattle.std.specs.List.{range_with_len, flat_map}
use Rattle.script_text.proofs.setups.opening_loans.Given as goal

abbrev pub invariant-loop-owner : goal.invariant-loop-owner
invariant-loop-owner l = l.list ≡ flat_map (λ owner. flat_map (λ conit. opening_row l.replicas l.loan owner) (range_with_len 0 l.conits)) (range_with_len 0 l.owner)
