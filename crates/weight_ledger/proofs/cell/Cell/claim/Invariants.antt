use Rattle.std.proofs.Common.{◌≡◌, [], Some}
use Rattle.weight_ledger.specs.Keeping.{newcomer}
use Rattle.weight_ledger.proofs.cell.Cell.claim.Given as goal

abbrev pub invariant-loop : goal.invariant-loop
invariant-loop g l = (l.seat.table_id ≡ l.self.id) × (l.seat.me ≡ (newcomer (Some l.self.label), []))
