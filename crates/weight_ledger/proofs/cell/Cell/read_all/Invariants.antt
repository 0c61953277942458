use Rattle.std.proofs.Common.{◌≡◌, ◌+◌, [], length}
use Rattle.weight_ledger.proofs.cell.Cell.read_all.Given as goal

abbrev pub invariant-loop-word : goal.invariant-loop-word
invariant-loop-word g l = (l.seat.table_id ≡ l.self.id) × (l.seat.me.1 ≡ []) × (l.seat.me.0.label ≡ l.initial.seat.me.0.label) × (l.seat.me.0.phase ≡ 1)
    × (length l.seat.me.0.book + 1 ≡ l.word) × (l.seat.me.0.amounts ≡ []) × (l.seat.me.0.owns ≡ [])
