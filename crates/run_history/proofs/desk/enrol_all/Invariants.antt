use Rattle.std.proofs.Common.{◌≡◌, [], true, map}
use Rattle.std.specs.List.{range_with_len}
use Rattle.run_history.specs.Seats.{fresh_clerk}
use Rattle.run_history.proofs.desk.enrol_all.Given as goal

abbrev pub invariant-loop-replica : goal.invariant-loop-replica
invariant-loop-replica l =
    (l.seat.table_id ≡ l.table.shared.table_id)
    × (l.seat.me.0.opens ≡ true)
    × (l.seat.me.0.parts ≡ [])
    × (l.seat.me.0.seen ≡ [])
    × (l.seat.me.0.enrolled ≡ l.replica)
    × (l.clerks.items ≡ map (fresh_clerk l.table.shared.table_id) (range_with_len 0 l.replica))
