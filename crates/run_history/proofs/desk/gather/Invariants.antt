use Rattle.std.proofs.Common.{◌≡◌, [], ◌++◌}
use Rattle.run_history.specs.Closing.{Gathers}
use Rattle.run_history.proofs.desk.gather.Given as goal

abbrev pub invariant-loop-clerk : goal.invariant-loop-clerk
invariant-loop-clerk l =
    (l.yielded ++ l.clerk-iterator.rest.items ≡ l.fn.clerks.items)
    × (l.seat.table_id ≡ l.fn.table.shared.table_id)
    × (l.seat.me.1 ≡ [])
    × Gathers l.yielded l.seat.me.0
