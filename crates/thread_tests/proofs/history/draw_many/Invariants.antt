use Rattle.std.proofs.Common.{◌≡◌}
use Rattle.thread_tests.specs.Restarts.{HasRestarts}
use Rattle.thread_tests.proofs.history.draw_many.Given as goal

abbrev pub invariant-loop-count : goal.invariant-loop-count
invariant-loop-count l = HasRestarts l.desk l.count l.clerk × (l.clerk.replica ≡ l.fn.clerk.replica)
