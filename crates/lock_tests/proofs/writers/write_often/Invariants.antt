use Rattle.replica_lock.specs.Sessions.{IsSessionOf}
use Rattle.lock_tests.proofs.writers.write_often.Given as goal

abbrev pub invariant-loop-place : goal.invariant-loop-place
invariant-loop-place g l = IsSessionOf l.node l.session
