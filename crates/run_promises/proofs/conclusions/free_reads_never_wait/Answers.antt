use Rattle.run_promises.proofs.FreeCalls.{free_read-value}
use Rattle.run_promises.proofs.conclusions.free_reads_never_wait.Goals as goal

pub returns-clause-free : goal.returns-clause-free
returns-clause-free c = free_read-value
