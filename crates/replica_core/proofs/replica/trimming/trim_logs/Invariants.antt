use Rattle.replica_core.proofs.TrimmedLogs.{AreTrimmed}
use Rattle.replica_core.proofs.replica.trimming.trim_logs.Given as goal

abbrev pub invariant-loop-origin : goal.invariant-loop-origin
invariant-loop-origin l = AreTrimmed l.fn.logs l.logs l.gone l.origin
