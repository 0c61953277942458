use Rattle.std.proofs.Common.{List, [], length, get_or, ap, arith}
use Rattle.tact_base.specs.declared.write.Write.{Write}
use Rattle.write_log.specs.Logs.{log_of}
use Rattle.replica_core.proofs.DroppedLemmas.{past_of-within}
use Rattle.replica_core.proofs.replica.trimming.trim_logs.Goals as goal

pub trim-requires-clause-within : goal.trim-requires-clause-within
trim-requires-clause-within c =
    let within = past_of-within (λ origin. length (log_of c.args.logs.now origin)) c.args.gone.now c.requires.within c.loop-origin.origin in
    omega (arith, within, c.past_last.ensures, ap (λ (logs : List (List Write)). length (get_or logs c.loop-origin.origin [])) c.loop-origin.invariant.logs)
