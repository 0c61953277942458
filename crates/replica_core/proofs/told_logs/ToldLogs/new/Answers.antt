use Rattle.std.proofs.Common.{[], length, ap, ◌∙◌}
use Rattle.std.proofs.lemmas.List.{length-replicate}
use Rattle.replica_core.proofs.ToldLemmas.{KeepsTold-nothing}
use Rattle.replica_core.proofs.told_logs.ToldLogs.new.Goals as goal

pub invariant_of-result : goal.invariant_of-result
invariant_of-result c =
    KeepsTold-nothing c.args.replicas c.in_ok-logs.logs.logs c.in_ok-told.told.items c.requires
    (ap length c.in_ok-logs.ensures.logs ∙ length-replicate c.args.replicas []) c.in_ok-told.ensures
