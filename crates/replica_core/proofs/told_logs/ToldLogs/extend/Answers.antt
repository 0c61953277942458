use Rattle.std.proofs.Common.{◌<◌, length, sym, subst}
use Rattle.write_log.specs.Logs.{LogState}
use Rattle.replica_core.proofs.ToldLemmas.{KeepsTold-taken}
use Rattle.replica_core.proofs.told_logs.ToldLogs.extend.Goals as goal

pub invariant_of-self : goal.invariant_of-self
invariant_of-self c =
    KeepsTold-taken c.self.inside.replicas c.self.inside.told.items c.self.inside.logs c.extend.new.self c.args.i c.args.first c.args.writes.now c.extend.result
    (subst (λ (s : LogState). c.args.i < length s.logs) (sym c.self.view_is) c.requires.origin) c.extend.ensures.taken c.self.invariant
