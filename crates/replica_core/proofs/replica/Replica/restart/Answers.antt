use Rattle.std.proofs.Common.{sym, ap, subst}
use Rattle.replica_core.specs.Stands.{Stands, with_act}
use Rattle.replica_core.specs.States.{ReplicaState}
use Rattle.run_model.specs.declared.entry.Act.TheVariants.{Restart}
use Rattle.replica_core.proofs.StandsAfterQuiet.{Stands-restarted}
use Rattle.replica_core.proofs.replica.Replica.restart.Goals as goal

pub returns-clause-goes_on : goal.returns-clause-goes_on
returns-clause-goes_on c =
    let old = c.args.self.now.core in
    let may = c.in_ok-may_enter.ensures in
    λ part stands.
    subst (Stands (with_act old.replica part c.args.moment Restart)) (sym (ap (λ (s : ReplicaState). s.core) c.enter.ensures))
    (Stands-restarted part old stands may.ok may.kept.places c.args.moment c.requires)
