use Rattle.run_model.specs.declared.entry.Act.TheVariants as act
use Rattle.replica_set.proofs.OneReplica.{is_set_after, goes_on_if, unchanged}
use Rattle.replica_set.proofs.set.ReplicaSet.restart.Goals as goal

pub invariant_of-self : goal.invariant_of-self
invariant_of-self c =
    is_set_after _ _ c.self.view_is c.self.invariant _ c.requires.replica c.index_mut-one.ensures.value c.restart.new.self c.restart.ensures.same

pub returns-clause-goes_on : goal.returns-clause-goes_on
returns-clause-goes_on c =
    goes_on_if _ _ c.self.view_is c.self.invariant _ c.requires.replica c.index_mut-one.ensures.value c.restart.new.self
    c.restart.ensures.same c.restart.result c.args.moment (λ _ part. act.Restart) c.restart.ensures.goes_on

pub returns-clause-err : goal.returns-clause-err
returns-clause-err c =
    unchanged _ _ c.self.view_is c.self.invariant _ c.requires.replica c.index_mut-one.ensures.value c.restart.new.self c.restart.result c.restart.ensures.err
