use Rattle.run_model.specs.declared.entry.Act.TheVariants as act
use Rattle.replica_core.specs.Stands.{IsFaultOf}
use Rattle.replica_set.proofs.OneReplica.{is_set_after, goes_on_if, fault_at, unchanged}
use Rattle.replica_set.proofs.set.ReplicaSet.take.Goals as goal

pub invariant_of-self-2 : goal.invariant_of-self-2
invariant_of-self-2 c =
    is_set_after _ _ c.self.view_is c.self.invariant _ c.requires.replica c.index_mut-one.ensures.value c.take.new.self c.take.ensures.same

pub returns-clause-goes_on : goal.returns-clause-goes_on
returns-clause-goes_on c =
    goes_on_if _ _ c.self.view_is c.self.invariant _ c.requires.replica c.index_mut-one.ensures.value c.take.new.self
    c.take.ensures.same c.take.result c.args.moment (λ _ part. act.Take c.args.message.now) c.take.ensures.goes_on

pub returns-clause-fault : goal.returns-clause-fault
returns-clause-fault c =
    fault_at _ _ c.self.view_is c.self.invariant _ c.requires.replica c.index_mut-one.ensures.value c.take.result (λ core fault. IsFaultOf core fault) c.take.ensures.fault

pub returns-clause-err : goal.returns-clause-err
returns-clause-err c =
    unchanged _ _ c.self.view_is c.self.invariant _ c.requires.replica c.index_mut-one.ensures.value c.take.new.self c.take.result c.take.ensures.err
