use Rattle.std.proofs.Common.{ap, ◌∙◌, arith}
use Rattle.tact_base.specs.Setup.{Setup}
use Rattle.run_model.specs.declared.entry.Act.TheVariants as act
use Rattle.replica_core.specs.Lending.{IsReturnFault, MayReturn}
use Rattle.replica_set.proofs.OneReplica.{is_set_after, goes_on_if, fault_at, unchanged, may_at, one}
use Rattle.replica_set.proofs.set.ReplicaSet.give_back.Goals as goal

pub invariant_of-self : goal.invariant_of-self
invariant_of-self c =
    is_set_after _ _ c.self.view_is c.self.invariant _ c.requires.holder c.index_mut-one.ensures.value c.give_back.new.self c.give_back.ensures.same

pub returns-clause-goes_on : goal.returns-clause-goes_on
returns-clause-goes_on c =
    goes_on_if _ _ c.self.view_is c.self.invariant _ c.requires.holder c.index_mut-one.ensures.value c.give_back.new.self c.give_back.ensures.same c.give_back.result c.args.moment
    (λ _ part. act.Back c.args.owner c.args.conit c.args.amount) c.give_back.ensures.goes_on

pub returns-clause-fault : goal.returns-clause-fault
returns-clause-fault c =
    fault_at _ _ c.self.view_is c.self.invariant _ c.requires.holder c.index_mut-one.ensures.value c.give_back.result
    (λ core fault. IsReturnFault core c.args.owner c.args.conit c.args.amount fault) c.give_back.ensures.fault

pub returns-clause-err : goal.returns-clause-err
returns-clause-err c =
    unchanged _ _ c.self.view_is c.self.invariant _ c.requires.holder c.index_mut-one.ensures.value c.give_back.new.self c.give_back.result c.give_back.ensures.err

pub returns-clause-may : goal.returns-clause-may
returns-clause-may c =
    may_at _ _ c.self.view_is c.self.invariant _ c.requires.holder c.index_mut-one.ensures.value c.give_back.result
    (λ core. MayReturn core c.args.owner c.args.conit c.args.amount) c.give_back.ensures.may

pub give_back-requires-clause-owner : goal.give_back-requires-clause-owner
give_back-requires-clause-owner c =
    let it = one _ _ c.self.view_is c.self.invariant _ c.requires.holder c.index_mut-one.ensures.value in omega (arith, c.requires.owner, ap (λ (s : Setup). s.replicas) it.setup)

pub give_back-requires-clause-other : goal.give_back-requires-clause-other
give_back-requires-clause-other c =
    λ same. c.requires.other (same ∙ (one _ _ c.self.view_is c.self.invariant _ c.requires.holder c.index_mut-one.ensures.value).replica)

pub give_back-requires-clause-conit : goal.give_back-requires-clause-conit
give_back-requires-clause-conit c =
    let it = one _ _ c.self.view_is c.self.invariant _ c.requires.holder c.index_mut-one.ensures.value in omega (arith, c.requires.conit, ap (λ (s : Setup). s.conits) it.setup)
