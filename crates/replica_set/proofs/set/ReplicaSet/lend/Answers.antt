use Rattle.std.proofs.Common.{ap, ◌∙◌, arith}
use Rattle.tact_base.specs.Setup.{Setup}
use Rattle.run_model.specs.declared.entry.Act.TheVariants as act
use Rattle.replica_core.specs.Lending.{IsLendFault, MayLend}
use Rattle.replica_set.proofs.OneReplica.{is_set_after, goes_on_if, fault_at, unchanged, may_at, one}
use Rattle.replica_set.proofs.set.ReplicaSet.lend.Goals as goal

pub invariant_of-self : goal.invariant_of-self
invariant_of-self c =
    is_set_after _ _ c.self.view_is c.self.invariant _ c.requires.owner c.index_mut-one.ensures.value c.lend.new.self c.lend.ensures.same

pub returns-clause-goes_on : goal.returns-clause-goes_on
returns-clause-goes_on c =
    goes_on_if _ _ c.self.view_is c.self.invariant _ c.requires.owner c.index_mut-one.ensures.value c.lend.new.self c.lend.ensures.same c.lend.result c.args.moment
    (λ _ part. act.Lend c.args.holder c.args.conit c.args.amount) c.lend.ensures.goes_on

pub returns-clause-fault : goal.returns-clause-fault
returns-clause-fault c =
    fault_at _ _ c.self.view_is c.self.invariant _ c.requires.owner c.index_mut-one.ensures.value c.lend.result (λ core fault. IsLendFault core c.args.conit c.args.amount fault) c.lend.ensures.fault

pub returns-clause-err : goal.returns-clause-err
returns-clause-err c =
    unchanged _ _ c.self.view_is c.self.invariant _ c.requires.owner c.index_mut-one.ensures.value c.lend.new.self c.lend.result c.lend.ensures.err

pub returns-clause-may : goal.returns-clause-may
returns-clause-may c =
    may_at _ _ c.self.view_is c.self.invariant _ c.requires.owner c.index_mut-one.ensures.value c.lend.result (λ core. MayLend core c.args.conit c.args.amount) c.lend.ensures.may

pub lend-requires-clause-holder : goal.lend-requires-clause-holder
lend-requires-clause-holder c =
    let it = one _ _ c.self.view_is c.self.invariant _ c.requires.owner c.index_mut-one.ensures.value in omega (arith, c.requires.holder, ap (λ (s : Setup). s.replicas) it.setup)

pub lend-requires-clause-other : goal.lend-requires-clause-other
lend-requires-clause-other c =
    λ same. c.requires.other (same ∙ (one _ _ c.self.view_is c.self.invariant _ c.requires.owner c.index_mut-one.ensures.value).replica)

pub lend-requires-clause-conit : goal.lend-requires-clause-conit
lend-requires-clause-conit c =
    let it = one _ _ c.self.view_is c.self.invariant _ c.requires.owner c.index_mut-one.ensures.value in omega (arith, c.requires.conit, ap (λ (s : Setup). s.conits) it.setup)
