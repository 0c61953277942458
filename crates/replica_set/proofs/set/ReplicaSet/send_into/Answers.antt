use Rattle.std.proofs.Common.{◌≡◌, sym, ap, ◌∙◌, arith}
use Rattle.tact_base.specs.Setup.{Setup}
use Rattle.run_model.specs.Histories.{moment_at}
use Rattle.run_model.specs.Messages.{message_of}
use Rattle.run_model.specs.declared.entry.Act.TheVariants as act
use Rattle.replica_core.specs.Stands.{IsFaultOf}
use Rattle.replica_set.proofs.OneReplica.{is_set_after, goes_on_if, fault_at, unchanged, due_in, one}
use Rattle.replica_set.proofs.set.ReplicaSet.send_into.Goals as goal

pub invariant_of-self : goal.invariant_of-self
invariant_of-self c =
    is_set_after _ _ c.self.view_is c.self.invariant _ c.requires.from c.index_mut-sender.ensures.value c.send_into.new.self c.send_into.ensures.same

pub returns-clause-goes_on : goal.returns-clause-goes_on
returns-clause-goes_on c =
    goes_on_if _ _ c.self.view_is c.self.invariant _ c.requires.from c.index_mut-sender.ensures.value c.send_into.new.self
    c.send_into.ensures.same c.send_into.result c.args.moment (λ _ part. act.Send c.send_into.new.message) c.send_into.ensures.goes_on

pub returns-clause-fault : goal.returns-clause-fault
returns-clause-fault c =
    fault_at _ _ c.self.view_is c.self.invariant _ c.requires.from c.index_mut-sender.ensures.value c.send_into.result (λ core fault. IsFaultOf core fault) c.send_into.ensures.fault

pub returns-clause-err : goal.returns-clause-err
returns-clause-err c =
    unchanged _ _ c.self.view_is c.self.invariant _ c.requires.from c.index_mut-sender.ensures.value c.send_into.new.self c.send_into.result c.send_into.ensures.err

pub returns-clause-due : goal.returns-clause-due
returns-clause-due c =
    due_in _ _ c.self.view_is c.self.invariant _ c.requires.from c.index_mut-sender.ensures.value c.send_into.result
    (λ _ setup replica part. c.send_into.new.message ≡ message_of setup replica part (moment_at part c.args.moment) c.args.to c.args.firsts.now) c.send_into.ensures.due

pub send_into-requires-clause-to : goal.send_into-requires-clause-to
send_into-requires-clause-to c =
    let it = one _ _ c.self.view_is c.self.invariant _ c.requires.from c.index_mut-sender.ensures.value in omega (arith, c.requires.to, ap (λ (s : Setup). s.replicas) it.setup)

pub send_into-requires-clause-other : goal.send_into-requires-clause-other
send_into-requires-clause-other c =
    λ same. c.requires.other (same ∙ (one _ _ c.self.view_is c.self.invariant _ c.requires.from c.index_mut-sender.ensures.value).replica)

pub send_into-requires-clause-firsts : goal.send_into-requires-clause-firsts
send_into-requires-clause-firsts c =
    c.requires.firsts ∙ sym (ap (λ (s : Setup). s.replicas) (one _ _ c.self.view_is c.self.invariant _ c.requires.from c.index_mut-sender.ensures.value).setup)
