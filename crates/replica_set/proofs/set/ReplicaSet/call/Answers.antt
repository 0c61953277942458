use Rattle.std.proofs.Common.{◌≡◌, sym, subst}
use Rattle.run_model.specs.Histories.{calls_in, moment_at}
use Rattle.run_model.specs.Ranges.{IsRequestInRange}
use Rattle.run_model.specs.Replies.{reply_of}
use Rattle.run_model.specs.declared.entry.Act.TheVariants as act
use Rattle.replica_core.specs.Stands.{IsFaultOf}
use Rattle.replica_set.proofs.OneReplica.{is_set_after, goes_on_if, fault_at, unchanged, due_in, one}
use Rattle.replica_set.proofs.set.ReplicaSet.call.Goals as goal

pub invariant_of-self : goal.invariant_of-self
invariant_of-self c =
    is_set_after _ _ c.self.view_is c.self.invariant _ c.requires.replica c.index_mut-one.ensures.value c.call.new.self c.call.ensures.same

pub returns-clause-goes_on : goal.returns-clause-goes_on
returns-clause-goes_on c =
    goes_on_if _ _ c.self.view_is c.self.invariant _ c.requires.replica c.index_mut-one.ensures.value c.call.new.self c.call.ensures.same c.call.result c.args.moment
    (λ given part. act.Call c.args.client (calls_in part c.args.client) c.args.request.now given) c.call.ensures.goes_on

pub returns-clause-fault : goal.returns-clause-fault
returns-clause-fault c =
    fault_at _ _ c.self.view_is c.self.invariant _ c.requires.replica c.index_mut-one.ensures.value c.call.result (λ core fault. IsFaultOf core fault) c.call.ensures.fault

pub returns-clause-err : goal.returns-clause-err
returns-clause-err c =
    unchanged _ _ c.self.view_is c.self.invariant _ c.requires.replica c.index_mut-one.ensures.value c.call.new.self c.call.result c.call.ensures.err

pub returns-clause-due : goal.returns-clause-due
returns-clause-due c =
    due_in _ _ c.self.view_is c.self.invariant _ c.requires.replica c.index_mut-one.ensures.value c.call.result
    (λ given setup replica part. given ≡ reply_of setup replica part (moment_at part c.args.moment) c.args.request.now) c.call.ensures.due

pub call-requires-clause-in_range : goal.call-requires-clause-in_range
call-requires-clause-in_range c =
    subst (λ s. IsRequestInRange s c.args.request.now) (sym (one _ _ c.self.view_is c.self.invariant _ c.requires.replica c.index_mut-one.ensures.value).setup) c.requires.in_range
