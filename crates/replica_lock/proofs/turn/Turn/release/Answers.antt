use Rattle.std.proofs.Common.{◌≤◌, sym, subst}
use Rattle.run_model.specs.Histories.{moment_at}
use Rattle.run_model.specs.Missing.{reserved}
use Rattle.run_model.specs.declared.call.Request.TheVariants as request
use Rattle.replica_lock.specs.Allowances.{AllowanceView}
use Rattle.replica_lock.specs.Answering.{HasAnswered}
use Rattle.locked_replica.specs.Locks.{part_in}
use Rattle.replica_lock.proofs.Replying.{release-released}
use Rattle.replica_lock.proofs.turn.Turn.release.Goals as goal

pub returns-clause-released : goal.returns-clause-released
returns-clause-released g c =
    let locked = c.args.self.now.state in
    let conit = c.allowance.inside.conit in
    let amount = c.allowance.inside.amount in
    let answered = subst (λ (a : AllowanceView). HasAnswered c.args.self.now c.ask.new.self c.args.session.now
    c.ask.new.session c.args.moment a.conit (request.Release conit amount) c.in_ok-ask.field-0)
    (sym c.allowance.view_is) c.in_ok-ask.ensures.answered in
    let held = subst (λ (a : AllowanceView). a.amount ≤ reserved (part_in locked) a.conit) (sym c.allowance.view_is) c.in_ok-ask.ensures.held in
    let is = release-released locked.core.setup locked.core.replica (part_in locked) (moment_at (part_in locked) c.args.moment) c.in_ok-ask.field-0 conit amount answered.due held in
    rw (← c.allowance.view_is)
    (subst (HasAnswered c.args.self.now c.ask.new.self c.args.session.now c.ask.new.session c.args.moment conit (request.Release conit amount)) is answered)
