use Rattle.std.proofs.Common.{◌≡◌, ◌+◌, ◌<◌, Result, sym, subst}
use Rattle.std.specs.Prelude.{OnOk}
use Rattle.run_model.specs.declared.call.Request.TheVariants as request
use Rattle.replica_lock.specs.Allowances.{AllowanceView}
use Rattle.replica_lock.specs.Sessions.{own_calls}
use Rattle.steady_node.specs.Answered.{IsAnswered, IsReservedBy}
use Rattle.run_work.specs.Holding.{Holds}
use Rattle.run_work.specs.Working.{WorkerView}
use Rattle.run_work.proofs.Moving.{Holds-granted, Holds-refused}
use Rattle.run_work.proofs.Staying.{Owes-worker}
use Rattle.run_work.proofs.worker.Worker.reserve.Goals as goal

pub returns-in-Ok-clause-ready : goal.returns-in-Ok-clause-ready
returns-in-Ok-clause-ready g c =
    let node = c.self.inside.node.now in
    let told = subst (IsReservedBy node c.args.conit c.args.amount
    (IsAnswered node c.self.inside.session c.reserve.new.session (request.Reserve c.args.conit c.args.amount))) c.in-Granted.is c.in_ok-granted.ensures.reserved in
    let joined = subst (λ (r : Result (Unit {0}) AllowanceView).
    OnOk r (c.join-joined.new.allowance ≡ record c.index_mut.result.now { amount = c.index_mut.result.now.amount + c.in-Granted.granted.amount }))
    c.in-Ok.is c.join-joined.ensures.joined in
    let kept = subst (λ (w : WorkerView). Holds w.node (own_calls w.session) w.allowances) (sym c.self.view_is) c.requires.ready.held in
    record {
      session = record { at = c.in_ok-granted.ensures.at; certain = told.0.certain };
      held = Holds-granted _ _ _ _ _ c.args.conit c.args.amount _ _ _ kept
          (subst (λ (w : WorkerView). c.args.conit < w.node.desk.setup.conits) (sym c.self.view_is) c.requires.amount.0)
          c.index_mut.ensures.value told.1 joined told.0.more;
    }

pub returns-in-Ok-clause-owes : goal.returns-in-Ok-clause-owes
returns-in-Ok-clause-owes g c =
    let told = subst (IsReservedBy c.self.inside.node.now c.args.conit c.args.amount
    (IsAnswered c.self.inside.node.now c.self.inside.session c.reserve.new.session (request.Reserve c.args.conit c.args.amount)))
    c.in-Granted.is c.in_ok-granted.ensures.reserved in
    rw (← c.self.view_is) (Owes-worker _ _ c.self.invariant 1 _ c.in_ok-granted.ensures.on _ _ told.0)

pub returns-in-Waiting-clause-ready : goal.returns-in-Waiting-clause-ready
returns-in-Waiting-clause-ready g c =
    let told = subst (IsReservedBy c.self.inside.node.now c.args.conit c.args.amount
    (IsAnswered c.self.inside.node.now c.self.inside.session c.reserve.new.session (request.Reserve c.args.conit c.args.amount)))
    c.in-Waiting.is c.in_ok-granted.ensures.reserved in
    let kept = subst (λ (w : WorkerView). Holds w.node (own_calls w.session) w.allowances) (sym c.self.view_is) c.requires.ready.held in
    record {
      session = record { at = c.in_ok-granted.ensures.at; certain = told.0.certain };
      held = Holds-refused _ _ _ _ _ _ _ _ told.1 kept told.0.more;
    }

pub returns-in-Waiting-clause-owes : goal.returns-in-Waiting-clause-owes
returns-in-Waiting-clause-owes g c =
    let told = subst (IsReservedBy c.self.inside.node.now c.args.conit c.args.amount
    (IsAnswered c.self.inside.node.now c.self.inside.session c.reserve.new.session (request.Reserve c.args.conit c.args.amount)))
    c.in-Waiting.is c.in_ok-granted.ensures.reserved in
    rw (← c.self.view_is, c.tried.ensures) (Owes-worker _ _ c.self.invariant 1 _ c.in_ok-granted.ensures.on _ _ told.0)
