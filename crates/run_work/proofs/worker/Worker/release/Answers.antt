use Rattle.std.proofs.Common.{◌≡◌, ◌<◌, set, sym, ap, ◌∙◌, subst}
use Rattle.run_model.specs.declared.call.Reply.TheVariants as reply
use Rattle.run_model.specs.declared.call.Request.TheVariants as request
use Rattle.replica_lock.specs.Allowances.{AllowanceView, allowance_of}
use Rattle.replica_lock.specs.Sessions.{own_calls}
use Rattle.steady_node.specs.Answered.{with_amount}
use Rattle.steady_node.specs.Settled.{HasCallMore}
use Rattle.run_work.specs.Holding.{Holds}
use Rattle.run_work.specs.Working.{WorkerView}
use Rattle.run_work.proofs.Moving.{Holds-released, allowance-at}
use Rattle.run_work.proofs.Staying.{Owes-worker}
use Rattle.run_work.proofs.worker.Worker.release.Goals as goal

pub returns-clause-ready : goal.returns-clause-ready
returns-clause-ready g c =
    let node = c.self.inside.node.now in
    let before = c.self.inside.session in
    let after = c.release.new.session in
    let within = subst (λ (w : WorkerView). c.args.conit < w.node.desk.setup.conits) (sym c.self.view_is) c.requires.conit in
    let kept = subst (λ (w : WorkerView). Holds w.node (own_calls w.session) w.allowances) (sym c.self.view_is) c.requires.ready.held in
    let is = allowance-at _ _ _ c.args.conit _ kept within c.index_mut-held.ensures.value in
    let answered = c.in_ok-release.ensures.answered in
    let more = subst (λ (a : AllowanceView). HasCallMore node.desk.setup before after (request.Release a.conit a.amount) reply.Released) is answered.more in
    let left : c.release.new.allowance ≡ allowance_of node c.args.conit 0 =
    c.in_ok-release.ensures.allowance ∙ ap (λ (a : AllowanceView). with_amount a 0) is in
    record {
      session = record { at = c.in_ok-release.ensures.at; certain = answered.certain };
      held = subst (λ (a : AllowanceView). Holds node (own_calls after) (set c.self.inside.allowances.items c.args.conit a)) (sym left)
          (Holds-released _ _ _ _ _ kept c.args.conit within more);
    }

pub returns-clause-owes : goal.returns-clause-owes
returns-clause-owes g c =
    rw (← c.self.view_is) (Owes-worker _ _ c.self.invariant 1 _ c.in_ok-release.ensures.on _ _ c.in_ok-release.ensures.answered)
