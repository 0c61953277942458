use Rattle.std.proofs.Common.{sym, subst}
use Rattle.replica_lock.specs.Sessions.{own_calls}
use Rattle.run_work.specs.Holding.{Holds}
use Rattle.run_work.specs.Working.{WorkerView}
use Rattle.run_work.proofs.Moving.{Holds-plain}
use Rattle.run_work.proofs.Staying.{Owes-worker}
use Rattle.run_work.proofs.worker.Worker.ask.Goals as goal

pub returns-clause-ready : goal.returns-clause-ready
returns-clause-ready g c =
    let answered = c.in_ok-reply.ensures.answered in
    let held = subst (λ (w : WorkerView). Holds w.node (own_calls w.session) w.allowances) (sym c.self.view_is) c.requires.ready.held in
    record {
      session = record { at = c.in_ok-reply.ensures.at; certain = answered.certain };
      held = Holds-plain _ _ _ _ _ _ _ c.requires.plain held answered.more;
    }

pub returns-clause-owes : goal.returns-clause-owes
returns-clause-owes g c =
    rw (← c.self.view_is, c.tried.ensures) (Owes-worker _ _ c.self.invariant 1 _ c.in_ok-reply.ensures.on _ _ c.in_ok-reply.ensures.answered)
