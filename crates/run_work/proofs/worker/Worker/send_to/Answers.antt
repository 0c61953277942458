use Rattle.std.proofs.Common.{◌≡◌, false, sym, subst}
use Rattle.run_work.specs.Working.{WorkerView}
use Rattle.run_work.proofs.GoingOn.{IsQuiet-sent}
use Rattle.run_work.proofs.Heeding.{HasSentTo-after}
use Rattle.run_work.proofs.worker.Worker.send_to.Goals as goal

pub returns-clause-quiet : goal.returns-clause-quiet
returns-clause-quiet g c =
    let certain : c.self.inside.session.doubt ≡ false = subst (λ (w : WorkerView). w.session.doubt ≡ false) (sym c.self.view_is) c.requires.session.certain in
    let done = c.after_sending.ensures in
    rw (← c.self.view_is) (IsQuiet-sent _ _ _ c.moment.result c.args.to certain _ c.send-sent.result c.send-sent.ensures.sent c.send-sent.ensures.refused done.untouched done.quiet)

pub returns-clause-sent : goal.returns-clause-sent
returns-clause-sent g c =
    let done = c.after_sending.ensures in
    rw (← c.self.view_is) (HasSentTo-after _ _ _ _ c.moment.result c.args.to c.send-sent.result c.after_sending.result c.send-sent.ensures.sent done.untouched done.marked)
