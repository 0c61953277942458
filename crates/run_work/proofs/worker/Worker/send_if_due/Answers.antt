use Rattle.std.proofs.Common.{◌≡◌, false, sym, subst}
use Rattle.std.specs.Prelude.{IfOk}
use Rattle.postbox.specs.Posts.{IsFor}
use Rattle.replica_lock.specs.Sessions.{IsSessionOf, NodeView}
use Rattle.run_work.specs.Working.{WorkerView}
use Rattle.run_work.proofs.GoingOn.{IsFor-sent, IsQuiet-send, IsQuiet-sent, IsSessionOf-quiet, IsTold-if}
use Rattle.run_work.proofs.Staying.{IsWorker-on}
use Rattle.run_work.proofs.worker.Worker.send_if_due.Goals as goal

pub invariant_of-self : goal.invariant_of-self
invariant_of-self g c =
    let of = subst (λ (w : WorkerView). IsSessionOf w.node w.session) (sym c.self.view_is) c.requires.session in
    IsWorker-on _ _ c.self.invariant 1 _
    (IsQuiet-send _ _ _ c.moment.result c.args.to of.certain c.send-sent.result c.send-sent.ensures.sent c.send-sent.ensures.refused).later _

pub after_sending-requires-clause-session : goal.after_sending-requires-clause-session
after_sending-requires-clause-session g c =
    let of = subst (λ (w : WorkerView). IsSessionOf w.node w.session) (sym c.self.view_is) c.requires.session in
    IsSessionOf-quiet _ 1 _ _
    (IsQuiet-send _ _ _ c.moment.result c.args.to of.certain c.send-sent.result c.send-sent.ensures.sent c.send-sent.ensures.refused) of

pub after_sending-requires-clause-parcel : goal.after_sending-requires-clause-parcel
after_sending-requires-clause-parcel g c =
    subst (λ (n : NodeView). IfOk c.send-sent.result (IsFor n.desk.table c.args.to)) c.turn-turn.ensures.node
    (IsFor-sent _ _ _ c.moment.result c.args.to _ c.send-sent.result c.send-sent.ensures.parcel c.send-sent.ensures.sent)

pub after_sending-requires-clause-told : goal.after_sending-requires-clause-told
after_sending-requires-clause-told g c = IsTold-if _ _ _ c.send-sent.result c.send-sent.ensures.refused c.send-sent.ensures.fault_seen

pub returns-clause-quiet : goal.returns-clause-quiet
returns-clause-quiet g c =
    let certain : c.self.inside.session.doubt ≡ false = subst (λ (w : WorkerView). w.session.doubt ≡ false) (sym c.self.view_is) c.requires.session.certain in
    let done = c.after_sending.ensures in
    rw (← c.self.view_is) (IsQuiet-sent _ _ _ c.moment.result c.args.to certain _ c.send-sent.result c.send-sent.ensures.sent c.send-sent.ensures.refused done.untouched done.quiet)
