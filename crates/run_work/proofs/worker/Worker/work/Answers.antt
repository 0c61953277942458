use Rattle.std.proofs.Common.{◌≡◌, ◌<◌, false, List, Some, length, get_or, sym, ap, ◌∙◌, subst, arith}
use Rattle.work_load.specs.declared.plan.Item.{Item}
use Rattle.replica_lock.specs.Sessions.{own_calls}
use Rattle.run_work.specs.Serving.{IsObeyed}
use Rattle.run_work.specs.Trying.{HasBegun, HasDone}
use Rattle.run_work.specs.Working.{HasWorked, IsWorker, WorkerView}
use Rattle.run_work.proofs.WorkingLoop.{HasWorked-all, HasWorked-end, IsWorking-more, IsWorking-start}
use Rattle.run_work.proofs.worker.Worker.work.Goals as goal

pub returns-in-Err-clause-worked : goal.returns-in-Err-clause-worked
returns-in-Err-clause-worked g c sites fresh =
    let items : c.items-item-items.result.now ≡ c.args.self.now.client.items =
    c.items-item-items.ensures ∙ ap (λ (w : WorkerView). w.client.items) c.self.view_is in
    let among = subst (λ (xs : List Item). c.loop-item.item-index < length xs) items c.loop-item-test.true in
    let is : c.item-item.result ≡ get_or c.args.self.now.client.items c.loop-item.item-index c.item-item.result =
    c.item-item.is ∙ ap (λ (xs : List Item). get_or xs c.loop-item.item-index c.item-item.result) items in
    let begun = subst (λ (i : Item). c.in-Err.ending.lost ≡ false → HasBegun c.args.tries i (own_calls c.loop-item.self.session) (own_calls c.do_item.new.self.session)) is c.in-Err.ensures.begun in
    subst (λ (w : WorkerView). HasWorked g.J.Journal.tells sites c.args.tries (record w { end = Some c.in-Err.ending })) (sym c.self-in-loop-item.view_is)
    (HasWorked-end c.args.tries c.args.self.now c.loop-item.item-index c.loop-item.self c.loop-item.invariant c.item-item.result among c.do_item.new.self
    (record { is = c.do_item.ensures.same }) _ c.do_item.ensures.later c.do_item.ensures.busy c.in-Err.ending c.requires.tries begun g.J.Journal.tells
    c.in-Err.ensures.ending sites fresh)

pub loop-item-preserved : goal.loop-item-preserved
loop-item-preserved g c =
    let items : c.items-item-items.result.now ≡ c.args.self.now.client.items =
    c.items-item-items.ensures ∙ ap (λ (w : WorkerView). w.client.items) c.self.view_is in
    let among = subst (λ (xs : List Item). c.loop-item.item-index < length xs) items c.loop-item-test.true in
    let is : c.item-item.result ≡ get_or c.args.self.now.client.items c.loop-item.item-index c.item-item.result =
    c.item-item.is ∙ ap (λ (xs : List Item). get_or xs c.loop-item.item-index c.item-item.result) items in
    let done = subst (λ (i : Item). HasDone c.args.tries i (own_calls c.loop-item.self.session) (own_calls c.do_item.new.self.session)) is c.in_default.ensures.done in
    IsWorking-more c.args.tries c.args.self.now c.loop-item.item-index c.loop-item.self c.loop-item.invariant c.item-item.result among c.do_item.new.self
    (record { is = c.do_item.ensures.same }) _ c.do_item.ensures.later c.do_item.ensures.busy c.in_default.ensures.ready done c.in_default.ensures.heeded
    (subst (λ (w : WorkerView). IsObeyed w.node.desk.setup (get_or c.args.self.now.client.items c.loop-item.item-index c.item-item.result) c.loop-item.self.session c.do_item.new.self.session)
    c.loop-item.invariant.same.is
    (subst (λ (i : Item). IsObeyed c.loop-item.self.node.desk.setup i c.loop-item.self.session c.do_item.new.self.session) is c.in_default.ensures.obeyed))

pub loop-item-init : goal.loop-item-init
loop-item-init g c =
    IsWorking-start c.args.tries c.self.inside.sites.now.desk c.args.self.now (subst (IsWorker c.self.inside.sites.now.desk) c.self.view_is c.self.invariant)
    c.requires.ready c.requires.fresh.1.calls c.requires.fresh.1.made

pub returns-clause-worked : goal.returns-clause-worked
returns-clause-worked g c sites fresh =
    let items : c.items-item-items.result.now ≡ c.args.self.now.client.items =
    c.items-item-items.ensures ∙ ap (λ (w : WorkerView). w.client.items) c.self.view_is in
    let size = ap length items in
    HasWorked-all c.args.tries c.args.self.now c.loop-item.item-index c.loop-item.self c.loop-item.invariant
    (omega (arith, c.loop-item-test.false, size)) (omega (arith, c.loop-item.auto.item-index-end, size)) fresh.end g.J.Journal.tells sites fresh
