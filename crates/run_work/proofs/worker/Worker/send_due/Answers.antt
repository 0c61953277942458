use Rattle.std.proofs.Common.{◌≡◌, sym, ap, ◌∙◌}
use Rattle.run_work.specs.Working.{WorkerView}
use Rattle.steady_node.proofs.Goings.{replica-on}
use Rattle.run_work.proofs.TendingLoop.{IsSending-more, IsSending-own}
use Rattle.run_work.proofs.worker.Worker.send_due.Goals as goal
use Rattle.run_work.proofs.worker.Worker.send_due.Goals.{then-to-replica+in_ok-send_if_due, else-to-replica}

pub loop-to-preserved : goal.loop-to-preserved
loop-to-preserved g c =
    let own : c.replica.result ≡ c.args.self.now.session.replica =
    c.replica.ensures ∙ ap (λ (w : WorkerView). w.session.replica) c.self-in-loop-to.view_is
    ∙ replica-on _ _ _ c.loop-to.invariant.tending.quiet.later in
    elim c.if-to-replica.branch [
      | then-to-replica+in_ok-send_if_due w ↦
          rw w.self-is
          (IsSending-more c.args.self.now c.loop-to.to c.loop-to.self c.loop-to.invariant w.send_if_due.new.self (λ is. w.if-to-replica.true (is ∙ sym own))
          w.send_if_due.ensures.same w.send_if_due.ensures.quiet)
      | else-to-replica w ↦
          rw w.self-is (IsSending-own c.args.self.now c.loop-to.to c.loop-to.self c.loop-to.invariant (w.if-to-replica.false ∙ own))
    ]
