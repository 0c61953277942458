use Rattle.std.proofs.Common.{◌≡◌, ◌≢◌, ◌+◌, ◌<◌, arith, length, sym, subst, ⊎_elim}
use Rattle.std.proofs.lemmas.Bool.{cases_eq}
use Rattle.std.proofs.lemmas.Grind.{common_steps}
use Rattle.run_work.specs.Rounds.{HasReached}
use Rattle.run_work.proofs.RoundLoops.{HasSentSome-all, HasSentSome-more, HasSentSome-none, HasSentSome-skip, kept-come}
use Rattle.run_work.proofs.RoundSteps.{HasReached-on, HasSeenAt-on}
use Rattle.run_work.proofs.Settled.{AreUnmarked-on, have_gone_on_same, have_gone_on_then}
use Rattle.run_work.proofs.settling.Settling.send_from.Goals as goal
use Rattle.run_work.proofs.settling.Settling.send_from.Goals.{then-to-from+in_ok-send, else-to-from}

pub loop-to-init : goal.loop-to-init
loop-to-init g c = record {
  on = have_gone_on_same c.args.self.now;
  ready = c.requires.ready;
  sending = HasSentSome-none c.args.from c.args.self.now;
  reached = λ unmarked front to seen below apart. absurd (omega (arith, below));
}

pub returns-in_err-send-clause-all : goal.returns-in_err-send-clause-all
returns-in_err-send-clause-all g c =
    let within : c.loop-to.to < length c.args.self.now.nodes = grind (arith, common_steps) in
    HasSentSome-all c.args.from (c.loop-to.to + 1) c.args.self.now c.send.new.self c.requires.from (omega (arith, within))
    (HasSentSome-more c.args.from c.loop-to.to c.args.self.now c.loop-to.self c.send.new.self c.if-to-from.true c.loop-to.invariant.sending c.send.ensures.on c.send.ensures.sent)

pub loop-to-preserved : goal.loop-to-preserved
loop-to-preserved g c =
    let begun = c.args.self.now in
    let now = c.loop-to.self in
    let from = c.args.from in
    let at = c.loop-to.to in
    let invariant = c.loop-to.invariant in
    elim c.if-to-from.branch [
      | then-to-from+in_ok-send w ↦
          let after = w.send.new.self in
          let sent = w.in_ok-send.ensures.sent in
          let on = w.in_ok-send.ensures.on in
          rw w.self-is
          (record {
            on = have_gone_on_then begun now after invariant.on on;
            ready = w.in_ok-send.ensures.ready;
            sending = HasSentSome-more from at begun now after w.if-to-from.true invariant.sending on sent;
            reached = λ unmarked front to seen below apart.
                ⊎_elim (λ (same : to ≡ at). subst (λ to. HasReached front from to after) (sym same) (w.in_ok-send.ensures.reached unmarked front (HasSeenAt-on begun now from front invariant.on seen)))
                (λ (other : to ≢ at). HasReached-on front from to now after on (kept-come at now after sent.come to) (invariant.reached (AreUnmarked-on now after on unmarked) front to seen (omega (arith, below, other)) apart))
                (cases_eq to at);
          })
      | else-to-from w ↦
          rw w.self-is
          (record {
            on = invariant.on;
            ready = invariant.ready;
            sending = HasSentSome-skip from at begun now w.if-to-from.false invariant.sending;
            reached = λ unmarked front to seen below apart. invariant.reached unmarked front to seen (omega (arith, below, apart, w.if-to-from.false)) apart;
          })
    ]
