use Rattle.std.proofs.Common.{◌≡◌, ◌≢◌, ◌+◌, ◌<◌, ◌≤◌, ap, arith, length, sym, ◌∙◌, subst, ⊎_elim}
use Rattle.std.proofs.lemmas.Bool.{cases_eq}
use Rattle.std.proofs.lemmas.Grind.{common_steps}
use Rattle.tact_base.proofs.SetupLemmas.{HasCounts-from_IsSetup}
use Rattle.run_work.specs.Rounds.{HasReached}
use Rattle.run_work.specs.Settling.{SettlingView}
use Rattle.run_work.proofs.RoundLoops.{HaveSentSome-all, HaveSentSome-more, HaveSentSome-none, HaveSentSome-room}
use Rattle.run_work.proofs.RoundSteps.{HasReached-on, HasSeenAt-on}
use Rattle.run_work.proofs.Settled.{AreUnmarked-on, have_gone_on_same, have_gone_on_then}
use Rattle.run_work.proofs.settling.Settling.send_all.Goals as goal

pub loop-from-init : goal.loop-from-init
loop-from-init g c = record {
  on = have_gone_on_same c.args.self.now;
  ready = c.requires.ready;
  sending = HaveSentSome-none c.args.self.now;
  reached = λ unmarked front from to seen below within apart. absurd (omega (arith, below));
}

pub send_from-requires-clause-room : goal.send_from-requires-clause-room
send_from-requires-clause-room g c to within =
    let few = (HasCounts-from_IsSetup c.self.inside.desk.now.setup c.self.invariant.sound).replicas_high in
    let size : length c.self.inside.nodes.items ≡ length c.args.self.now.nodes = ap (λ (s : SettlingView). length s.nodes) c.self.view_is in
    let at : c.loop-from.from < length c.args.self.now.nodes = grind (arith, common_steps) in
    let same : length c.loop-from.self.nodes ≡ length c.args.self.now.nodes = ap length c.loop-from.invariant.on.nodes in
    HaveSentSome-room c.loop-from.from c.args.self.now c.loop-from.self (omega (arith, few, size, at, c.self.invariant.nodes_are)) c.loop-from.invariant.sending to
    (c.requires.empty to (omega (arith, within, same)))

pub returns-in_err-send_from-clause-all : goal.returns-in_err-send_from-clause-all
returns-in_err-send_from-clause-all g c =
    let few = (HasCounts-from_IsSetup c.self.inside.desk.now.setup c.self.invariant.sound).replicas_high in
    let size : length c.self.inside.nodes.items ≡ length c.args.self.now.nodes = ap (λ (s : SettlingView). length s.nodes) c.self.view_is in
    let at : c.loop-from.from < length c.args.self.now.nodes = grind (arith, common_steps) in
    HaveSentSome-all (c.loop-from.from + 1) c.args.self.now c.send_from.new.self (omega (arith, at)) (omega (arith, few, size, c.self.invariant.nodes_are))
    (HaveSentSome-more c.loop-from.from c.args.self.now c.loop-from.self c.send_from.new.self (ap length c.loop-from.invariant.on.nodes) c.loop-from.invariant.sending c.send_from.ensures.on c.send_from.ensures.all)

pub loop-from-preserved : goal.loop-from-preserved
loop-from-preserved g c =
    let begun = c.args.self.now in
    let now = c.loop-from.self in
    let after = c.send_from.new.self in
    let at = c.loop-from.from in
    let invariant = c.loop-from.invariant in
    let sent = c.in_ok-send_from.ensures in
    let within : at < length begun.nodes = grind (arith, common_steps) in
    record {
      on = have_gone_on_then begun now after invariant.on sent.on;
      ready = sent.ready;
      sending = HaveSentSome-more at begun now after (ap length invariant.on.nodes) invariant.sending sent.on sent.all;
      reached = λ unmarked front from to seen below inside apart.
          ⊎_elim (λ (same : from ≡ at).
          subst (λ from. HasReached front from to after) (sym same)
          (sent.reached unmarked front to (HasSeenAt-on begun now at front invariant.on (seen at within)) (subst (λ n. to < n) (sym (ap length invariant.on.nodes)) inside) (λ is. apart (is ∙ sym same))))
          (λ (other : from ≢ at). HasReached-on front from to now after sent.on (sent.all.kept to) (invariant.reached (AreUnmarked-on now after sent.on unmarked) front from to seen (omega (arith, below, other)) inside apart))
          (cases_eq from at);
    }

pub returns-clause-all : goal.returns-clause-all
returns-clause-all g c =
    let few = (HasCounts-from_IsSetup c.self.inside.desk.now.setup c.self.invariant.sound).replicas_high in
    let size : length c.self.inside.nodes.items ≡ length c.args.self.now.nodes = ap (λ (s : SettlingView). length s.nodes) c.self.view_is in
    let most : c.loop-from.from ≤ length c.args.self.now.nodes = grind (arith, common_steps) in
    HaveSentSome-all c.loop-from.from c.args.self.now c.loop-from.self most (omega (arith, few, size, c.self.invariant.nodes_are)) c.loop-from.invariant.sending
