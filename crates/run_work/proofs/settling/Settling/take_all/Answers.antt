use Rattle.std.proofs.Common.{◌≡◌, ◌≢◌, [], Contains, arith, sym, ◌∙◌, subst, ⊎_elim}
use Rattle.std.proofs.lemmas.Bool.{cases_eq}
use Rattle.run_work.specs.Rounds.{HasSeenAt, HasSeenTaking, waiting_at}
use Rattle.run_work.proofs.RoundLoops.{HaveTakenSome-more, HaveTakenSome-none}
use Rattle.run_work.proofs.RoundSteps.{HasSeenAt-on, HasSeenTaking-map}
use Rattle.run_work.proofs.Settled.{have_gone_on_same, have_gone_on_then}
use Rattle.run_work.proofs.settling.Settling.take_all.Goals as goal

pub loop-replica-init : goal.loop-replica-init
loop-replica-init g c = record {
  on = have_gone_on_same c.args.self.now;
  ready = c.requires.ready;
  taking = HaveTakenSome-none c.args.self.now;
  empty = λ replica below. absurd (omega (arith, below));
  taken = λ replica message below waits. absurd (omega (arith, below));
}

pub returns-in_err-take_waiting-clause-made : goal.returns-in_err-take_waiting-clause-made
returns-in_err-take_waiting-clause-made g c =
    (HaveTakenSome-more c.loop-replica.replica c.args.self.now c.loop-replica.self c.take_waiting.new.self c.loop-replica.invariant.taking
    c.take_waiting.ensures.on c.take_waiting.ensures.made c.take_waiting.ensures.few).made

pub returns-in_err-take_waiting-clause-few : goal.returns-in_err-take_waiting-clause-few
returns-in_err-take_waiting-clause-few g c =
    (HaveTakenSome-more c.loop-replica.replica c.args.self.now c.loop-replica.self c.take_waiting.new.self c.loop-replica.invariant.taking
    c.take_waiting.ensures.on c.take_waiting.ensures.made c.take_waiting.ensures.few).few

pub loop-replica-preserved : goal.loop-replica-preserved
loop-replica-preserved g c =
    let begun = c.args.self.now in
    let now = c.loop-replica.self in
    let after = c.take_waiting.new.self in
    let at = c.loop-replica.replica in
    let invariant = c.loop-replica.invariant in
    let took = c.in_ok-take_waiting.ensures in
    record {
      on = have_gone_on_then begun now after invariant.on took.on;
      ready = took.ready;
      taking = HaveTakenSome-more at begun now after invariant.taking took.on took.made took.few;
      empty = λ replica below.
          ⊎_elim (λ (same : replica ≡ at). subst (λ r. waiting_at after r ≡ []) (sym same) took.empty)
          (λ (other : replica ≢ at). took.made.stayed replica other ∙ invariant.empty replica (omega (arith, below, other)))
          (cases_eq replica at);
      taken = λ replica message below waits.
          ⊎_elim (λ (same : replica ≡ at).
          subst (λ r. HasSeenTaking (HasSeenAt after r) r message) (sym same)
          (took.taken message
          (subst (λ ms. Contains ms message) (sym (invariant.taking.rest at (omega arith))) (subst (λ r. Contains (waiting_at begun r) message) same waits))))
          (λ (other : replica ≢ at).
          HasSeenTaking-map (HasSeenAt now replica) (HasSeenAt after replica) replica message (λ seen. HasSeenAt-on now after replica seen took.on)
          (invariant.taken replica message (omega (arith, below, other)) waits))
          (cases_eq replica at);
    }
