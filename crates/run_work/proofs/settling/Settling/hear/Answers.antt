use Rattle.std.proofs.Common.{◌≡◌, ◌≢◌, arith, refl, sym, ◌∙◌, subst, ⊎_elim}
use Rattle.std.proofs.lemmas.Bool.{cases_eq}
use Rattle.run_history.specs.Seats.{NoteView}
use Rattle.run_work.specs.Rounds.{HasSeenAt}
use Rattle.run_work.proofs.RoundSteps.{HasSeenAt-on, are_still_same, are_still_then}
use Rattle.run_work.proofs.Settled.{have_gone_on_same, have_gone_on_then}
use Rattle.run_work.proofs.settling.Settling.hear.Goals as goal

pub loop-replica-init : goal.loop-replica-init
loop-replica-init g c = record {
  on = have_gone_on_same c.args.self.now;
  ready = c.requires.ready;
  still = are_still_same c.args.self.now;
  note = refl;
  desk = refl;
  told = λ place below. absurd (omega (arith, below));
}

pub loop-replica-preserved : goal.loop-replica-preserved
loop-replica-preserved g c =
    let begun = c.args.self.now in
    let now = c.loop-replica.self in
    let after = c.hear_at.new.self in
    let at = c.loop-replica.replica in
    let invariant = c.loop-replica.invariant in
    let on = c.hear_at.ensures.on in
    record {
      on = have_gone_on_then begun now after invariant.on on;
      ready = c.hear_at.ensures.ready;
      still = are_still_then begun now after invariant.still c.hear_at.ensures.still;
      note = c.twin-heard.ensures.kept ∙ invariant.note;
      desk = on.desk ∙ invariant.desk;
      told = λ place below.
          ⊎_elim (λ (same : place ≡ at).
          subst (λ p. HasSeenAt after p c.args.note.now.seen) (sym same)
          (subst (λ (n : NoteView). HasSeenAt after at n.seen) (c.twin-heard.ensures.twin ∙ invariant.note) c.hear_at.ensures.told))
          (λ (other : place ≢ at). HasSeenAt-on now after place c.args.note.now.seen on (invariant.told place (omega (arith, below, other))))
          (cases_eq place at);
    }
