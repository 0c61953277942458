use Rattle.std.proofs.Common.{◌≡◌, ◌≢◌, ap, arith, refl, ◌∙◌, subst, ⊎_elim}
use Rattle.std.proofs.lemmas.Bool.{cases_eq}
use Rattle.run_model.specs.Runs.{IsRun}
use Rattle.run_model.proofs.PrefixLemmas.{IsPrefix-refl, IsPrefix-trans}
use Rattle.run_history.specs.Seats.{DeskView}
use Rattle.run_work.specs.Rounds.{HasSeenAt}
use Rattle.run_work.specs.Settling.{SettlingView}
use Rattle.run_work.proofs.RoundSteps.{HasSeenAt-on, are_still_same, are_still_then}
use Rattle.run_work.proofs.Settled.{have_gone_on_same, have_gone_on_then}
use Rattle.run_work.proofs.settling.Settling.tell.Goals as goal

pub loop-replica-init : goal.loop-replica-init
loop-replica-init g c = record {
  on = have_gone_on_same c.args.self.now;
  ready = c.requires.ready;
  still = are_still_same c.args.self.now;
  table = refl;
  mine = IsPrefix-refl c.args.note.now.seen;
  run = λ some. absurd (omega (arith, some));
  told = λ place front below seen. absurd (omega (arith, below));
}

pub loop-replica-preserved : goal.loop-replica-preserved
loop-replica-preserved g c =
    let begun = c.args.self.now in
    let now = c.loop-replica.self in
    let after = c.note_at-told.new.self in
    let at = c.loop-replica.replica in
    let invariant = c.loop-replica.invariant in
    let on = c.note_at-told.ensures.on in
    let had = c.loop-replica.note.seen in
    let has = c.meet.new.self.seen in
    let desk = ap (λ (s : SettlingView). s.desk) c.self-in-loop-replica.view_is ∙ on.desk ∙ invariant.on.desk in
    record {
      on = have_gone_on_then begun now after invariant.on on;
      ready = c.note_at-told.ensures.ready;
      still = are_still_then begun now after invariant.still c.note_at-told.ensures.still;
      table = c.meet.ensures.desk ∙ invariant.table;
      mine = IsPrefix-trans c.args.note.now.seen had has invariant.mine c.meet.ensures.mine;
      run = λ some. subst (λ (desk : DeskView). IsRun desk.setup has) desk c.meet.ensures.run;
      told = λ place front below seen.
          ⊎_elim (λ (same : place ≡ at).
          IsPrefix-trans front c.note_at-told.result.seen has
          (c.note_at-told.ensures.seen front (HasSeenAt-on begun now at front invariant.on (subst (λ p. HasSeenAt begun p front) same seen))) c.meet.ensures.other)
          (λ (other : place ≢ at). IsPrefix-trans front had has (invariant.told place front (omega (arith, below, other)) seen) c.meet.ensures.mine)
          (cases_eq place at);
    }
