use Rattle.std.proofs.Common.{◌≡◌, ℕ, ◌+◌, List, [], ◌∷◌, ◌++◌, take, refl, sym, ap, ap₂, ◌∙◌, subst, append_assoc}
use Rattle.tact_base.specs.Setup.{Setup}
use Rattle.run_model.specs.ScriptRuns.{Played, after_line, not_played, played_by, lines_text, text_after}
use Rattle.run_model.specs.declared.script_line.Line.{Line}
use Rattle.script_text.specs.Setups.{setup_of}
use Rattle.script_run.specs.Stages.{IsReadyFor, setup_in}
use Rattle.script_run.proofs.Fronts.{next_is_ready}
use Rattle.script_run.proofs.Played.{lines_text-push, front_is, played_by-push, AreFirstLines-next}
use Rattle.script_run.proofs.stage.step_all.Goals as goal

pub step-requires-clause-ready : goal.step-requires-clause-ready
step-requires-clause-ready g c =
    let lines = c.args.lines.now in
    let i = c.loop-line.line-index in
    let l = c.line-item.result in
    let goes = c.loop-line.invariant.0 in
    let setup = goes.setup ∙ c.requires.setup in
    let first = AreFirstLines-next (setup_of lines) lines (take i lines) i l c.requires.script c.requires.few refl refl c.loop-line-test.true c.line-item.is in
    subst (λ (s : Setup). IsReadyFor s c.loop-line.stage.history.items l) (sym setup)
    (subst (λ (p : Played). IsReadyFor (setup_of lines) p.history l) (sym goes.played) (next_is_ready (setup_of lines) (take i lines) l first))

pub loop-line-preserved : goal.loop-line-preserved
loop-line-preserved g c =
    let lines = c.args.lines.now in
    let i = c.loop-line.line-index in
    let l = c.line-item.result in
    let setup = setup_of lines in
    let goes = c.loop-line.invariant.0 in
    let steps = c.in_ok-step.ensures.steps in
    let same : setup_in c.loop-line.stage ≡ setup = goes.setup ∙ c.requires.setup in
    let front : take (i + 1) lines ≡ take i lines ++ l ∷ [] = front_is lines i l c.loop-line-test.true c.line-item.is in
    let played = played_by setup (take i lines) in
    let printed = text_after setup played l in (
      record {
        keeps = steps.goes.keeps;
        setup = steps.goes.setup ∙ goes.setup;
        played =
            steps.goes.played
            ∙ ap₂ (λ (s : Setup) (p : Played). after_line s p l) same goes.played
            ∙ sym (ap (played_by setup) front ∙ played_by-push setup (take i lines) l);
        prints = steps.goes.prints ∙ goes.prints;
      },
      c.in_ok-step.ensures.saw,
      λ prints.
          steps.text (goes.prints ∙ prints)
          ∙ ap₂ (λ (s : Setup) (p : Played). c.loop-line.page ++ text_after s p l) same goes.played
          ∙ ap (λ (text : List ℕ). text ++ printed) (c.loop-line.invariant.2 prints)
          ∙ append_assoc c.args.page.now (lines_text setup not_played (take i lines)) printed
          ∙ ap (λ (more : List ℕ). c.args.page.now ++ more) (sym (lines_text-push setup not_played (take i lines) l))
          ∙ ap (λ (ls : List Line). c.args.page.now ++ lines_text setup not_played ls) (sym front),
    )
