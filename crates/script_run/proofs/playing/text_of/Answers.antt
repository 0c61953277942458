use Rattle.std.proofs.Common.{◌≡◌, ℕ, ◌++◌, List, length, sym, ap, ap₂, ◌∙◌}
use Rattle.tact_base.specs.Setup.{Setup}
use Rattle.run_model.specs.ScriptRuns.{Played, not_played, history_of, lines_text}
use Rattle.run_model.specs.declared.script_line.Line.{Line}
use Rattle.run_model.specs.Text.{header_text, end_text}
use Rattle.script_text.specs.Setups.{setup_of}
use Rattle.script_run.proofs.playing.text_of.Goals as goal

pub step_all-requires-clause-setup : goal.step_all-requires-clause-setup
step_all-requires-clause-setup c = c.in_ok-stage.ensures.setup ∙ c.config-2.ensures ∙ ap setup_of (sym c.lines.ensures)

pub step_all-requires-clause-saw : goal.step_all-requires-clause-saw
step_all-requires-clause-saw c = sym (ap (λ (p : Played). length p.history) c.in_ok-stage.ensures.played)

pub returns : goal.returns
returns c =
    let script = c.args.script.now in
    let head = c.in_ok-head_of.ensures.ok ∙ ap₂ (λ (front : List ℕ) (s : Setup). front ++ header_text s) (c.page.view_is ∙ c.with-page.ensures ∙ c.ample.ensures) c.config.ensures in
    let middle = c.in_ok-step_all.ensures.text c.in_ok-stage.ensures.prints
    ∙ ap₂ (λ (front : List ℕ) (ls : List Line). front ++ lines_text (setup_of ls) not_played ls) head c.lines.ensures in
    let count : c.step_all.new.witness.entries ≡ length (history_of (setup_of script) script) =
    c.in_ok-step_all.ensures.saw
    ∙ ap (λ (p : Played). length p.history) c.in_ok-step_all.ensures.goes.played
    ∙ ap (λ (ls : List Line). length (history_of (setup_of ls) ls)) c.lines.ensures in
    c.into_text.ensures
    ∙ c.in_ok-end_of.ensures.ok
    ∙ ap₂ (λ (front : List ℕ) (count : ℕ). front ++ end_text count) (c.page-2.view_is ∙ middle) count
