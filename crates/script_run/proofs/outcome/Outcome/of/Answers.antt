use Rattle.std.proofs.Common.{List, sym, ap, ◌∙◌, subst}
use Rattle.run_model.specs.ScriptRuns.{Played, history_of}
use Rattle.run_model.specs.declared.entry.Entry.{Entry}
use Rattle.run_model.specs.declared.script_line.Line.{Line}
use Rattle.script_text.specs.Setups.{setup_of}
use Rattle.script_run.proofs.outcome.Outcome.of.Goals as goal

pub step_all-requires-clause-setup : goal.step_all-requires-clause-setup
step_all-requires-clause-setup g c = c.in_ok-stage.ensures.setup ∙ c.config.ensures ∙ ap setup_of (sym c.lines.ensures)

pub step_all-requires-clause-saw : goal.step_all-requires-clause-saw
step_all-requires-clause-saw g c =
    subst (λ (history : List Entry). g.W.Witness.saw c.args.witness.now history) (sym (ap (λ (p : Played). p.history) c.in_ok-stage.ensures.played)) c.requires.saw

pub returns-clause-setup : goal.returns-clause-setup
returns-clause-setup g c = c.in_ok-step_all.ensures.goes.setup ∙ c.in_ok-stage.ensures.setup ∙ c.config.ensures

pub returns-clause-history : goal.returns-clause-history
returns-clause-history g c =
    ap (λ (p : Played). p.history) c.in_ok-step_all.ensures.goes.played ∙ ap (λ (ls : List Line). history_of (setup_of ls) ls) c.lines.ensures

pub returns-clause-saw : goal.returns-clause-saw
returns-clause-saw g c =
    subst (λ (history : List Entry). g.W.Witness.saw c.step_all.new.witness history)
    (ap (λ (p : Played). p.history) c.in_ok-step_all.ensures.goes.played ∙ ap (λ (ls : List Line). history_of (setup_of ls) ls) c.lines.ensures)
    c.in_ok-step_all.ensures.saw
