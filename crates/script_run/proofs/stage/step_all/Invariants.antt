use Rattle.std.proofs.Common.{◌≡◌, ◌++◌, true, take}
use Rattle.run_model.specs.ScriptRuns.{lines_text, not_played, played_by}
use Rattle.script_text.specs.Setups.{setup_of}
use Rattle.script_run.specs.Stages.{GoesOnTo}
use Rattle.script_run.proofs.stage.step_all.Given as goal

abbrev pub invariant-loop-line : goal.invariant-loop-line
invariant-loop-line g l =
    GoesOnTo l.initial.stage l.stage (played_by (setup_of l.lines) (take l.line-index l.lines))
    × g.W.Witness.saw l.witness l.stage.history.items
    × (l.initial.stage.prints ≡ true → l.page ≡ l.initial.page ++ lines_text (setup_of l.lines) not_played (take l.line-index l.lines))
