-- The world of a script: the lines that it stepped, and which may come next.
use Rattle.std.specs.Prelude.{◌≡◌, ◌≤◌, Bool, true, false, List, ◌++◌, length}
use Rattle.tact_base.specs.Setup.{Setup}
use Rattle.tact_base.specs.declared.limits.TheConstants.{SCRIPT_LINES}
use Rattle.run_model.specs.ScriptRuns.{played_by}
use Rattle.run_model.specs.declared.entry.Entry.{Entry}
use Rattle.run_model.specs.declared.script_line.Line.{Line}
use Rattle.script_text.specs.Scripts.{IsScript}
use Rattle.script_text.specs.Setups.{setup_of}
use Rattle.script_run.specs.Stages.{Keeps, setup_in, played_in}
use Rattle.script_run.specs.declared.stage.Stage.{Stage}

-- its setup, the lines that it stepped, and whether it is spent: memory was refused to it
pub record WorldState : Type 0 where
  pub setup : Setup
  pub lines : List Line
  pub spent : Bool

-- Lines are the first ones of a script with this setup.
pub record AreFirstLines (setup : Setup) (lines : List Line) : Type 0 where
  pub rest : List Line
  pub script : IsScript (lines ++ rest)
  pub few : length (lines ++ rest) ≤ SCRIPT_LINES
  pub setup_is : setup ≡ setup_of (lines ++ rest)

-- Unless it is spent, a world has played its lines, has all entries that they made, and is ready to print what comes.
pub record HasPlayed (stage : Stage) (entries : List Entry) (lines : List Line) : Type 0 where
  pub keeps : Keeps stage
  pub played : played_in stage ≡ played_by (setup_in stage) lines
  pub all : entries ≡ stage.history.items
  pub prints : stage.prints ≡ true

abbrev pub PlaysOn : Stage → List Entry → WorldState → Type 0
PlaysOn stage entries state = state.spent ≡ false → HasPlayed stage entries state.lines
