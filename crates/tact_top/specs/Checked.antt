-- Checking: what is said of a record.
use Rattle.std.specs.Prelude.{◌≡◌, List, ℕ}
use Rattle.run_check.specs.VerdictText.{verdict_text}
use Rattle.run_check.specs.Verdicts.{IsVerdictOf, TellsOfRuns}
use Rattle.run_check.specs.declared.verdict.Verdict.{Verdict}
use Rattle.run_check.specs.declared.verdict.Verdict.TheVariants as verdict
use Rattle.run_model.specs.declared.status.Status.{Status}
use Rattle.run_model.specs.declared.status.Status.TheVariants as status
use Rattle.run_record.specs.Records.{Held, IsHeld}
use Rattle.tact_top.specs.RecordForms.{IsRecordIn}

-- the status that says a verdict
abbrev pub status_of : Verdict → Status
status_of (verdict.Run summary) = status.Done
status_of (verdict.Bad entry cause) = status.Bad entry cause

-- The input is a record; the status and the line say the verdict that is due on it.
pub record IsChecked (input : List ℕ) (answer : Status) (line : List ℕ) : Type 0 where
  pub held : Held
  pub is_held : IsHeld held
  pub read : IsRecordIn input held
  pub found : Verdict
  pub due : IsVerdictOf held found
  pub tells : TellsOfRuns held found
  pub answered : answer ≡ status_of found
  pub line_is : line ≡ verdict_text found
