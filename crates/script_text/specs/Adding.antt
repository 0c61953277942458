-- A line that is added to those before it as it is read.
use Rattle.std.specs.Prelude.{◌≡◌, List, [], ◌∷◌, ◌++◌, Result, Ok, Err}
use Rattle.tact_base.specs.Setup.{Setup}
use Rattle.run_model.specs.declared.script_line.Line.{Line}
use Rattle.run_model.specs.declared.status.LineKind.{LineKind}
use Rattle.run_record.specs.declared.line_fault.LineFault.{LineFault}
use Rattle.run_record.specs.Fields.{Fails}
use Rattle.script_text.specs.LineRanges.{IsLineInRange}

-- the line that reading gives, after those that were there
pub record Adds (setup : Setup) (before after : List Line) (read : Result Line LineKind) : Type 0 where
  pub line : Line
  pub says : read ≡ Ok line
  pub in_range : IsLineInRange setup line
  pub added : after ≡ before ++ line ∷ []

-- what a function returned, and the lines that it left, are what reading gives, unless memory ran out
abbrev pub AddsLine : Setup → List Line → List Line → Result (Unit {0}) LineFault → Result Line LineKind → Type 0
AddsLine setup before after (Ok done) read = Adds setup before after read
AddsLine setup before after (Err fault) read = Fails fault read
