-- What a script is, in its lines: which lines may follow which.
use Rattle.std.specs.Prelude.{◌≡◌, ℕ, Bool, true, false, List, [], ◌∷◌}
use Rattle.tact_base.specs.Setup.{Setup, IsSetup}
use Rattle.run_model.specs.Histories.{EachAfter}
use Rattle.run_model.specs.declared.script_line.Line.{Line}
use Rattle.run_model.specs.declared.script_line.Line.TheVariants as line
use Rattle.script_text.specs.LineRanges.{IsLineInRange}
use Rattle.script_text.specs.Sending.{sent_by, is_sent}
use Rattle.script_text.specs.Setups.{opening, bounded, setup_of, is_past_setup}

-- Where a setup stands, other lines were before or weren't, and these messages were sent: a `bound` line stands before
-- all lines that don't set up the script, and its setup isn't refused. A `take` names a message that was sent to its
-- replica.
abbrev pub IsPlacedBy : Setup → Bool → List (List ℕ) → Line → Type 0
IsPlacedBy setup past sent (line.Bound owner conit alpha loan) = IsSetup (bounded setup owner conit alpha loan) × (past ≡ false)
IsPlacedBy setup past sent (line.Take replica from number) = is_sent sent from number replica ≡ true
IsPlacedBy setup past sent other = Unit {0}

-- a line that may stand there
pub record FitsWhere (setup : Setup) (past : Bool) (sent : List (List ℕ)) (line : Line) : Type 0 where
  pub in_range : IsLineInRange setup line
  pub in_place : IsPlacedBy setup past sent line

-- a line that may follow these
abbrev pub FitsAfter : List Line → Line → Type 0
FitsAfter before line = FitsWhere (setup_of before) (is_past_setup before) (sent_by before) line

-- a `start` line whose setup isn't refused
abbrev pub IsStart : Line → Type 0
IsStart (line.Start replicas conits alpha loan) = IsSetup (opening replicas conits alpha loan)
IsStart other = ⊥

-- the lines of a script: a `start` line, and lines that may follow those before them
abbrev pub IsScript : List Line → Type 0
IsScript [] = ⊥
IsScript (first ∷ rest) = IsStart first × EachAfter (λ before line. FitsAfter (first ∷ before) line) rest
