-- The script that a text is: its lines, or the first line at fault and its first fault.
use Rattle.std.specs.Prelude.{◌≡◌, ℕ, ◌+◌, Bool, nat_lt, List, [], ◌∷◌, ◌++◌, Option, Some, None, Result, Ok, Err, if◌then◌else◌}
use Rattle.tact_base.specs.declared.limits.TheConstants.{SCRIPT_LINES}
use Rattle.tact_base.specs.Setup.{Setup}
use Rattle.run_model.specs.declared.script_line.Line.{Line}
use Rattle.run_model.specs.declared.script_line.Line.TheVariants as line
use Rattle.run_model.specs.declared.status.LineKind.{LineKind}
use Rattle.run_model.specs.declared.status.LineKind.TheVariants.{TooManyLines, NoStart, LoansOver, LateBound, NoMessage}
use Rattle.run_record.specs.Splitting.{raw_lines, tokens}
use Rattle.run_record.specs.Fields.{◌>>=◌, Tokens}
use Rattle.run_record.specs.Lines.{fault_of_bytes, is_skipped}
use Rattle.script_text.specs.declared.fault.ScriptFault.{ScriptFault}
use Rattle.script_text.specs.declared.fault.ScriptFault.TheVariants as faults
use Rattle.script_text.specs.Forms.{first_at, later_at}
use Rattle.script_text.specs.Sending.{sent_by, is_sent}
use Rattle.script_text.specs.Setups.{bounded, opening, is_over, setup_of, is_past_setup}

-- what is judged of every line, whatever it says: its number, its length, its bytes
unfoldable pub fault_of : ℕ → List ℕ → Option LineKind
fault_of number raw = if nat_lt SCRIPT_LINES number then Some TooManyLines else fault_of_bytes raw

-- What is judged of a whole line, where there is this setup, other lines stand before it or don't, and these messages
-- were sent: the loans of a `bound` line, then its place, and the message of a `take`.
abbrev pub of_whole : Setup → Bool → List (List ℕ) → Line → Result Line LineKind
of_whole setup past sent (line.Bound owner conit alpha loan) =
    if is_over (bounded setup owner conit alpha loan) then Err LoansOver
    else if past then Err LateBound
    else Ok (line.Bound owner conit alpha loan)
of_whole setup past sent (line.Take replica from number) =
    if is_sent sent from number replica then Ok (line.Take replica from number) else Err NoMessage
of_whole setup past sent other = Ok other

-- the first line that isn't skipped, whose loans may pass its alpha
abbrev pub of_first : Line → Result Line LineKind
of_first (line.Start replicas conits alpha loan) =
    if is_over (opening replicas conits alpha loan) then Err LoansOver else Ok (line.Start replicas conits alpha loan)
of_first other = Ok other

unfoldable pub first_line : Tokens → Result Line LineKind
first_line tokens = do
  line ← first_at tokens
  of_first line

-- a later line that isn't skipped
unfoldable pub later_line : Setup → Bool → List (List ℕ) → Tokens → Result Line LineKind
later_line setup past sent tokens = do
  line ← later_at setup.replicas setup.conits tokens
  of_whole setup past sent line

-- what a line that isn't skipped says, after the lines before it
unfoldable pub line_after : List Line → Tokens → Result Line LineKind
line_after [] tokens = first_line tokens
line_after (first ∷ rest) tokens =
    later_line (setup_of (first ∷ rest)) (is_past_setup (first ∷ rest)) (sent_by (first ∷ rest)) tokens

-- the lines with the one that the tokens say
unfoldable pub with_line : List Line → Tokens → Result (List Line) LineKind
with_line lines tokens = do
  line ← line_after lines tokens
  Ok (lines ++ line ∷ [])

-- the lines after one more line of the text
abbrev pub unless : Option LineKind → Result (List Line) LineKind → Result (List Line) LineKind
unless None read = read
unless (Some kind) read = Err kind

unfoldable pub lines_after : ℕ → List Line → List ℕ → Result (List Line) LineKind
lines_after number lines raw =
    unless (fault_of number raw)
    (if is_skipped (tokens raw) then Ok lines else with_line lines (tokens raw))

-- A script that goes on with these lines of the text, of which the first has this number, after lines that were read.
abbrev pub goes_on : (List Line → Result (List Line) (ℕ × LineKind)) → ℕ → Result (List Line) LineKind → Result (List Line) (ℕ × LineKind)
goes_on rest number (Ok lines) = rest lines
goes_on rest number (Err kind) = Err (number, kind)

abbrev pub ended : ℕ → List Line → Result (List Line) (ℕ × LineKind)
ended number [] = Err (number, NoStart)
ended number (first ∷ rest) = Ok (first ∷ rest)

abbrev pub read_from : ℕ → List Line → List (List ℕ) → Result (List Line) (ℕ × LineKind)
read_from number lines [] = ended number lines
read_from number lines (raw ∷ raws) = goes_on (λ more. read_from (number + 1) more raws) number (lines_after number lines raw)

-- the lines after a first line, if it isn't skipped
abbrev pub begun_by : Option Line → List Line
begun_by None = []
begun_by (Some first) = first ∷ []

-- the lines of the script that a text is, or the number of its first line at fault and the fault
unfoldable pub script_of : List ℕ → Result (List Line) (ℕ × LineKind)
script_of text = read_from 1 [] (raw_lines text)

-- what a reader answered is what the text is, unless memory ran out
abbrev pub Reads : Result (List Line) ScriptFault → Result (List Line) (ℕ × LineKind) → Type 0
Reads (Ok lines) read = read ≡ Ok lines
Reads (Err faults.NoMemory) read = Unit {0}
Reads (Err (faults.Bad place kind)) read = read ≡ Err (place, kind)
