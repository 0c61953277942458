-- When each answer of `play` comes, and what it leaves.
use Rattle.std.specs.Prelude.{◌≡◌, ◌⊎◌, ℕ, ◌<◌, ◌≤◌, List, Option, IfSome, length, Ok, Err}
use Rattle.run_model.specs.declared.script_line.Line.{Line}
use Rattle.run_model.specs.declared.status.InputKind.TheVariants as input
use Rattle.run_model.specs.declared.status.Status.{Status}
use Rattle.run_model.specs.declared.status.Status.TheVariants as status
use Rattle.run_model.specs.Promises.{IsKept}
use Rattle.run_model.specs.Runs.{IsRun}
use Rattle.run_model.specs.ScriptRuns.{history_of, play_text}
use Rattle.script_text.specs.Setups.{setup_of}
use Rattle.script_text.specs.Texts.{script_of}
use Rattle.script_text.specs.Scripts.{IsScript}
use Rattle.tact_io.specs.Faults.{HasRisen}
use Rattle.tact_io.specs.Sink.{Gains, GainsPart}
use Rattle.tact_io.specs.Source.{IsAllOf, IsAtEnd}

-- the greatest count of bytes of an input
abbrev pub input_max : ℕ
input_max = 67108864

-- an input was read of which this is true: it isn't too long, and it is all that the source had left, where that tells
abbrev pub WasRead : Option (List ℕ) → (List ℕ → Type 0) → Type 0
WasRead left Fact = (input : List ℕ) × IsAllOf left input × (length input ≤ input_max) × Fact input

-- the cause of each answer: by what the source had left and both counts of faults before and after
abbrev pub HasCause : Status → Option (List ℕ) → Option (List ℕ) → ℕ → ℕ → ℕ → ℕ → Type 0
HasCause status.Done left rest reads reads' writes writes' =
    IsAtEnd rest × WasRead left (λ input. (lines : List Line) × IsScript lines × (script_of input ≡ Ok lines))
HasCause (status.BadInput place (input.Line kind)) left rest reads reads' writes writes' =
    IsAtEnd rest × WasRead left (λ input. script_of input ≡ Err (place, kind))
HasCause status.TooLong left rest reads reads' writes writes' = IfSome left (λ input. input_max < length input)
HasCause status.ReadFault left rest reads reads' writes writes' = HasRisen reads reads'
HasCause status.WriteFault left rest reads reads' writes writes' = HasRisen writes writes'
HasCause status.NoMemory left rest reads reads' writes writes' = Unit {0}
HasCause other left rest reads reads' writes writes' = ⊥

-- A text is that of the script which an input is, and the history that it tells is a run that keeps its promises.
abbrev pub IsPlayOf : List ℕ → List ℕ → Type 0
IsPlayOf input text =
    (lines : List Line) × (script_of input ≡ Ok lines) × IsScript lines × (text ≡ play_text (setup_of lines) lines)
    × IsRun (setup_of lines) (history_of (setup_of lines) lines) × IsKept (setup_of lines) (history_of (setup_of lines) lines)

-- What each answer leaves of the sink: the text of the input that was read, a front of it, or nothing more. Where
-- memory is refused either nothing was written, or a front of that text.
abbrev pub Writes : Status → Option (List ℕ) → Option (List ℕ) → Option (List ℕ) → Type 0
Writes status.Done left before after = (text : List ℕ) × Gains before after text × WasRead left (λ input. IsPlayOf input text)
Writes status.WriteFault left before after = (text : List ℕ) × GainsPart before after text × WasRead left (λ input. IsPlayOf input text)
Writes status.NoMemory left before after = (after ≡ before) ⊎ ((text : List ℕ) × GainsPart before after text × WasRead left (λ input. IsPlayOf input text))
Writes other left before after = after ≡ before

-- the same of a text that is given
abbrev pub WritesText : List ℕ → Status → Option (List ℕ) → Option (List ℕ) → Type 0
WritesText text status.Done before after = Gains before after text
WritesText text status.WriteFault before after = GainsPart before after text
WritesText text status.NoMemory before after = GainsPart before after text
WritesText text other before after = after ≡ before

-- without a fault a script that isn't too long is done, unless memory runs out
abbrev pub Completes : Status → Option (List ℕ) → ℕ → ℕ → ℕ → ℕ → Type 0
Completes answer left reads reads' writes writes' =
    ¬ HasRisen reads reads' → ¬ HasRisen writes writes'
    → IfSome left (λ input. length input ≤ input_max → (lines : List Line) → script_of input ≡ Ok lines
    → (answer ≡ status.Done) ⊎ (answer ≡ status.NoMemory))

-- the status after a text was written, and its cause
abbrev pub IsWritten : Status → ℕ → ℕ → Type 0
IsWritten status.Done writes writes' = Unit {0}
IsWritten status.WriteFault writes writes' = HasRisen writes writes'
IsWritten status.NoMemory writes writes' = Unit {0}
IsWritten other writes writes' = ⊥
