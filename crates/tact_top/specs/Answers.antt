-- When each answer of a command that reads an input comes, and what it leaves of the sink. What the command makes of
-- inputs is given: which status an input asks for and which text is written first, and where an input is at fault.
use Rattle.std.specs.Prelude.{◌≡◌, ◌⊎◌, ℕ, ◌<◌, ◌≤◌, List, Option, IfSome, length}
use Rattle.run_model.specs.declared.status.InputKind.{InputKind}
use Rattle.run_model.specs.declared.status.Status.{Status}
use Rattle.run_model.specs.declared.status.Status.TheVariants as status
use Rattle.script_run.specs.Playing.{WasRead, input_max}
use Rattle.tact_io.specs.Faults.{HasRisen}
use Rattle.tact_io.specs.Sink.{Gains, GainsPart}
use Rattle.tact_io.specs.Source.{IsAtEnd}

-- an input asks for a status, once a text is written
abbrev pub Asking : Type 1
Asking = List ℕ → Status → List ℕ → Type 0

-- an input isn't in its grammar: its first fault is at a place, of a kind
abbrev pub Faulting : Type 1
Faulting = List ℕ → ℕ → InputKind → Type 0

-- a status that comes once a text is written
abbrev pub IsEnd : Status → Type 0
IsEnd status.Done = Unit {0}
IsEnd (status.Bad entry cause) = Unit {0}
IsEnd (status.Full replica count clock) = Unit {0}
IsEnd other = ⊥

-- an input was read to its end, of which this is true
abbrev pub IsRead : Option (List ℕ) → Option (List ℕ) → (List ℕ → Type 0) → Type 0
IsRead left rest Fact = IsAtEnd rest × WasRead left Fact

-- The cause of each answer: by what the source had left, before and after, and by both counts of faults.
abbrev pub HasCause : Asking → Faulting → Status → Option (List ℕ) → Option (List ℕ) → ℕ → ℕ → ℕ → ℕ → Type 0
HasCause Asks Faults (status.BadInput place kind) left rest reads reads' writes writes' = IsRead left rest (λ input. Faults input place kind)
HasCause Asks Faults status.TooLong left rest reads reads' writes writes' = IfSome left (λ input. input_max < length input)
HasCause Asks Faults status.ReadFault left rest reads reads' writes writes' = HasRisen reads reads'
HasCause Asks Faults status.WriteFault left rest reads reads' writes writes' = HasRisen writes writes'
HasCause Asks Faults status.NoMemory left rest reads reads' writes writes' = Unit {0}
HasCause Asks Faults (status.Usage kind) left rest reads reads' writes writes' = ⊥
HasCause Asks Faults answer left rest reads reads' writes writes' = IsRead left rest (λ input. (text : List ℕ) × Asks input answer text)

-- a text that the input asks for, with some status
abbrev pub IsAsked : Asking → Option (List ℕ) → List ℕ → Type 0
IsAsked Asks left text = WasRead left (λ input. (answer : Status) × Asks input answer text)

-- What each answer leaves of the sink: the text that the input asks for with it, a front of a text that it asks for, or
-- nothing more.
abbrev pub Writes : Asking → Status → Option (List ℕ) → Option (List ℕ) → Option (List ℕ) → Type 0
Writes Asks status.WriteFault left before after = (text : List ℕ) × GainsPart before after text × IsAsked Asks left text
Writes Asks status.NoMemory left before after = (after ≡ before) ⊎ ((text : List ℕ) × GainsPart before after text × IsAsked Asks left text)
Writes Asks status.Done left before after = (text : List ℕ) × Gains before after text × WasRead left (λ input. Asks input status.Done text)
Writes Asks (status.Bad entry cause) left before after = (text : List ℕ) × Gains before after text × WasRead left (λ input. Asks input (status.Bad entry cause) text)
Writes Asks (status.Full replica count clock) left before after = (text : List ℕ) × Gains before after text × WasRead left (λ input. Asks input (status.Full replica count clock) text)
Writes Asks other left before after = after ≡ before

-- Without a fault, an input that isn't too long and is in its grammar gets an answer that it asks for, unless memory
-- runs out.
abbrev pub Completes : Asking → Faulting → Status → Option (List ℕ) → ℕ → ℕ → ℕ → ℕ → Type 0
Completes Asks Faults answer left reads reads' writes writes' =
    ¬ HasRisen reads reads' → ¬ HasRisen writes writes'
    → IfSome left (λ input. length input ≤ input_max → ((place : ℕ) (kind : InputKind) → ¬ Faults input place kind)
    → (answer ≡ status.NoMemory) ⊎ ((text : List ℕ) × Asks input answer text))

-- How the writing of a text ended, after which a status is due: by the sink before and after, and its counts of faults.
abbrev pub IsWritten : List ℕ → Status → Status → Option (List ℕ) → Option (List ℕ) → ℕ → ℕ → Type 0
IsWritten text due status.WriteFault before after writes writes' = GainsPart before after text × HasRisen writes writes'
IsWritten text due status.NoMemory before after writes writes' = GainsPart before after text
IsWritten text due answer before after writes writes' = Gains before after text × (answer ≡ due)

-- What each answer of a command leaves of the sink, where its text doesn't hang on an input, and its cause: the text, a front
-- of it, or nothing more.
abbrev pub IsDrawn : List ℕ → Status → Option (List ℕ) → Option (List ℕ) → ℕ → ℕ → Type 0
IsDrawn text status.Done before after writes writes' = Gains before after text
IsDrawn text status.WriteFault before after writes writes' = GainsPart before after text × HasRisen writes writes'
IsDrawn text status.NoMemory before after writes writes' = (after ≡ before) ⊎ GainsPart before after text
IsDrawn text other before after writes writes' = ⊥
