-- What the words of a command ask for. The first word is the program's name.
use Rattle.std.specs.Prelude.{◌≡◌, ◌⊎◌, ℕ, ◌<◌, List, [], ◌∷◌, codes, nat_eq, find, Option, Some, None, Result, Ok, Err, if◌then◌else◌}
use Rattle.std.specs.Cmp.Lexicographic.{pointwise}
use Rattle.std.specs.Option.{option_map}
use Rattle.run_model.specs.declared.status.Status.{Status}
use Rattle.run_model.specs.declared.status.Status.TheVariants as status
use Rattle.run_model.specs.declared.status.UsageKind.{UsageKind}
use Rattle.run_model.specs.declared.status.UsageKind.TheVariants.{NoCommand, UnknownCommand, ExtraWord, MissingNumber, BadNumber, RunWords}
use Rattle.tact_base.specs.Numbers.{whole_number}
use Rattle.tact_base.specs.declared.tokens.TokenFault.{TokenFault}
use Rattle.tact_top.specs.RunWords.{are_run_words, tries_in}
use Rattle.tact_top.specs.declared.words.Command.{Command}
use Rattle.tact_top.specs.declared.words.Command.TheVariants.{Read, Draw}
use Rattle.tact_top.specs.declared.words.Drawing.{Drawing}
use Rattle.tact_top.specs.declared.words.Drawing.TheVariants.{Drill, Primary, Roam, Sales}
use Rattle.tact_top.specs.declared.words.Name.{Name}
use Rattle.tact_top.specs.declared.words.Name.TheVariants as name
use Rattle.tact_top.specs.declared.words.Reading.{Reading}
use Rattle.tact_top.specs.declared.words.Reading.TheVariants.{Play, Check, Pack, Unpack, Run}
use Rattle.tact_top.specs.declared.words.WordsFault.{WordsFault}
use Rattle.tact_top.specs.declared.words.WordsFault.TheVariants as fault

-- the word of each command but `run`, and what it names
abbrev pub command_words : List (List ℕ × Name)
command_words =
    (codes "play", name.Read Play)
    ∷ (codes "check", name.Read Check)
    ∷ (codes "pack", name.Read Pack)
    ∷ (codes "unpack", name.Read Unpack)
    ∷ (codes "drill", name.Draw Drill)
    ∷ (codes "primary", name.Draw Primary)
    ∷ (codes "roam", name.Draw Roam)
    ∷ (codes "sales", name.Draw Sales)
    ∷ []

-- what a word names, by this table
abbrev pub named : List ℕ → Option Name
named word = option_map (λ entry. entry.1) (find (λ entry. pointwise nat_eq word entry.0) command_words)

-- a command after whose words nothing may follow
abbrev pub alone : Command → List (List ℕ) → Result Command UsageKind
alone command [] = Ok command
alone command (word ∷ rest) = Err ExtraWord

-- what draws by a number, by its number below 2^64
abbrev pub drawn_from : Drawing → Result ℕ TokenFault → List (List ℕ) → Result Command UsageKind
drawn_from drawing (Ok number) rest = alone (Draw drawing number) rest
drawn_from drawing (Err fault) rest = Err BadNumber

abbrev pub drawn_by : Drawing → List (List ℕ) → Result Command UsageKind
drawn_by drawing [] = Err MissingNumber
drawn_by drawing (word ∷ rest) = drawn_from drawing (whole_number word 18446744073709551615) rest

-- the command that a word names, with the words after it
abbrev pub named_of : Option Name → List (List ℕ) → Result Command UsageKind
named_of None rest = Err UnknownCommand
named_of (Some (name.Read reading)) rest = alone (Read reading) rest
named_of (Some (name.Draw drawing)) rest = drawn_by drawing rest

-- a run, by its words, its name first
abbrev pub run_of : List (List ℕ) → Result Command UsageKind
run_of words = if are_run_words words then Ok (Read (Run (tries_in words))) else Err RunWords

abbrev pub command_of : List (List ℕ) → Result Command UsageKind
command_of [] = Err NoCommand
command_of (name ∷ []) = Err NoCommand
command_of (name ∷ first ∷ rest) =
    if pointwise nat_eq first (codes "run") then run_of (first ∷ rest) else named_of (named first) rest

-- a run tries each item once at least
abbrev pub IsReading : Reading → Type 0
IsReading (Run tries) = 0 < tries
IsReading other = Unit {0}

abbrev pub IsCommand : Command → Type 0
IsCommand (Read reading) = IsReading reading
IsCommand (Draw drawing number) = Unit {0}

-- to read the words takes memory where they are those of a run
abbrev pub MayWantMemory : Result Command UsageKind → Type 0
MayWantMemory (Ok (Read (Run tries))) = Unit {0}
MayWantMemory (Err RunWords) = Unit {0}
MayWantMemory other = ⊥

-- what a reader of words answers is what they ask for, unless memory ran out
abbrev pub TellsCommand : Result Command UsageKind → Result Command WordsFault → Type 0
TellsCommand wanted (Ok command) = wanted ≡ Ok command
TellsCommand wanted (Err (fault.Usage kind)) = wanted ≡ Err kind
TellsCommand wanted (Err fault.NoMemory) = MayWantMemory wanted

-- the status of words that ask for nothing; where they are those of a run, unless memory ran out
abbrev pub IsUsage : UsageKind → Status → Type 0
IsUsage RunWords answer = (answer ≡ status.Usage RunWords) ⊎ (answer ≡ status.NoMemory)
IsUsage kind answer = answer ≡ status.Usage kind

-- where the words ask for a command that reads an input, this is true of it; and where they ask for one that draws, of it
-- and of its number
abbrev pub IfReads : Result Command UsageKind → (Reading → Type 0) → Type 0
IfReads (Ok (Read reading)) Fact = Fact reading
IfReads other Fact = Unit {0}

abbrev pub IfDraws : Result Command UsageKind → (Drawing → ℕ → Type 0) → Type 0
IfDraws (Ok (Draw drawing number)) Fact = Fact drawing number
IfDraws other Fact = Unit {0}

-- this is true where the words don't ask for a run
abbrev pub UnlessRun : Result Command UsageKind → Type 0 → Type 0
UnlessRun (Ok (Read (Run tries))) Fact = Unit {0}
UnlessRun other Fact = Fact

abbrev pub UnlessRuns : Reading → Type 0 → Type 0
UnlessRuns reading Fact = UnlessRun (Ok (Read reading)) Fact

-- an answer that comes before anything is done of what was read
abbrev pub IsOfReading : Status → Type 0
IsOfReading (status.BadInput place kind) = Unit {0}
IsOfReading status.TooLong = Unit {0}
IsOfReading status.ReadFault = Unit {0}
IsOfReading other = ⊥
