-- The line that tells how a command ended.
use Rattle.std.specs.Prelude.{ℕ, List, [], ◌∷◌, ◌++◌, codes, decimal}
use Rattle.run_model.specs.Text.{spaced}
use Rattle.run_model.specs.declared.status.Status.{Status}
use Rattle.run_model.specs.declared.status.Status.TheVariants.{Done, Bad, Usage, BadInput, TooLong, Full, JournalFault, JournalForeign, ReadFault, WriteFault, NoMemory}
use Rattle.status_line.specs.Names.{usage_name, input_name}

-- a line of the program: its name with a colon, tokens with a space before each, and a line feed
abbrev pub told_text : List (List ℕ) → List ℕ
told_text tokens = codes "tactcli:" ++ spaced tokens ++ 10 ∷ []

-- the line of a status, with its line feed: its name, its numbers, and the name of its innermost kind. Of Done and Bad
-- there is none: what they are stands in the output.
abbrev pub status_text : Status → List ℕ
status_text Done = []
status_text (Bad entry cause) = []
status_text (Usage kind) = told_text (codes "Usage" ∷ usage_name kind ∷ [])
status_text (BadInput place kind) = told_text (codes "BadInput" ∷ decimal place ∷ input_name kind ∷ [])
status_text TooLong = told_text (codes "TooLong" ∷ [])
status_text ReadFault = told_text (codes "ReadFault" ∷ [])
status_text WriteFault = told_text (codes "WriteFault" ∷ [])
status_text (JournalFault replica) = told_text (codes "JournalFault" ∷ decimal replica ∷ [])
status_text (Full replica count clock) = told_text (codes "Full" ∷ decimal replica ∷ decimal count ∷ decimal clock ∷ [])
status_text NoMemory = told_text (codes "NoMemory" ∷ [])
status_text (JournalForeign replica place) = told_text (codes "JournalForeign" ∷ decimal replica ∷ decimal place ∷ [])
