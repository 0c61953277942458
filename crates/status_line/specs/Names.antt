-- The names that kinds have in the line of a status.
use Rattle.std.specs.Prelude.{ℕ, List, codes}
use Rattle.run_model.specs.declared.status.UsageKind.{UsageKind}
use Rattle.run_model.specs.declared.status.UsageKind.TheVariants as usage
use Rattle.run_model.specs.declared.status.LineKind.{LineKind}
use Rattle.run_model.specs.declared.status.LineKind.TheVariants as line
use Rattle.run_model.specs.declared.status.ByteKind.{ByteKind}
use Rattle.run_model.specs.declared.status.ByteKind.TheVariants as byte
use Rattle.run_model.specs.declared.status.LoadKind.{LoadKind}
use Rattle.run_model.specs.declared.status.LoadKind.TheVariants as load
use Rattle.run_model.specs.declared.status.InputKind.{InputKind}
use Rattle.run_model.specs.declared.status.InputKind.TheVariants as input

-- why words are no command
abbrev pub usage_name : UsageKind → List ℕ
usage_name usage.NoCommand = codes "NoCommand"
usage_name usage.UnknownCommand = codes "UnknownCommand"
usage_name usage.ExtraWord = codes "ExtraWord"
usage_name usage.MissingNumber = codes "MissingNumber"
usage_name usage.BadNumber = codes "BadNumber"
usage_name usage.RunWords = codes "RunWords"

-- the fault of a line of a text
abbrev pub line_name : LineKind → List ℕ
line_name line.TooManyLines = codes "TooManyLines"
line_name line.LongLine = codes "LongLine"
line_name line.BadByte = codes "BadByte"
line_name line.NoStart = codes "NoStart"
line_name line.SecondStart = codes "SecondStart"
line_name line.BadHeader = codes "BadHeader"
line_name line.AfterEnd = codes "AfterEnd"
line_name line.UnknownWord = codes "UnknownWord"
line_name line.Missing = codes "Missing"
line_name line.NotNumber = codes "NotNumber"
line_name line.OutOfRange = codes "OutOfRange"
line_name line.SameReplica = codes "SameReplica"
line_name line.Unordered = codes "Unordered"
line_name line.Extra = codes "Extra"
line_name line.LoansOver = codes "LoansOver"
line_name line.LateBound = codes "LateBound"
line_name line.NoMessage = codes "NoMessage"
line_name line.WrongCount = codes "WrongCount"
line_name line.MissingEnd = codes "MissingEnd"

-- the fault of a record in bytes
abbrev pub byte_name : ByteKind → List ℕ
byte_name byte.Short = codes "Short"
byte_name byte.BadField = codes "BadField"
byte_name byte.LoansOver = codes "LoansOver"
byte_name byte.WrongCount = codes "WrongCount"
byte_name byte.AfterEnd = codes "AfterEnd"

-- the fault of a workload
abbrev pub load_name : LoadKind → List ℕ
load_name load.NotJson = codes "NotJson"
load_name load.Shape = codes "Shape"
load_name load.Range = codes "Range"
load_name load.Twice = codes "Twice"
load_name load.LoansOver = codes "LoansOver"
load_name load.Same = codes "Same"
load_name load.Unordered = codes "Unordered"

-- the fault of an input, by what was read
abbrev pub input_name : InputKind → List ℕ
input_name (input.Line kind) = line_name kind
input_name (input.Bytes kind) = byte_name kind
input_name (input.Load kind) = load_name kind
