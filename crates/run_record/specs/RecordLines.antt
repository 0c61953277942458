-- The record that a text is: what each line says after those before it, or the first line at fault and its first fault.
use Rattle.std.specs.Prelude.{◌≡◌, ℕ, zero, suc, ◌+◌, ◌*◌, ◌/◌, ◌%◌, ◌==◌, Bool, false, nat_eq, nat_lt, List, [], ◌∷◌, ◌++◌, codes, length, sum, Option, Some, None, Result, Ok, Err, if◌then◌else◌}
use Rattle.std.specs.Cmp.Lexicographic.{pointwise}
use Rattle.std.specs.Option.{option_map_or}
use Rattle.tact_base.specs.Numbers.{number_of}
use Rattle.tact_base.specs.Setup.{Setup}
use Rattle.tact_base.specs.declared.limits.TheConstants.{ALPHA_MAX, CONITS_MAX, REPLICAS_MAX, REPLICAS_MIN}
use Rattle.run_model.specs.declared.status.LineKind.{LineKind}
use Rattle.run_model.specs.declared.status.LineKind.TheVariants.{AfterEnd, BadHeader, Extra, LoansOver, MissingEnd, UnknownWord, WrongCount}
use Rattle.run_record.specs.declared.body_lines.BodyLine.{BodyLine}
use Rattle.run_record.specs.declared.body_lines.BodyLine.TheVariants as body
use Rattle.run_record.specs.declared.fault.RecordFault.{RecordFault}
use Rattle.run_record.specs.declared.fault.RecordFault.TheVariants as fault
use Rattle.run_record.specs.declared.line_fault.LineFault.{LineFault}
use Rattle.run_record.specs.declared.line_fault.LineFault.TheVariants as line
use Rattle.run_record.specs.declared.parts.Bound.{Bound}
use Rattle.run_record.specs.declared.parts.Counts.{Counts}
use Rattle.run_record.specs.declared.short.Short.{Short}
use Rattle.run_record.specs.Records.{Held, IsShortOf}
use Rattle.run_record.specs.RecordAt.{setup_from}
use Rattle.run_record.specs.Splitting.{raw_lines, tokens}
use Rattle.run_record.specs.Fields.{◌>>=◌, Tokens, Field, token_at, number_at, count_at, end_at}
use Rattle.run_record.specs.Lines.{fault_of_bytes, is_skipped}
use Rattle.run_record.specs.CallTokens.{any_number_at, word_due}
use Rattle.run_record.specs.ActTokens.{entry_line}

-- ---- the lines of the setup

-- `tact 1 REPLICAS CONITS`
unfoldable pub header_line : Tokens → Result Counts LineKind
header_line tokens = do
  tact ← word_due (codes "tact") BadHeader tokens
  version ← word_due (codes "1") BadHeader tact
  replicas ← count_at REPLICAS_MIN REPLICAS_MAX version
  conits ← count_at 1 CONITS_MAX replicas.1
  end ← end_at Extra conits.1
  Ok (record { replicas = replicas.0; conits = conits.0 })

-- whether a token is a number, leading zeros or not
abbrev pub says : ℕ → List ℕ → Bool
says due token = option_map_or (λ number. number == due) (number_of token) false

-- the tokens after a number that must stand
unfoldable pub number_due : ℕ → Tokens → Result Tokens LineKind
number_due due tokens = do
  token ← token_at tokens
  if says due token.0 then Ok token.1 else Err BadHeader

-- The loans of an owner to so many holders, from one on. To itself it lends nothing.
abbrev pub loan_most : ℕ → ℕ → ℕ
loan_most owner holder = if holder == owner then 0 else ALPHA_MAX

unfoldable pub loans_at : ℕ → ℕ → ℕ → Tokens → Field (List ℕ)
loans_at owner zero holder tokens = Ok ([], tokens)
loans_at owner (suc count) holder tokens = do
  loan ← number_at (loan_most owner holder) tokens
  others ← loans_at owner count (suc holder) loan.1
  Ok (loan.0 ∷ others.0, others.1)

-- `bound OWNER CONIT ALPHA LOAN..` of this owner and conit, a loan for each holder
unfoldable pub bound_fields : ℕ → ℕ → ℕ → Tokens → Result Bound LineKind
bound_fields replicas owner conit tokens = do
  word ← word_due (codes "bound") BadHeader tokens
  first ← number_due owner word
  second ← number_due conit first
  alpha ← number_at ALPHA_MAX second
  loans ← loans_at owner replicas 0 alpha.1
  end ← end_at Extra loans.1
  Ok (record { alpha = alpha.0; loans = loans.0 })

-- once the whole line is there, its loans don't pass its alpha
unfoldable pub bound_line : ℕ → ℕ → ℕ → Tokens → Result Bound LineKind
bound_line replicas owner conit tokens = do
  bound ← bound_fields replicas owner conit tokens
  if nat_lt bound.alpha (sum bound.loans) then Err LoansOver else Ok bound

-- ---- the lines behind it

-- `end COUNT`, behind its word, with the count of the entries
unfoldable pub end_line : ℕ → Tokens → Result (Unit {0}) LineKind
end_line count tokens = do
  told ← any_number_at tokens
  end ← end_at Extra told.1
  if told.0 == count then Ok tt else Err WrongCount

-- an entry, or the end after so many of them
unfoldable pub body_line : ℕ → ℕ → ℕ → Tokens → Result BodyLine LineKind
body_line replicas conits count tokens = do
  word ← token_at tokens
  if pointwise nat_eq word.0 (codes "e") then (entry_line replicas conits word.1 >>= λ short. Ok (body.Entry short))
      else if pointwise nat_eq word.0 (codes "end") then (end_line count word.1 >>= λ ends. Ok body.End)
      else Err UnknownWord

-- an entry in range, or the end
abbrev pub IsBodyOf : Setup → BodyLine → Type 0
IsBodyOf setup (body.Entry short) = IsShortOf setup short
IsBodyOf setup body.End = Unit {0}

-- ---- the whole text

-- How far a record was read: not at all; its counts and bounds so far; its setup and entries so far; to its end.
pub data Stage : Type 0 where
  Before : Stage
  Bounds : Counts → List Bound → Stage
  Entries : Setup → List Short → Stage
  Whole : Held → Stage

-- after one more bound: once they all are there, the entries follow
abbrev pub with_bounds : Counts → List Bound → Stage
with_bounds counts bounds =
    if length bounds == counts.replicas * counts.conits then Entries (setup_from counts bounds) [] else Bounds counts bounds

-- after one more line of the body
abbrev pub with_body : Setup → List Short → BodyLine → Stage
with_body setup entries (body.Entry short) = Entries setup (entries ++ short ∷ [])
with_body setup entries body.End = Whole (record { setup = setup; entries = entries })

-- after a line that isn't skipped
unfoldable pub line_after : Stage → Tokens → Result Stage LineKind
line_after Before tokens = header_line tokens >>= λ counts. Ok (Bounds counts [])
line_after (Bounds counts bounds) tokens =
    bound_line counts.replicas (length bounds / counts.conits) (length bounds % counts.conits) tokens
    >>= λ bound. Ok (with_bounds counts (bounds ++ bound ∷ []))
line_after (Entries setup entries) tokens =
    body_line setup.replicas setup.conits (length entries) tokens >>= λ said. Ok (with_body setup entries said)
line_after (Whole held) tokens = Err AfterEnd

-- after any line
abbrev pub unless : Option LineKind → Result Stage LineKind → Result Stage LineKind
unless None read = read
unless (Some kind) read = Err kind

unfoldable pub lines_after : Stage → List ℕ → Result Stage LineKind
lines_after stage raw =
    unless (fault_of_bytes raw)
    (if is_skipped (tokens raw) then Ok stage else line_after stage (tokens raw))

-- what was read up to the end of the text, before the line of this number
abbrev pub ended : ℕ → Stage → Result Held (ℕ × LineKind)
ended number Before = Err (number, BadHeader)
ended number (Bounds counts bounds) = Err (number, BadHeader)
ended number (Entries setup entries) = Err (number, MissingEnd)
ended number (Whole held) = Ok held

-- a text that ends at this stage is at fault by this kind
abbrev pub EndsBy : LineKind → Stage → Type 0
EndsBy kind stage = (number : ℕ) → ended number stage ≡ Err (number, kind)

-- a record that goes on with these lines of the text, of which the first has this number
abbrev pub goes_on : (Stage → Result Held (ℕ × LineKind)) → ℕ → Result Stage LineKind → Result Held (ℕ × LineKind)
goes_on rest number (Ok stage) = rest stage
goes_on rest number (Err kind) = Err (number, kind)

abbrev pub read_from : ℕ → Stage → List (List ℕ) → Result Held (ℕ × LineKind)
read_from number stage [] = ended number stage
read_from number stage (raw ∷ raws) = goes_on (λ next. read_from (number + 1) next raws) number (lines_after stage raw)

-- how a text is read from a line of this number on, if there is one that isn't skipped: by it, and then by what is left
abbrev pub read_next : Option Tokens → ℕ → List ℕ → Stage → Result Held (ℕ × LineKind)
read_next None number rest stage = ended number stage
read_next (Some here) number rest stage = goes_on (λ next. read_from (number + 1) next (raw_lines rest)) number (line_after stage here)

-- the record that a text is, or the number of its first line at fault and the fault
unfoldable pub record_of : List ℕ → Result Held (ℕ × LineKind)
record_of text = read_from 1 Before (raw_lines text)

-- the fault of a line of this number as one of its record
abbrev pub numbered : {A : Type 0} → ℕ → Result A LineFault → Result A RecordFault
numbered number (Ok x) = Ok x
numbered number (Err line.NoMemory) = Err fault.NoMemory
numbered number (Err (line.Kind kind)) = Err (fault.Text number kind)

-- what a reader answered is what the text is, unless memory ran out
abbrev pub Reads : Result Held RecordFault → Result Held (ℕ × LineKind) → Type 0
Reads (Ok held) read = read ≡ Ok held
Reads (Err fault.NoMemory) read = Unit {0}
Reads (Err (fault.Text place kind)) read = read ≡ Err (place, kind)
Reads (Err (fault.Bytes place kind)) read = ⊥
