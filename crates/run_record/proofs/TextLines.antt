-- Lines of a record in text, one after the other, as its reader has them.
use Rattle.std.proofs.Common.{◌≡◌, ℕ, suc, ◌+◌, ◌*◌, ◌/◌, ◌%◌, ◌<◌, ◌==◌, true, false, List, [], ◌∷◌, ◌++◌, length, Some, None, Result, Ok, Err, refl, sym, ap, subst, ◌∙◌, arith, eq-eqb}
use Rattle.std.proofs.lemmas.Bool.Decides.{nat_tests}
use Rattle.tact_base.specs.Setup.{Setup}
use Rattle.run_model.specs.CallBytes.{IsRequestOf}
use Rattle.run_model.specs.declared.status.LineKind.{LineKind}
use Rattle.run_model.specs.declared.status.LineKind.TheVariants.{AfterEnd}
use Rattle.run_record.specs.declared.body_lines.BodyLine.{BodyLine}
use Rattle.run_record.specs.declared.fault.RecordFault.{RecordFault}
use Rattle.run_record.specs.declared.line_fault.LineFault.{LineFault}
use Rattle.run_record.specs.declared.line_fault.LineFault.TheVariants as line
use Rattle.run_record.specs.declared.parts.Bound.{Bound}
use Rattle.run_record.specs.declared.parts.Counts.{Counts}
use Rattle.run_record.specs.declared.short.Short.{Short}
use Rattle.run_record.specs.declared.short.ShortAct.{ShortAct}
use Rattle.run_record.specs.declared.short.ShortAct.TheVariants.{Call, Send, Take, Lend, Back, Restart}
use Rattle.run_record.specs.Records.{Held, IsActOf, IsShortOf}
use Rattle.run_record.specs.RecordAt.{setup_from}
use Rattle.run_record.specs.Splitting.{pieces_of, raw_lines, tokens}
use Rattle.run_record.specs.Fields.{Gives, Tokens}
use Rattle.run_record.specs.Lines.{fault_of_bytes, is_skipped}
use Rattle.run_record.specs.RecordLines.{Stage, Before, Bounds, Entries, Whole, Reads, body_line, bound_line, goes_on, header_line, line_after, lines_after, numbered, read_from, read_next, with_body, with_bounds}
use Rattle.run_record.proofs.SetupRows.{AreBounds, IsBound}

-- a text whose first line is `raw`
module _ (number : ℕ) (stage : Stage) (rest raw after : List ℕ) (split : pieces_of 10 rest ≡ raw ∷ pieces_of 10 after) where
  first_line : read_from number stage (raw_lines rest) ≡ goes_on (λ next. read_from (number + 1) next (raw_lines after)) number (lines_after stage raw)
  first_line = ap (λ raws. read_from number stage raws) split

  pub skips_line : None ≡ fault_of_bytes raw
      → is_skipped (tokens raw) ≡ true
      → read_from number stage (raw_lines rest) ≡ read_from (number + 1) stage (raw_lines after)
  unfolding lines_after
  skips_line good skipped = first_line ∙ rw (sym good, skipped) refl

  pub comes_to_line : None ≡ fault_of_bytes raw
      → is_skipped (tokens raw) ≡ false
      → read_from number stage (raw_lines rest) ≡ read_next (Some (tokens raw)) number after stage
  unfolding lines_after
  comes_to_line good stands = first_line ∙ rw (sym good, stands) refl

  pub faulty_line : (kind : LineKind)
      → Some kind ≡ fault_of_bytes raw
      → read_from number stage (raw_lines rest) ≡ Err (number, kind)
  unfolding lines_after
  faulty_line kind bad = first_line ∙ rw (sym bad) refl

-- ---- what a line said

abbrev good_value : {A : Type 0} → A → Result A LineFault
good_value x = Ok x

pub read_ok : {A : Type 0} (number : ℕ) (read : Result A LineFault) (x : A)
    → Ok x ≡ numbered number read
    → read ≡ Ok x
read_ok {A} number (Ok y) x is = ap good_value (sym (ok_same is))
  where
    ok_same : {a b : A} → ◌≡◌ {A = Result A RecordFault} (Ok a) (Ok b) → a ≡ b
    ok_same e = cc
read_ok number (Err line.NoMemory) x is = cc
read_ok number (Err (line.Kind kind)) x is = cc

-- a line that said something
pub said_ok : {A : Type 0} (number : ℕ) (read : Result A LineFault) (spec : Result A LineKind) (x : A)
    → Gives (λ y. y) read spec
    → Ok x ≡ numbered number read
    → spec ≡ Ok x
said_ok number (Ok y) spec x gives is = cc
said_ok number (Err line.NoMemory) spec x gives is = cc
said_ok number (Err (line.Kind kind)) spec x gives is = cc

-- a line at fault
pub said_fault : {A : Type 0} (number : ℕ) (read : Result A LineFault) (spec : Result A LineKind) (f : RecordFault) (onward : Result Stage LineKind)
    → (rest : Stage → Result Held (ℕ × LineKind))
    → Gives (λ y. y) read spec
    → Err f ≡ numbered number read
    → ((kind : LineKind) → spec ≡ Err kind → onward ≡ Err kind)
    → Reads (Err f) (goes_on rest number onward)
said_fault {A} number (Ok y) spec f onward rest gives is alike = absurd cc
said_fault {A} number (Err line.NoMemory) spec f onward rest gives is alike =
    subst (λ (g : RecordFault). Reads (Err g) (goes_on rest number onward)) (sym (err_is is)) tt
  where
    err_is : {g h : RecordFault} → ◌≡◌ {A = Result A RecordFault} (Err g) (Err h) → g ≡ h
    err_is e = cc
said_fault {A} number (Err (line.Kind kind)) spec f onward rest gives is alike =
    subst (λ (g : RecordFault). Reads (Err g) (goes_on rest number onward)) (sym (err_is is)) (ap (goes_on rest number) (alike kind gives))
  where
    err_is : {g h : RecordFault} → ◌≡◌ {A = Result A RecordFault} (Err g) (Err h) → g ≡ h
    err_is e = cc

-- a record that has ended
pub goes_past_end : (number : ℕ) (held : Held) (tokens : Tokens) (rest : List ℕ)
    → read_next (Some tokens) number rest (Whole held) ≡ Err (number, AfterEnd)
unfolding line_after
goes_past_end number held tokens rest = refl

pub reads_header : (number : ℕ) (tokens : Tokens) (rest : List ℕ) (counts : Counts)
    → header_line tokens ≡ Ok counts
    → read_next (Some tokens) number rest Before ≡ read_from (number + 1) (Bounds counts []) (raw_lines rest)
unfolding line_after
reads_header number tokens rest counts is = rw is refl

pub header_fails : (tokens : Tokens) (kind : LineKind)
    → header_line tokens ≡ Err kind
    → line_after Before tokens ≡ Err kind
unfolding line_after
header_fails tokens kind is = rw is refl

pub reads_bound : (number : ℕ) (tokens : Tokens) (rest : List ℕ) (counts : Counts) (bounds : List Bound) (bound : Bound)
    → bound_line counts.replicas (length bounds / counts.conits) (length bounds % counts.conits) tokens ≡ Ok bound
    → read_next (Some tokens) number rest (Bounds counts bounds) ≡ read_from (number + 1) (with_bounds counts (bounds ++ bound ∷ [])) (raw_lines rest)
unfolding line_after
reads_bound number tokens rest counts bounds bound is = rw is refl

pub bound_fails : (tokens : Tokens) (counts : Counts) (bounds : List Bound) (kind : LineKind)
    → bound_line counts.replicas (length bounds / counts.conits) (length bounds % counts.conits) tokens ≡ Err kind
    → line_after (Bounds counts bounds) tokens ≡ Err kind
unfolding line_after
bound_fails tokens counts bounds kind is = rw is refl

pub reads_body : (number : ℕ) (tokens : Tokens) (rest : List ℕ) (setup : Setup) (entries : List Short) (said : BodyLine)
    → body_line setup.replicas setup.conits (length entries) tokens ≡ Ok said
    → read_next (Some tokens) number rest (Entries setup entries) ≡ read_from (number + 1) (with_body setup entries said) (raw_lines rest)
unfolding line_after
reads_body number tokens rest setup entries said is = rw is refl

pub body_fails : (tokens : Tokens) (setup : Setup) (entries : List Short) (kind : LineKind)
    → body_line setup.replicas setup.conits (length entries) tokens ≡ Err kind
    → line_after (Entries setup entries) tokens ≡ Err kind
unfolding line_after
body_fails tokens setup entries kind is = rw is refl

-- ---- bounds one after the other

pub bounds_more : (replicas conits row : ℕ) (bounds : List Bound) (bound : Bound)
    → AreBounds replicas conits row bounds
    → IsBound replicas ((row + length bounds) / conits) bound
    → AreBounds replicas conits row (bounds ++ bound ∷ [])
bounds_more replicas conits row [] bound are is =
    let at : row + 0 ≡ row = omega arith in
    (subst (λ r. IsBound replicas (r / conits) bound) at is, tt)
bounds_more replicas conits row (b ∷ bs) bound are is =
    let at : row + suc (length bs) ≡ suc row + length bs = omega arith in
    (are.0, bounds_more replicas conits (suc row) bs bound are.1 (subst (λ r. IsBound replicas (r / conits) bound) at is))

pub not_all : (counts : Counts) (bounds : List Bound)
    → length bounds < counts.replicas * counts.conits
    → with_bounds counts bounds ≡ Bounds counts bounds
not_all counts bounds lt =
    let more : (length bounds == counts.replicas * counts.conits) ≡ false = grind (arith, nat_tests) in
    rw more refl

pub all_bounds : (counts : Counts) (bounds : List Bound)
    → length bounds ≡ counts.replicas * counts.conits
    → with_bounds counts bounds ≡ Entries (setup_from counts bounds) []
all_bounds counts bounds many = rw (eq-eqb _ _ many) refl

-- ---- entries

-- an act in range of a setup is in range of one with the same counts
pub act_elsewhere : (s t : Setup) (replica : ℕ) (act : ShortAct)
    → s.replicas ≡ t.replicas
    → s.conits ≡ t.conits
    → IsActOf s replica act
    → IsActOf t replica act
act_elsewhere s t replica (Call client number request reply) n m is = (is.0, is.1, subst (λ k. IsRequestOf k request) m is.2, is.3, is.4)
act_elsewhere s t replica (Send to number firsts) n m is = (omega (arith, is.0, n), is.1, is.2, is.3 ∙ n, is.4)
act_elsewhere s t replica (Take from number) n m is = (omega (arith, is.0, n), is.1, is.2)
act_elsewhere s t replica (Lend to conit amount) n m is = (omega (arith, is.0, n), is.1, omega (arith, is.2, m), is.3)
act_elsewhere s t replica (Back owner conit amount) n m is = (omega (arith, is.0, n), is.1, omega (arith, is.2, m), is.3)
act_elsewhere s t replica Restart n m is = tt

pub short_elsewhere : (s t : Setup) (short : Short)
    → s.replicas ≡ t.replicas
    → s.conits ≡ t.conits
    → IsShortOf s short
    → IsShortOf t short
short_elsewhere s t short n m is = record {
  replica = omega (arith, is.replica, n);
  moment = is.moment;
  act = act_elsewhere s t short.replica short.act n m is.act;
}
