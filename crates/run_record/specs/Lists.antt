-- Lists in a line: of weights, of needs, and rows of numbers.
use Rattle.std.specs.Prelude.{ℕ, ◌-◌, ◌==◌, zero, suc, nat_eq, nat_lt, Bool, true, false, List, [], ◌∷◌, codes, replicate, Option, Some, None, Result, Ok, Err, if◌then◌else◌}
use Rattle.std.specs.Cmp.Lexicographic.{pointwise}
use Rattle.std.specs.Option.{option_map}
use Rattle.tact_base.specs.Numbers.{whole_number, whole_signed}
use Rattle.tact_base.specs.declared.conit_list.Need.{Need}
use Rattle.tact_base.specs.declared.conit_list.Weight.{Weight}
use Rattle.tact_base.specs.declared.limits.TheConstants.{AMOUNT_MAX, HISTORY_MAX, LIST_MAX, MOMENT_MAX, WEIGHT_MAX}
use Rattle.tact_base.specs.declared.tokens.TokenFault.{TokenFault}
use Rattle.tact_base.specs.declared.tokens.TokenFault.TheVariants as token
use Rattle.run_model.specs.declared.status.LineKind.{LineKind}
use Rattle.run_model.specs.declared.status.LineKind.TheVariants.{NotNumber, Unordered}
use Rattle.run_record.specs.declared.lists.ListEnd.{ListEnd}
use Rattle.run_record.specs.declared.lists.ListEnd.TheVariants as ending
use Rattle.run_record.specs.Fields.{◌>>=◌, Tokens, Field, token_at, in_line, number_at}
use Rattle.run_record.specs.Splitting.{with_front}

-- the parts of a token between its colons, one more than it has colons
abbrev pub parts_of : List ℕ → List (List ℕ)
parts_of [] = [] ∷ []
parts_of (byte ∷ bytes) = if byte == 58 then [] ∷ parts_of bytes else with_front byte (parts_of bytes)

-- Numbers of one token: that one isn't a number is tried before that one is out of its range.
abbrev pub both : {A B : Type 0} → Result A TokenFault → Result B TokenFault → Result (A × B) TokenFault
both (Ok x) (Ok y) = Ok (x, y)
both (Ok x) (Err fault) = Err fault
both (Err token.NotNumber) second = Err token.NotNumber
both (Err token.OutOfRange) (Err token.NotNumber) = Err token.NotNumber
both (Err token.OutOfRange) second = Err token.OutOfRange

-- just three parts, and just four
abbrev pub three_of : {A : Type 0} → List A → Option (A × A × A)
three_of (x ∷ y ∷ z ∷ []) = Some (x, y, z)
three_of other = None

abbrev pub four_of : {A : Type 0} → List A → Option (A × A × A × A)
four_of (x ∷ rest) = option_map (λ three. (x, three.0, three.1, three.2)) (three_of rest)
four_of [] = None

-- `CONIT:NWEIGHT:OWEIGHT`, by its parts
abbrev pub weight_by : ℕ → Option (List ℕ × List ℕ × List ℕ) → Result Weight LineKind
weight_by conits (Some (conit, nweight, oweight)) = do
  numbers ← in_line (both (whole_number conit (conits - 1)) (both (whole_signed nweight WEIGHT_MAX) (whole_number oweight WEIGHT_MAX)))
  Ok (record { conit = numbers.0; nweight = numbers.1.0; oweight = numbers.1.1 })
weight_by conits None = Err NotNumber

unfoldable pub weight_of : ℕ → List ℕ → Result Weight LineKind
weight_of conits token = weight_by conits (three_of (parts_of token))

-- `CONIT:NUM:ORDER:STALE`, by its parts
abbrev pub need_by : ℕ → Option (List ℕ × List ℕ × List ℕ × List ℕ) → Result Need LineKind
need_by conits (Some (conit, num, order, stale)) = do
  numbers ← in_line (both (whole_number conit (conits - 1)) (both (whole_number num AMOUNT_MAX) (both (whole_number order AMOUNT_MAX) (whole_number stale MOMENT_MAX))))
  Ok (record { conit = numbers.0; num = numbers.1.0; order = numbers.1.1.0; stale = numbers.1.1.1 })
need_by conits None = Err NotNumber

unfoldable pub need_of : ℕ → List ℕ → Result Need LineKind
need_of conits token = need_by conits (four_of (parts_of token))

-- a weight, and a need, whose conit is at least `least`, which the one before doesn't reach
unfoldable pub weight_at : ℕ → ℕ → Tokens → Field Weight
weight_at conits least tokens = do
  token ← token_at tokens
  weight ← weight_of conits token.0
  if nat_lt weight.conit least then Err Unordered else Ok (weight, token.1)

unfoldable pub need_at : ℕ → ℕ → Tokens → Field Need
need_at conits least tokens = do
  token ← token_at tokens
  need ← need_of conits token.0
  if nat_lt need.conit least then Err Unordered else Ok (need, token.1)

-- where a list ends before it is full: at the end of the line, or at the token `=` too
abbrev pub is_end : ListEnd → Tokens → Bool
is_end end [] = true
is_end ending.Line (token ∷ rest) = false
is_end ending.Equals (token ∷ rest) = pointwise nat_eq token (codes "=")

-- At most so many items one after the other. Each is read with the least number that it may begin with, which follows
-- from the one before.
unfoldable pub list_at : {A : Type 0} → (ℕ → Tokens → Field A) → (A → ℕ) → (Tokens → Bool) → ℕ → ℕ → Tokens → Field (List A)
list_at item after ends zero least tokens = Ok ([], tokens)
list_at item after ends (suc room) least tokens =
    if ends tokens then Ok ([], tokens)
    else do
      first ← item least tokens
      others ← list_at item after ends room (after first.0) first.1
      Ok (first.0 ∷ others.0, others.1)

-- weights, and needs, at most four with rising conits
abbrev pub weights_at : ℕ → ListEnd → Tokens → Field (List Weight)
weights_at conits end = list_at (weight_at conits) (λ weight. suc weight.conit) (is_end end) LIST_MAX 0

abbrev pub needs_at : ℕ → ListEnd → Tokens → Field (List Need)
needs_at conits end = list_at (need_at conits) (λ need. suc need.conit) (is_end end) LIST_MAX 0

-- just so many numbers of at most `most`
abbrev pub numbers_at : ℕ → ℕ → Tokens → Field (List ℕ)
numbers_at most count = list_at (λ least. number_at most) (λ number. 0) (λ tokens. false) count 0

-- the firsts of a sending: a number for each replica, or none, which is zeros
unfoldable pub firsts_at : ℕ → Tokens → Field (List ℕ)
firsts_at replicas [] = Ok (replicate replicas 0, [])
firsts_at replicas (token ∷ rest) = numbers_at HISTORY_MAX replicas (token ∷ rest)
