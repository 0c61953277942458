-- The fields of a line: each is a value and the tokens after it, or the first fault from the left.
use Rattle.std.specs.Prelude.{◌≡◌, ℕ, ◌-◌, ℤ, ◌==◌, nat_lt, nat_eq, List, [], ◌∷◌, codes, Result, Ok, Err, if◌then◌else◌}
use Rattle.std.specs.Cmp.Lexicographic.{pointwise}
use Rattle.tact_base.specs.Numbers.{whole_number, whole_signed}
use Rattle.tact_base.specs.declared.limits.TheConstants.{KEY_MAX, VALUE_MAX, CLIENTS}
use Rattle.tact_base.specs.declared.tokens.TokenFault.{TokenFault}
use Rattle.tact_base.specs.declared.tokens.TokenFault.TheVariants as token
use Rattle.tact_base.specs.declared.write.Op.{Op}
use Rattle.tact_base.specs.declared.write.Op.TheVariants.{Put, Add, Shift}
use Rattle.run_model.specs.declared.status.LineKind.{LineKind}
use Rattle.run_model.specs.declared.status.LineKind.TheVariants.{Missing, UnknownWord, NotNumber, OutOfRange, SameReplica}
use Rattle.run_record.specs.declared.line_fault.LineFault.{LineFault}
use Rattle.run_record.specs.declared.line_fault.LineFault.TheVariants as faults

infixl 10 ◌>>=◌
abbrev pub ◌>>=◌ : {A B : Type 0} → Result A LineKind → (A → Result B LineKind) → Result B LineKind
(Ok x) >>= f = f x
(Err kind) >>= f = Err kind

-- what a function returned, seen by view, is what reading gives, unless memory ran out
abbrev pub Fails : {Y : Type 0} → LineFault → Result Y LineKind → Type 0
Fails faults.NoMemory read = Unit {0}
Fails (faults.Kind kind) read = read ≡ Err kind

abbrev pub Gives : {X Y : Type 0} → (X → Y) → Result X LineFault → Result Y LineKind → Type 0
Gives view (Ok x) read = read ≡ Ok (view x)
Gives view (Err fault) read = Fails fault read

abbrev pub Tokens : Type 0
Tokens = List (List ℕ)

abbrev pub Field : Type 0 → Type 0
Field A = Result (A × Tokens) LineKind

-- any token
unfoldable pub token_at : Tokens → Field (List ℕ)
token_at [] = Err Missing
token_at (token ∷ rest) = Ok (token, rest)

-- what the number of a token is in a line
abbrev pub kind_of : TokenFault → LineKind
kind_of token.NotNumber = NotNumber
kind_of token.OutOfRange = OutOfRange

abbrev pub in_line : {A : Type 0} → Result A TokenFault → Result A LineKind
in_line (Ok x) = Ok x
in_line (Err fault) = Err (kind_of fault)

-- a number of at most `most`
unfoldable pub number_at : ℕ → Tokens → Field ℕ
number_at most tokens = do
  token ← token_at tokens
  number ← in_line (whole_number token.0 most)
  Ok (number, token.1)

-- a number from `least` to `most`
unfoldable pub count_at : ℕ → ℕ → Tokens → Field ℕ
count_at least most tokens = do
  number ← number_at most tokens
  if nat_lt number.0 least then Err OutOfRange else Ok number

-- a number from -size to size
unfoldable pub signed_at : ℕ → Tokens → Field ℤ
signed_at size tokens = do
  token ← token_at tokens
  number ← in_line (whole_signed token.0 size)
  Ok (number, token.1)

-- one of the replicas below `replicas`
abbrev pub replica_at : ℕ → Tokens → Field ℕ
replica_at replicas tokens = number_at (replicas - 1) tokens

-- one that isn't `first`
unfoldable pub other_replica_at : ℕ → ℕ → Tokens → Field ℕ
other_replica_at replicas first tokens = do
  second ← replica_at replicas tokens
  if second.0 == first then Err SameReplica else Ok second

-- one of a replica's clients
abbrev pub client_at : Tokens → Field ℕ
client_at tokens = number_at (CLIENTS - 1) tokens

-- `put KEY VALUE`, `add KEY DELTA` or `shift KEY KEY AMOUNT`
unfoldable pub put_at : Tokens → Field Op
put_at tokens = do
  key ← number_at KEY_MAX tokens
  value ← signed_at VALUE_MAX key.1
  Ok (Put key.0 value.0, value.1)

unfoldable pub add_at : Tokens → Field Op
add_at tokens = do
  key ← number_at KEY_MAX tokens
  delta ← signed_at VALUE_MAX key.1
  Ok (Add key.0 delta.0, delta.1)

unfoldable pub shift_at : Tokens → Field Op
shift_at tokens = do
  from ← number_at KEY_MAX tokens
  to ← number_at KEY_MAX from.1
  amount ← number_at VALUE_MAX to.1
  Ok (Shift from.0 to.0 amount.0, amount.1)

unfoldable pub op_at : Tokens → Field Op
op_at tokens = do
  word ← token_at tokens
  if pointwise nat_eq word.0 (codes "put") then put_at word.1
      else if pointwise nat_eq word.0 (codes "add") then add_at word.1
      else if pointwise nat_eq word.0 (codes "shift") then shift_at word.1
      else Err UnknownWord

-- no token follows; one that does is of this kind
unfoldable pub end_at : LineKind → Tokens → Result (Unit {0}) LineKind
end_at kind [] = Ok tt
end_at kind (token ∷ rest) = Err kind
