-- Numbers in text: one or more decimal digits, leading zeros too.
use Rattle.std.specs.Prelude.{◌≡◌, ℕ, ◌+◌, ◌-◌, ◌*◌, ◌<◌, ◌≤◌, ◌^◌, Bool, false, ◌&&◌, nat_eq, nat_le, nat_lt, if◌then◌else◌, ℤ, pos, neg_ℤ, List, length, take, drop, take_while, slice_index, fold, codes, Option, Some, None, Result, Ok, Err, suc}
use Rattle.std.specs.Char.{is_ascii_digit}
use Rattle.std.specs.Int.RustNames.{unsigned_abs}
use Rattle.std.specs.List.{list_all, starts_with}
use Rattle.std.specs.Option.{option_map}
use Rattle.tact_base.specs.declared.numbers.NumberFault.{NumberFault}
use Rattle.tact_base.specs.declared.numbers.NumberFault.TheVariants.{Empty, NotDigit, TooLarge}
use Rattle.tact_base.specs.declared.tokens.TokenFault.{TokenFault}
use Rattle.tact_base.specs.declared.tokens.TokenFault.TheVariants.{NotNumber, OutOfRange}

-- what decimal digits say, the bytes 48 to 57
abbrev pub decimal_value : List ℕ → ℕ
decimal_value digits = fold (λ value digit. 10 * value + (digit - 48)) 0 digits

-- the digits that stand from a place on, up to the first byte that is none
abbrev pub digits_from : List ℕ → ℕ → List ℕ
digits_from bytes place = take_while is_ascii_digit (drop place bytes)

-- the value first passes 2^64 - 1 at the digit at k
pub record PassesAt (digits : List ℕ) (k : ℕ) : Type 0 where
  pub within : k < length digits
  pub before : decimal_value (take k digits) < 2 ^ 64
  pub at : 2 ^ 64 ≤ decimal_value (take (suc k) digits)

-- What is answered to a read at a place, and the place after it.
abbrev pub ReadsNumber : List ℕ → ℕ → Result ℕ NumberFault → ℕ → Type 0
ReadsNumber bytes place (Ok value) after =
    (0 < length (digits_from bytes place)) × (decimal_value (digits_from bytes place) < 2 ^ 64)
    × (value ≡ decimal_value (digits_from bytes place)) × (after ≡ place + length (digits_from bytes place))
ReadsNumber bytes place (Err Empty) after = (place ≡ length bytes) × (after ≡ place)
ReadsNumber bytes place (Err (NotDigit at)) after =
    (place < length bytes) × (is_ascii_digit (slice_index bytes place) ≡ false) × (at ≡ place) × (after ≡ place)
ReadsNumber bytes place (Err (TooLarge at)) after =
    (k : ℕ) × PassesAt (digits_from bytes place) k × (at ≡ place + k) × (after ≡ place)

-- whether a whole token is a number: one or more digits and nothing else
abbrev pub is_number : List ℕ → Bool
is_number token = nat_lt 0 (length token) && list_all is_ascii_digit token

-- the number that a whole token is, if it is one
abbrev pub number_of : List ℕ → Option ℕ
number_of token = if is_number token then Some (decimal_value token) else None

-- the signed number that a whole token is, if it is one: a number with at most one `-` before it
abbrev pub signed_of : List ℕ → Option ℤ
signed_of token =
    if starts_with nat_eq token (codes "-") then option_map (λ value. neg_ℤ (pos value)) (number_of (drop 1 token))
    else option_map pos (number_of token)

-- what is answered to a token by the number that it is, if it is one, and its field's range
abbrev pub token_answer : {N : Type 0} → (N → Bool) → Option N → Result N TokenFault
token_answer in_range None = Err NotNumber
token_answer in_range (Some value) = if in_range value then Ok value else Err OutOfRange

-- what is answered to a token in a field whose greatest number is `most`
abbrev pub whole_number : List ℕ → ℕ → Result ℕ TokenFault
whole_number token most = token_answer (λ value. nat_le value most) (number_of token)

-- what is answered to a token in a field whose numbers go from `-size` to `size`
abbrev pub whole_signed : List ℕ → ℕ → Result ℤ TokenFault
whole_signed token size = token_answer (λ value. nat_le (unsigned_abs value) size) (signed_of token)
