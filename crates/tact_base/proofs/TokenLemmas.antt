-- Tokens that are read as numbers.
use Rattle.std.proofs.Common.{◌≡◌, ℕ, ◌+◌, ◌-◌, ◌*◌, ◌^◌, ◌<◌, ◌≤◌, suc, Bool, true, false, ltb, ◌&&◌, List, [], ◌∷◌}
use Rattle.std.proofs.Common.{length, drop, take, take_while, fold, Some, Result, Ok, Err, MatchResult, refl, sym, ap}
use Rattle.std.proofs.Common.{◌∙◌, ⊎_elim, arith}
use Rattle.std.specs.List.{prefix_len, list_all}
use Rattle.std.specs.Char.{is_ascii_digit}
use Rattle.std.proofs.lemmas.Bool.{cases_lt, false≢true, le-leb, lt-leb, lt-ltb, ltb-true}
use Rattle.std.proofs.lemmas.List.{take_all, take-append-drop}
use Rattle.std.proofs.lemmas.List.Sums.{fold-append, prefix_len_stops}
use Rattle.std.proofs.lemmas.List.Folds.{list_all_at}
use Rattle.tact_base.specs.Numbers.{decimal_value, ReadsNumber, is_number, number_of, whole_number}
use Rattle.tact_base.specs.declared.numbers.NumberFault.{NumberFault}
use Rattle.tact_base.specs.declared.numbers.NumberFault.TheVariants.{Empty, NotDigit, TooLarge}
use Rattle.tact_base.specs.declared.tokens.TokenFault.TheVariants.{OutOfRange}

-- further digits make a number no smaller
fold-le : (digits : List ℕ) (value : ℕ)
    → value ≤ fold (λ value digit. 10 * value + (digit - 48)) value digits
fold-le [] value = omega arith
fold-le (digit ∷ digits) value = omega (arith, fold-le digits (10 * value + (digit - 48)))

-- the first digits of a number say no more than all
pub decimal_value-take-le : (k : ℕ) (digits : List ℕ)
    → decimal_value (take k digits) ≤ decimal_value digits
decimal_value-take-le k digits =
    let value = decimal_value (take k digits) in
    let whole : fold (λ value digit. 10 * value + (digit - 48)) value (drop k digits) ≡ decimal_value digits =
    sym (fold-append (λ value digit. 10 * value + (digit - 48)) 0 (take k digits) (drop k digits)) ∙ ap decimal_value (take-append-drop k digits) in
    omega (arith, fold-le (drop k digits) value)

-- where all are digits, all are the digits at the front
pub take_while-all : (token : List ℕ)
    → list_all is_ascii_digit token ≡ true
    → take_while is_ascii_digit token ≡ token
take_while-all token digits =
    let n = prefix_len is_ascii_digit token in
    take_all n token (⊎_elim
    (λ lt. absurd (false≢true (sym (list_all_at is_ascii_digit token n 0 lt (prefix_len_stops is_ascii_digit token 0 lt)) ∙ digits)))
    (λ (le : length token ≤ n). le)
    (cases_lt n (length token)))

-- both tests hold
both_true : (a b : Bool) → (a && b) ≡ true → (a ≡ true) × (b ≡ true)
both_true true b h = (refl, h)
both_true false b h = absurd (false≢true h)

-- A token that is a number.
module _ (token : List ℕ) (most : ℕ) (number : is_number token ≡ true) where
  -- it has a digit
  number_some : 0 < length token
  number_some = ltb-true 0 (length token) (both_true (ltb 0 (length token)) (list_all is_ascii_digit token) number).0

  -- it has digits alone
  number_digits : list_all is_ascii_digit token ≡ true
  number_digits = (both_true (ltb 0 (length token)) (list_all is_ascii_digit token) number).1

  -- it is the number that they say
  number_of_digits : number_of token ≡ Some (decimal_value token)
  number_of_digits = rw (lt-ltb 0 (length token) number_some, number_digits)

  -- it is in its field's range
  pub whole_number-within : decimal_value token ≤ most
      → whole_number token most ≡ Ok (decimal_value token)
  whole_number-within within = rw (number_of_digits, le-leb (decimal_value token) most within)

  -- it is out of its field's range
  pub whole_number-above : most < decimal_value token → whole_number token most ≡ Err OutOfRange
  whole_number-above above = rw (number_of_digits, lt-leb (decimal_value token) most above)

  -- what is read at its front is it, or it is too large
  pub read_whole : (read : Result ℕ NumberFault) (after : ℕ)
      → most < 2 ^ 64
      → ReadsNumber token 0 read after →
      MatchResult read (λ value. value ≡ decimal_value token) (λ _. most < decimal_value token)
  read_whole (Ok value) after fits reads = reads.2 ∙ ap decimal_value (take_while-all token number_digits)
  read_whole (Err Empty) after fits reads = let some = number_some in omega arith
  read_whole (Err (NotDigit at)) after fits reads =
      absurd (false≢true (sym (list_all_at is_ascii_digit token 0 0 number_some reads.1) ∙ number_digits))
  read_whole (Err (TooLarge at)) after fits (k, passes, at_is, after_is) =
      let more : decimal_value (take (suc k) (take_while is_ascii_digit token)) ≤ decimal_value token =
      rw (take_while-all token number_digits) (decimal_value-take-le (suc k) token) in
      omega (arith, passes.at)
