-- What is printed as tokens is split into them again, and a number that is printed is read again.
use Rattle.std.proofs.Common.{◌≡◌, ℕ, suc, ◌+◌, ◌-◌, ◌*◌, ◌/◌, ◌%◌, ◌^◌, ◌<◌, ◌≤◌, ◌==◌, true, false, List, [], ◌∷◌, ◌++◌, length, pos, negsuc, Some, None, Ok, ◌⊎◌, inl, inr, refl, ap, ◌∙◌, arith}
use Rattle.std.specs.Prelude.{ℤ, decimal, codes, nat_eq, nat_lt, unsigned_abs, filter}
use Rattle.std.specs.Char.{is_ascii_digit}
use Rattle.std.specs.Fmt.{signed_decimal}
use Rattle.std.specs.List.{list_all, list_any, starts_with}
use Rattle.std.proofs.lemmas.Bool.{le-leb}
use Rattle.std.proofs.lemmas.Bool.Decides.{nat_tests}
use Rattle.std.proofs.lemmas.Fmt.{decimal_by_steps}
use Rattle.std.proofs.lemmas.List.{length-append, length_push}
use Rattle.std.proofs.lemmas.List.Sums.{fold_push}
use Rattle.tact_base.specs.Numbers.{decimal_value, number_of, signed_of, whole_number, whole_signed}
use Rattle.run_model.specs.Text.{line_text}
use Rattle.run_record.specs.Splitting.{has_bytes, pieces_of, tokens, with_front}
use Rattle.run_record.specs.Fronts.{Lacks}
use Rattle.run_record.specs.Lines.{fault_of_bytes, is_bad_byte}

-- ---- bytes

-- bytes of tokens: neither spaces nor bad ones
abbrev pub AreGood : List ℕ → Type 0
AreGood [] = Unit {0}
AreGood (b ∷ bs) = ((33 ≤ b) × (b ≤ 126)) × AreGood bs

pub record IsToken (token : List ℕ) : Type 0 where
  pub some : 0 < length token
  pub good : AreGood token

abbrev pub AreTokens : List (List ℕ) → Type 0
AreTokens [] = Unit {0}
AreTokens (t ∷ ts) = IsToken t × AreTokens ts

pub good_append : (xs ys : List ℕ) → AreGood xs → AreGood ys → AreGood (xs ++ ys)
good_append [] ys gx gy = gy
good_append (x ∷ xs) ys gx gy = (gx.0, good_append xs ys gx.1 gy)

-- bytes of lines of tokens
abbrev AreShown : List ℕ → Type 0
AreShown [] = Unit {0}
AreShown (b ∷ bs) = ((32 ≤ b) × (b ≤ 126)) × AreShown bs

good_shown : (xs : List ℕ) → AreGood xs → AreShown xs
good_shown [] g = tt
good_shown (x ∷ xs) g = ((omega (arith, g.0.0), g.0.1), good_shown xs g.1)

shown_append : (xs ys : List ℕ) → AreShown xs → AreShown ys → AreShown (xs ++ ys)
shown_append [] ys gx gy = gy
shown_append (x ∷ xs) ys gx gy = (gx.0, shown_append xs ys gx.1 gy)

is_not : (b s : ℕ) → s < b → (b == s) ≡ false
is_not b s lt = grind (arith, nat_tests)

good_lacks_space : (xs : List ℕ) → AreGood xs → Lacks 32 xs
good_lacks_space [] g = tt
good_lacks_space (x ∷ xs) g = (is_not x 32 (omega (arith, g.0.0)), good_lacks_space xs g.1)

shown_lacks_feed : (xs : List ℕ) → AreShown xs → Lacks 10 xs
shown_lacks_feed [] g = tt
shown_lacks_feed (x ∷ xs) g = (is_not x 10 (omega (arith, g.0.0)), shown_lacks_feed xs g.1)

not_bad : (b : ℕ) → 32 ≤ b → b ≤ 126 → is_bad_byte b ≡ false
not_bad b low high = grind (arith, nat_tests)

shown_not_bad : (xs : List ℕ) → AreShown xs → list_any is_bad_byte xs ≡ false
shown_not_bad [] g = refl
shown_not_bad (x ∷ xs) g = rw (not_bad x g.0.0 g.0.1, shown_not_bad xs g.1) refl

-- ---- pieces

pub piece_ends : (s : ℕ) (piece rest : List ℕ)
    → Lacks s piece
    → pieces_of s (piece ++ s ∷ rest) ≡ piece ∷ pieces_of s rest
piece_ends s [] rest lacks =
    let same : (s == s) ≡ true = grind (arith, nat_tests) in
    rw same refl
piece_ends s (b ∷ bs) rest lacks = rw (lacks.0, piece_ends s bs rest lacks.1) refl

pub last_piece : (s : ℕ) (piece : List ℕ)
    → 0 < length piece
    → Lacks s piece
    → pieces_of s piece ≡ piece ∷ []
last_piece s [] some lacks = absurd (omega (arith, some))
last_piece s (b ∷ []) some lacks = rw lacks.0 refl
last_piece s (b ∷ c ∷ cs) some lacks = rw lacks.0 (ap (with_front b) (last_piece s (c ∷ cs) (omega arith) lacks.1))

-- ---- tokens of a line

token_kept : (t : List ℕ) (pieces : List (List ℕ)) → 0 < length t → filter has_bytes (t ∷ pieces) ≡ t ∷ filter has_bytes pieces
token_kept [] pieces some = absurd (omega (arith, some))
token_kept (b ∷ bs) pieces some = refl

split_again : (ts : List (List ℕ)) → AreTokens ts → filter has_bytes (pieces_of 32 (line_text ts)) ≡ ts
split_again [] are = refl
split_again (t ∷ []) are =
    ap (filter has_bytes) (last_piece 32 t are.0.some (good_lacks_space t are.0.good)) ∙ token_kept t [] are.0.some
split_again (t ∷ u ∷ ts) are =
    ap (filter has_bytes) (piece_ends 32 t (line_text (u ∷ ts)) (good_lacks_space t are.0.good))
    ∙ token_kept t (pieces_of 32 (line_text (u ∷ ts))) are.0.some
    ∙ ap (λ (us : List (List ℕ)). t ∷ us) (split_again (u ∷ ts) are.1)

pub tokens_again : (ts : List (List ℕ)) → AreTokens ts → tokens (line_text ts) ≡ ts
unfolding tokens
tokens_again ts are = split_again ts are

line_shown : (ts : List (List ℕ)) → AreTokens ts → AreShown (line_text ts)
line_shown [] are = tt
line_shown (t ∷ []) are = good_shown t are.0.good
line_shown (t ∷ u ∷ ts) are = shown_append t (32 ∷ line_text (u ∷ ts)) (good_shown t are.0.good) ((omega arith, omega arith), line_shown (u ∷ ts) are.1)

pub line_lacks_feed : (ts : List (List ℕ)) → AreTokens ts → Lacks 10 (line_text ts)
line_lacks_feed ts are = shown_lacks_feed (line_text ts) (line_shown ts are)

pub line_good : (ts : List (List ℕ)) → AreTokens ts → length (line_text ts) ≤ 400 → None ≡ fault_of_bytes (line_text ts)
unfolding fault_of_bytes
line_good ts are short =
    let within : nat_lt 400 (length (line_text ts)) ≡ false = grind (arith, nat_tests) in
    rw (within, shown_not_bad (line_text ts) (line_shown ts are)) refl

pub tokens_append : (ts us : List (List ℕ)) → AreTokens ts → AreTokens us → AreTokens (ts ++ us)
tokens_append [] us gt gu = gu
tokens_append (t ∷ ts) us gt gu = (gt.0, tokens_append ts us gt.1 gu)

-- ---- how long a line is

-- the bytes of tokens, and one for the space before each
abbrev pub widths : List (List ℕ) → ℕ
widths [] = 0
widths (t ∷ ts) = 1 + length t + widths ts

pub line_width : (ts : List (List ℕ)) → length (line_text ts) ≤ widths ts
line_width [] = omega arith
line_width (t ∷ []) = omega arith
line_width (t ∷ u ∷ ts) = omega (arith, length-append t (32 ∷ line_text (u ∷ ts)), line_width (u ∷ ts))

pub widths_append : (ts us : List (List ℕ)) → widths (ts ++ us) ≡ widths ts + widths us
widths_append [] us = omega arith
widths_append (t ∷ ts) us = omega (arith, widths_append ts us)

-- ---- numbers

-- digits that say a number
abbrev AreDigits : List ℕ → Type 0
AreDigits [] = Unit {0}
AreDigits (c ∷ cs) = ((48 ≤ c) × (c ≤ 57)) × AreDigits cs

record Says (n : ℕ) (ds : List ℕ) : Type 0 where
  digits : AreDigits ds
  some : 0 < length ds
  value : decimal_value ds ≡ n

digits_push : (ds : List ℕ) (c : ℕ) → AreDigits ds → 48 ≤ c → c ≤ 57 → AreDigits (ds ++ c ∷ [])
digits_push [] c g low high = ((low, high), tt)
digits_push (d ∷ ds) c g low high = (g.0, digits_push ds c g.1 low high)

decimal_says : (n : ℕ) → n < 2 ^ 64 → Says n (decimal n)
decimal_says n fits = decimal_by_steps Says one more n fits
  where
    one : (n : ℕ) → n < 10 → Says n ((48 + n) ∷ [])
    one n lt = record { digits = ((omega arith, omega (arith, lt)), tt); some = omega arith; value = omega arith }

    more : (n : ℕ) (ds : List ℕ) → 10 ≤ n → Says (n / 10) ds → Says n (ds ++ ((48 + n % 10) ∷ []))
    more n ds ge is = record {
      digits = digits_push ds (48 + n % 10) is.digits (omega arith) (omega arith);
      some = omega (arith, length_push ds (48 + n % 10));
      value =
          let pushed : decimal_value (ds ++ (48 + n % 10) ∷ []) ≡ 10 * decimal_value ds + ((48 + n % 10) - 48) =
          fold_push (λ value digit. 10 * value + (digit - 48)) 0 ds (48 + n % 10) in
          omega (arith, pushed, is.value);
    }

digit_is : (c : ℕ) → 48 ≤ c → c ≤ 57 → is_ascii_digit c ≡ true
digit_is c low high = grind (arith, nat_tests)

all_digits : (ds : List ℕ) → AreDigits ds → list_all is_ascii_digit ds ≡ true
all_digits [] g = refl
all_digits (d ∷ ds) g = rw (digit_is d g.0.0 g.0.1, all_digits ds g.1) refl

digits_good : (ds : List ℕ) → AreDigits ds → AreGood ds
digits_good [] g = tt
digits_good (d ∷ ds) g = ((omega (arith, g.0.0), omega (arith, g.0.1)), digits_good ds g.1)

digits_lack : (s : ℕ) (ds : List ℕ) → (s < 48) ⊎ (57 < s) → AreDigits ds → Lacks s ds
digits_lack s [] out g = tt
digits_lack s (d ∷ ds) out g = (apart d out g.0, digits_lack s ds out g.1)
  where
    apart : (d : ℕ) → (s < 48) ⊎ (57 < s) → (48 ≤ d) × (d ≤ 57) → (d == s) ≡ false
    apart d (inl below) within = is_not d s (omega (arith, below, within.0))
    apart d (inr above) within = grind (arith, nat_tests, above, within.1)

pub decimal_token : (n : ℕ) → n < 2 ^ 64 → IsToken (decimal n)
decimal_token n fits =
    let says = decimal_says n fits in
    record { some = says.some; good = digits_good (decimal n) says.digits }

pub decimal_lacks_colon : (n : ℕ) → n < 2 ^ 64 → Lacks 58 (decimal n)
decimal_lacks_colon n fits = digits_lack 58 (decimal n) (inr (omega arith)) (decimal_says n fits).digits

number_again : (ds : List ℕ) (n : ℕ) → Says n ds → number_of ds ≡ Some n
number_again ds n says =
    let some : nat_lt 0 (length ds) ≡ true = lt_true 0 (length ds) says.some in
    rw (some, all_digits ds says.digits) (ap Some says.value)
  where
    lt_true : (a b : ℕ) → a < b → nat_lt a b ≡ true
    lt_true a b lt = grind (arith, nat_tests)

pub number_of-decimal : (n : ℕ) → n < 2 ^ 64 → number_of (decimal n) ≡ Some n
number_of-decimal n fits = number_again (decimal n) n (decimal_says n fits)

pub whole_number-decimal : (n most : ℕ) → n < 2 ^ 64 → n ≤ most → whole_number (decimal n) most ≡ Ok n
whole_number-decimal n most fits within = rw (number_of-decimal n fits, le-leb n most within) refl

-- ---- signed numbers

no_minus : (ds : List ℕ) → AreDigits ds → 0 < length ds → starts_with nat_eq ds (codes "-") ≡ false
no_minus [] g some = absurd (omega (arith, some))
no_minus (d ∷ ds) g some =
    let apart : nat_eq 45 d ≡ false = differs d g.0.0 in
    rw apart refl
  where
    differs : (d : ℕ) → 48 ≤ d → nat_eq 45 d ≡ false
    differs d low = grind (arith, nat_tests)

pub signed_of-decimal : (z : ℤ) → unsigned_abs z < 2 ^ 64 → signed_of (signed_decimal z) ≡ Some z
signed_of-decimal (pos n) fits =
    let says = decimal_says n (omega (arith, fits)) in
    rw (no_minus (decimal n) says.digits says.some, number_of-decimal n (omega (arith, fits))) refl
signed_of-decimal (negsuc n) fits = rw (number_of-decimal (suc n) (omega (arith, fits))) refl

pub signed_token : (z : ℤ) → unsigned_abs z < 2 ^ 64 → IsToken (signed_decimal z)
signed_token (pos n) fits = decimal_token n (omega (arith, fits))
signed_token (negsuc n) fits =
    let digits = decimal_token (suc n) (omega (arith, fits)) in
    record { some = omega arith; good = ((omega arith, omega arith), digits.good) }

pub signed_lacks_colon : (z : ℤ) → unsigned_abs z < 2 ^ 64 → Lacks 58 (signed_decimal z)
signed_lacks_colon (pos n) fits = decimal_lacks_colon n (omega (arith, fits))
signed_lacks_colon (negsuc n) fits = (refl, decimal_lacks_colon (suc n) (omega (arith, fits)))

pub whole_signed-decimal : (z : ℤ) (size : ℕ) → unsigned_abs z < 2 ^ 64 → unsigned_abs z ≤ size → whole_signed (signed_decimal z) size ≡ Ok z
whole_signed-decimal z size fits within = rw (signed_of-decimal z fits, le-leb (unsigned_abs z) size within) refl
