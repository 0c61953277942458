-- Tokens that were read in front, as the readers of a line give them.
use Rattle.std.proofs.Common.{◌≡◌, ℕ, suc, ◌+◌, ◌-◌, ◌<◌, ◌≤◌, true, false, List, [], ◌∷◌, ◌++◌, length, get_or, take, drop, drop-cons, take_while, Ok, refl, sym, ap, ◌∙◌, inl, inr, arith}
use Rattle.std.specs.Char.{is_ascii_digit}
use Rattle.std.specs.Prelude.{ℤ}
use Rattle.std.proofs.lemmas.Bool.Decides.{nat_tests}
use Rattle.std.proofs.lemmas.List.{take_all, take-append-drop}
use Rattle.std.proofs.lemmas.List.Sums.{take_while-cons}
use Rattle.tact_base.specs.Numbers.{ReadsNumber, whole_number, whole_signed}
use Rattle.run_record.specs.Fields.{in_line, token_at, signed_at}
use Rattle.run_record.specs.Fronts.{Lacks, Begins, IsPast, IsNext}
use Rattle.run_record.specs.Splitting.{tokens}
use Rattle.run_record.proofs.FieldLemmas.{ok_is}
use Rattle.run_record.proofs.FrontLemmas.{number_is_next, read_begins, token_in_front}

-- the signed number of a token
pub signed_is_next : (bytes after rest : List ℕ) (size : ℕ) (number : ℤ)
    → Begins (λ part. whole_signed part size) bytes number after
    → IsPast after rest
    → IsNext (λ token. in_line (whole_signed token size)) bytes number rest
signed_is_next bytes after rest size number begins past = record {
  token = begins.part;
  is = ap tokens begins.whole ∙ token_in_front begins.part after rest begins.some begins.no_space past;
  says = ap in_line begins.says;
}

pub signed_at-next : (bytes rest : List ℕ) (size : ℕ) (number : ℤ)
    → IsNext (λ token. in_line (whole_signed token size)) bytes number rest
    → signed_at size (tokens bytes) ≡ Ok (number, tokens rest)
unfolding signed_at token_at
signed_at-next bytes rest size number next = rw next.is (rw next.says refl)

-- one digit before another byte
pub one_digit : (bytes : List ℕ) (value : ℕ)
    → 1 < length bytes
    → is_ascii_digit (get_or bytes 0 0) ≡ true
    → is_ascii_digit (get_or bytes 1 0) ≡ false
    → value ≡ get_or bytes 0 0 - 48
    → ReadsNumber bytes 0 (Ok value) 1
one_digit [] value some digit other is = absurd (omega arith)
one_digit (a ∷ []) value some digit other is = absurd (omega arith)
one_digit (a ∷ b ∷ rest) value some digit other is =
    let small : a ≤ 57 = grind (arith, nat_tests, digit) in
    let digits : take_while is_ascii_digit (a ∷ b ∷ rest) ≡ a ∷ [] =
    rw (take_while-cons is_ascii_digit a (b ∷ rest), digit, take_while-cons is_ascii_digit b rest, other) refl in
    rw digits (omega arith, omega (arith, small), omega (arith, is), omega arith)

-- the number of one digit that a space follows
pub digit_next : (bytes : List ℕ) (most value : ℕ)
    → 1 < length bytes
    → is_ascii_digit (get_or bytes 0 0) ≡ true
    → get_or bytes 1 0 ≡ 32
    → value ≡ get_or bytes 0 0 - 48
    → value ≤ most
    → IsNext (λ token. in_line (whole_number token most)) bytes value (drop 2 bytes)
digit_next [] most value some digit space is within = absurd (omega arith)
digit_next (a ∷ []) most value some digit space is within = absurd (omega arith)
digit_next (a ∷ b ∷ rest) most value some digit space is within =
    let other : is_ascii_digit b ≡ false = rw space refl in
    number_is_next (a ∷ b ∷ rest) (b ∷ rest) rest most value
    (read_begins (a ∷ b ∷ rest) most value 1 (one_digit (a ∷ b ∷ rest) value some digit other is) within)
    (inr (ap (λ (k : ℕ). k ∷ rest) space))

-- the number of one digit that ends the line
pub digit_last : (bytes : List ℕ) (most value : ℕ)
    → length bytes ≡ 1
    → is_ascii_digit (get_or bytes 0 0) ≡ true
    → value ≡ get_or bytes 0 0 - 48
    → value ≤ most
    → IsNext (λ token. in_line (whole_number token most)) bytes value []
digit_last [] most value single digit is within = absurd (omega (arith, single))
digit_last (a ∷ b ∷ rest) most value single digit is within = absurd (omega (arith, single))
digit_last (a ∷ []) most value single digit is within =
    let small : a ≤ 57 = grind (arith, nat_tests, digit) in
    let digits : take_while is_ascii_digit (a ∷ []) ≡ a ∷ [] = rw (take_while-cons is_ascii_digit a [], digit) refl in
    let reads : ReadsNumber (a ∷ []) 0 (Ok value) 1 = rw digits (omega arith, omega (arith, small), omega (arith, is), omega arith) in
    number_is_next (a ∷ []) [] [] most value (read_begins (a ∷ []) most value 1 reads within) (inl (refl, refl))

-- a word in front, and a space
pub past_word_is : (rest word : List ℕ) (place : ℕ)
    → length word < length rest
    → place ≡ length word
    → take place rest ≡ take place word
    → get_or rest (length word) 0 ≡ 32
    → rest ≡ word ++ 32 ∷ drop (length word + 1) rest
past_word_is rest word place within at same space =
    let n = length word in
    let front : take n rest ≡ word = ap (λ (k : ℕ). take k rest) (sym at) ∙ same ∙ ap (λ (k : ℕ). take k word) at ∙ take_all n word (omega arith) in
    let more : n + 1 ≡ suc n = omega arith in
    let tail : drop n rest ≡ 32 ∷ drop (n + 1) rest = rw (more, drop-cons rest n 0 within, space) refl in
    sym (take-append-drop n rest) ∙ ap (λ (xs : List ℕ). xs ++ drop n rest) front ∙ ap (λ (xs : List ℕ). word ++ xs) tail

pub word_is_next : (rest word after : List ℕ)
    → rest ≡ word ++ 32 ∷ after
    → 0 < length word
    → Lacks 32 word
    → tokens rest ≡ word ∷ tokens after
word_is_next rest word after whole some none = ap tokens whole ∙ token_in_front word (32 ∷ after) after some none (inr refl)

-- the next token, by what was read
pub token_at-ok : (ts : List (List ℕ)) (x : List ℕ × List (List ℕ)) → token_at ts ≡ Ok x → ts ≡ x.0 ∷ x.1
unfolding token_at
token_at-ok [] x is = cc
token_at-ok (t ∷ ts) x is =
    let pair : List ℕ × List (List ℕ) = (t, ts) in
    ap (λ (p : List ℕ × List (List ℕ)). p.0 ∷ p.1) (ok_is pair x is)
