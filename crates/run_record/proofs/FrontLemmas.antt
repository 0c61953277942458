-- Numbers in front, as tokens and as parts of them.
use Rattle.std.proofs.Common.{◌≡◌, ◌≢◌, ℕ, zero, suc, ◌-◌, ◌^◌, ◌<◌, ◌≤◌, ◌==◌, Bool, true, false, cond, ◌&&◌, filter, pos, negsuc, neg_ℤ, List, [], ◌∷◌, ◌++◌, length, get_or, drop, take_while, Option, None, Some, Result, Ok, Err, refl, sym, ap, ◌∙◌, arith, append_assoc, length-append, ⊎_elim}
use Rattle.std.specs.Prelude.{ℤ, unsigned_abs, nat_le, nat_lt, nat_eq, codes}
use Rattle.std.specs.List.{list_all, prefix_len, starts_with}
use Rattle.std.specs.Char.{is_ascii_digit}
use Rattle.std.proofs.lemmas.Bool.{false≢true, leb-true, le-leb, le-ltb, lt-ltb}
use Rattle.std.proofs.lemmas.Bool.Decides.{nat_tests}
use Rattle.std.proofs.lemmas.List.{append-nil, take-append-drop}
use Rattle.std.proofs.lemmas.List.Folds.{length-prefix_len}
use Rattle.std.proofs.lemmas.List.Sums.{take_while-cons}
use Rattle.tact_base.specs.Numbers.{ReadsNumber, is_number, number_of, signed_of, token_answer, whole_number, whole_signed}
use Rattle.tact_base.specs.declared.conit_list.Need.{Need}
use Rattle.tact_base.specs.declared.conit_list.Weight.{Weight}
use Rattle.tact_base.specs.declared.limits.TheConstants.{AMOUNT_MAX, MOMENT_MAX, WEIGHT_MAX}
use Rattle.tact_base.specs.declared.tokens.TokenFault.{TokenFault}
use Rattle.tact_base.specs.declared.tokens.TokenFault.TheVariants.{OutOfRange}
use Rattle.run_record.specs.Splitting.{with_front, pieces_of, has_bytes, tokens}
use Rattle.run_record.specs.Fields.{token_at, in_line, number_at}
use Rattle.run_record.specs.CallTokens.{is_wide, whole_wide, any_signed_at}
use Rattle.run_record.specs.Fronts.{Lacks, Begins, IsPast, IsNext}
use Rattle.run_record.specs.Lists.{parts_of, need_of, need_at, weight_of, weight_at, is_end}
use Rattle.run_record.specs.declared.lists.ListEnd.{ListEnd}
use Rattle.run_record.specs.declared.lists.ListEnd.TheVariants as ending
use Rattle.run_record.proofs.SplitLemmas.{tokens_some}
use Rattle.run_record.proofs.PrintedTokens.{piece_ends, last_piece}

-- digits are neither spaces nor colons
both_true : (a b : Bool) → (a && b) ≡ true → (a ≡ true) × (b ≡ true)
both_true true b h = (refl, h)
both_true false b h = absurd (false≢true h)

digits_lack : (byte : ℕ) (digits : List ℕ)
    → is_ascii_digit byte ≡ false
    → list_all is_ascii_digit digits ≡ true
    → Lacks byte digits
digits_lack byte [] other all = tt
digits_lack byte (d ∷ ds) other all =
    let both = both_true (is_ascii_digit d) (list_all is_ascii_digit ds) all in (
      apart d byte (λ same. false≢true (sym other ∙ ap is_ascii_digit (sym same) ∙ both.0)),
      digits_lack byte ds other both.1,
    )
  where
    apart : (a b : ℕ) → a ≢ b → (a == b) ≡ false
    apart a b h = grind (arith, nat_tests)

prefix_all : (bytes : List ℕ) → list_all is_ascii_digit (take_while is_ascii_digit bytes) ≡ true
prefix_all [] = refl
prefix_all (b ∷ bs) = rw (take_while-cons is_ascii_digit b bs) (go (is_ascii_digit b) refl (prefix_all bs))
  where
    go : (is : Bool)
        → is_ascii_digit b ≡ is
        → list_all is_ascii_digit (take_while is_ascii_digit bs) ≡ true
        → list_all is_ascii_digit (cond is (b ∷ take_while is_ascii_digit bs) []) ≡ true
    go true test more = rw test more
    go false test more = refl

-- the digits that were read in front
record IsRead (bytes : List ℕ) (value place : ℕ) : Type 0 where
  part : List ℕ
  whole : bytes ≡ part ++ drop place bytes
  some : 0 < length part
  digits : list_all is_ascii_digit part ≡ true
  says : number_of part ≡ Some value

is_read : (bytes : List ℕ) (value place : ℕ)
    → ReadsNumber bytes 0 (Ok value) place
    → IsRead bytes value place
is_read bytes value place reads =
    let digits = take_while is_ascii_digit bytes in
    let n = prefix_len is_ascii_digit bytes in
    let all = prefix_all bytes in
    let long : length digits ≡ n = length-prefix_len is_ascii_digit bytes in
    let at : place ≡ n = omega (arith, reads.3, long) in
    let number : is_number digits ≡ true = rw (lt-ltb 0 (length digits) reads.0, all) refl in
    record {
      part = digits;
      whole = sym (take-append-drop n bytes) ∙ ap (λ (k : ℕ). digits ++ drop k bytes) (sym at);
      some = reads.0;
      digits = all;
      says = rw number (ap Some (sym reads.2));
    }

-- where they say a number in its field's range
pub read_begins : (bytes : List ℕ) (most value place : ℕ)
    → ReadsNumber bytes 0 (Ok value) place
    → value ≤ most
    → Begins (λ part. whole_number part most) bytes value (drop place bytes)
read_begins bytes most value place reads within =
    let is = is_read bytes value place reads in record {
      part = is.part;
      whole = is.whole;
      some = is.some;
      no_space = digits_lack 32 is.part refl is.digits;
      no_colon = digits_lack 58 is.part refl is.digits;
      says = rw (is.says, le-leb value most within) refl;
    }

-- with a sign, and without
pub signed_begins : (bytes : List ℕ) (size value place : ℕ) (said : ℤ)
    → ReadsNumber bytes 0 (Ok value) place
    → value ≤ size
    → said ≡ pos value
    → Begins (λ part. whole_signed part size) bytes said (drop place bytes)
signed_begins bytes size value place said reads within said_is =
    let is = is_read bytes value place reads in record {
      part = is.part;
      whole = is.whole;
      some = is.some;
      no_space = digits_lack 32 is.part refl is.digits;
      no_colon = digits_lack 58 is.part refl is.digits;
      says = rw (no_minus is.part is.some (digits_lack 45 is.part refl is.digits), is.says, le-leb value size within) (ap Ok (sym said_is));
    }
  where
    no_minus : (part : List ℕ) → 0 < length part → Lacks 45 part → starts_with nat_eq part (codes "-") ≡ false
    no_minus [] some lacks = absurd (omega arith)
    no_minus (d ∷ ds) some lacks = let apart : nat_eq 45 d ≡ false = grind (arith, nat_tests, lacks.0) in rw apart refl

pub minus_abs : (n : ℕ) → unsigned_abs (neg_ℤ (pos n)) ≡ n
minus_abs zero = refl
minus_abs (suc n) = refl

pub minus_begins : (bytes : List ℕ) (size value place : ℕ) (said : ℤ)
    → ReadsNumber bytes 0 (Ok value) place
    → value ≤ size
    → said ≡ neg_ℤ (pos value)
    → Begins (λ part. whole_signed part size) (45 ∷ bytes) said (drop place bytes)
minus_begins bytes size value place said reads within said_is =
    let is = is_read bytes value place reads in
    let size_is : nat_le (unsigned_abs (neg_ℤ (pos value))) size ≡ true = rw (minus_abs value) (le-leb value size within) in record {
      part = 45 ∷ is.part;
      whole = ap (λ (bs : List ℕ). 45 ∷ bs) is.whole;
      some = omega arith;
      no_space = (refl, digits_lack 32 is.part refl is.digits);
      no_colon = (refl, digits_lack 58 is.part refl is.digits);
      says = rw (is.says, size_is) (ap Ok (sym said_is));
    }

lacks-append : (byte : ℕ) (xs ys : List ℕ) → Lacks byte xs → Lacks byte ys → Lacks byte (xs ++ ys)
lacks-append byte [] ys none more = more
lacks-append byte (x ∷ xs) ys (other, none) more = (other, lacks-append byte xs ys none more)

-- a token in front
pub token_in_front : (token after rest : List ℕ)
    → 0 < length token
    → Lacks 32 token
    → IsPast after rest
    → tokens (token ++ after) ≡ token ∷ tokens rest
token_in_front token after rest some none past =
    tokens_some (token ++ after) token rest
    (⊎_elim
    (λ (ends : (after ≡ []) × (rest ≡ [])). rw (ends.0, ends.1, append-nil token) (last_piece 32 token some none))
    (λ (goes : after ≡ 32 ∷ rest). rw goes (piece_ends 32 token rest none))
    past)
    some

-- a part of a token in front, and the last one
part_in_front : (part rest : List ℕ) → Lacks 58 part → parts_of (part ++ 58 ∷ rest) ≡ part ∷ parts_of rest
part_in_front [] rest none = refl
part_in_front (b ∷ bs) rest (other, none) = rw other (ap (with_front b) (part_in_front bs rest none))

last_part : (part : List ℕ) → Lacks 58 part → parts_of part ≡ part ∷ []
last_part [] none = refl
last_part (b ∷ bs) (other, none) = rw other (ap (with_front b) (last_part bs none))

-- the number of a token
pub number_is_next : (bytes after rest : List ℕ) (most value : ℕ)
    → Begins (λ part. whole_number part most) bytes value after
    → IsPast after rest
    → IsNext (λ token. in_line (whole_number token most)) bytes value rest
number_is_next bytes after rest most value begins past = record {
  token = begins.part;
  is = ap tokens begins.whole ∙ token_in_front begins.part after rest begins.some begins.no_space past;
  says = ap in_line begins.says;
}

-- a part with a colon, before more of the token
more_of : (part rest more after : List ℕ) → rest ≡ more ++ after → part ++ 58 ∷ rest ≡ (part ++ 58 ∷ more) ++ after
more_of part rest more after is = ap (λ (r : List ℕ). part ++ 58 ∷ r) is ∙ sym (append_assoc part (58 ∷ more) after)

no_space_more : (part more : List ℕ) → Lacks 32 part → Lacks 32 more → Lacks 32 (part ++ 58 ∷ more)
no_space_more part more none rest = lacks-append 32 part (58 ∷ more) none (refl, rest)

-- the weight of a token
pub weight_is_next : (conits most : ℕ) (bytes one two after rest : List ℕ) (conit oweight : ℕ) (nweight : ℤ)
    → most ≡ conits - 1
    → Begins (λ part. whole_number part most) bytes conit (58 ∷ one)
    → Begins (λ part. whole_signed part WEIGHT_MAX) one nweight (58 ∷ two)
    → Begins (λ part. whole_number part WEIGHT_MAX) two oweight after
    → IsPast after rest
    → IsNext (weight_of conits) bytes (record { conit = conit; nweight = nweight; oweight = oweight }) rest
unfolding weight_of
weight_is_next conits most bytes one two after rest conit oweight nweight most_is a b c past =
    let second = b.part ++ 58 ∷ c.part in
    let token = a.part ++ 58 ∷ second in
    let whole_one : one ≡ second ++ after = b.whole ∙ more_of b.part two c.part after c.whole in
    let whole : bytes ≡ token ++ after = a.whole ∙ more_of a.part one second after whole_one in
    let none = no_space_more a.part second a.no_space (no_space_more b.part c.part b.no_space c.no_space) in
    let some : 0 < length token = omega (arith, a.some, length-append a.part (58 ∷ second)) in
    let parts : parts_of token ≡ a.part ∷ b.part ∷ c.part ∷ [] =
    part_in_front a.part second a.no_colon
    ∙ ap (λ (ps : List (List ℕ)). a.part ∷ ps) (part_in_front b.part c.part b.no_colon
    ∙ ap (λ (ps : List (List ℕ)). b.part ∷ ps) (last_part c.part c.no_colon)) in
    record {
      token = token;
      is = ap tokens whole ∙ token_in_front token after rest some none past;
      says = rw parts (rw (← most_is, a.says, b.says, c.says) refl);
    }

-- the need of a token
pub need_is_next : (conits most : ℕ) (bytes one two three after rest : List ℕ) (conit num order stale : ℕ)
    → most ≡ conits - 1
    → Begins (λ part. whole_number part most) bytes conit (58 ∷ one)
    → Begins (λ part. whole_number part AMOUNT_MAX) one num (58 ∷ two)
    → Begins (λ part. whole_number part AMOUNT_MAX) two order (58 ∷ three)
    → Begins (λ part. whole_number part MOMENT_MAX) three stale after
    → IsPast after rest
    → IsNext (need_of conits) bytes (record { conit = conit; num = num; order = order; stale = stale }) rest
unfolding need_of
need_is_next conits most bytes one two three after rest conit num order stale most_is a b c d past =
    let third = c.part ++ 58 ∷ d.part in
    let second = b.part ++ 58 ∷ third in
    let token = a.part ++ 58 ∷ second in
    let whole_two : two ≡ third ++ after = c.whole ∙ more_of c.part three d.part after d.whole in
    let whole_one : one ≡ second ++ after = b.whole ∙ more_of b.part two third after whole_two in
    let whole : bytes ≡ token ++ after = a.whole ∙ more_of a.part one second after whole_one in
    let none = no_space_more a.part second a.no_space (no_space_more b.part third b.no_space (no_space_more c.part d.part c.no_space d.no_space)) in
    let some : 0 < length token = omega (arith, a.some, length-append a.part (58 ∷ second)) in
    let parts : parts_of token ≡ a.part ∷ b.part ∷ c.part ∷ d.part ∷ [] =
    part_in_front a.part second a.no_colon
    ∙ ap (λ (ps : List (List ℕ)). a.part ∷ ps) (part_in_front b.part third b.no_colon
    ∙ ap (λ (ps : List (List ℕ)). b.part ∷ ps) (part_in_front c.part d.part c.no_colon
    ∙ ap (λ (ps : List (List ℕ)). c.part ∷ ps) (last_part d.part d.no_colon))) in
    record {
      token = token;
      is = ap tokens whole ∙ token_in_front token after rest some none past;
      says = rw parts (rw (← most_is, a.says, b.says, c.says, d.says) refl);
    }

-- what the readers of a line give there
pub number_at-next : (bytes rest : List ℕ) (most value : ℕ)
    → IsNext (λ token. in_line (whole_number token most)) bytes value rest
    → number_at most (tokens bytes) ≡ Ok (value, tokens rest)
unfolding number_at token_at
number_at-next bytes rest most value next = rw next.is (rw next.says refl)

pub weight_at-next : (conits least : ℕ) (bytes rest : List ℕ) (weight : Weight)
    → IsNext (weight_of conits) bytes weight rest
    → least ≤ weight.conit
    → weight_at conits least (tokens bytes) ≡ Ok (weight, tokens rest)
unfolding weight_at token_at
weight_at-next conits least bytes rest weight next rises =
    let e : nat_lt weight.conit least ≡ false = le-ltb weight.conit least rises in
    rw next.is (rw (next.says, e) refl)

pub need_at-next : (conits least : ℕ) (bytes rest : List ℕ) (need : Need)
    → IsNext (need_of conits) bytes need rest
    → least ≤ need.conit
    → need_at conits least (tokens bytes) ≡ Ok (need, tokens rest)
unfolding need_at token_at
need_at-next conits least bytes rest need next rises =
    let e : nat_lt need.conit least ≡ false = le-ltb need.conit least rises in
    rw next.is (rw (next.says, e) refl)

-- an item of a list in front
item_in_front : (end : ListEnd) (first : ℕ) (bytes : List ℕ)
    → (first == 32) ≡ false
    → (first == 61) ≡ false
    → is_end end (tokens (first ∷ bytes)) ≡ false
unfolding tokens
item_in_front end first bytes other none = rw other (go end (pieces_of 32 bytes))
  where
    go : (end : ListEnd) (pieces : List (List ℕ)) → is_end end (filter has_bytes (with_front first pieces)) ≡ false
    go ending.Line [] = refl
    go ending.Line (p ∷ ps) = refl
    go ending.Equals [] = rw none refl
    go ending.Equals (p ∷ ps) = rw none refl

pub first_begins_item : (end : ListEnd) (bytes : List ℕ)
    → 0 < length bytes
    → get_or bytes 0 0 ≢ 32
    → get_or bytes 0 0 ≢ 61
    → is_end end (tokens bytes) ≡ false
first_begins_item end [] some other none = absurd (omega arith)
first_begins_item end (b ∷ bs) some other none = item_in_front end b bs (apart b 32 other) (apart b 61 none)
  where
    apart : (a b : ℕ) → a ≢ b → (a == b) ≡ false
    apart a b h = grind (arith, nat_tests)

-- a signed number of 63 bits and a sign, where any of 64 bits is read
wide_says : (part : List ℕ) (size : ℕ) (number : ℤ)
    → size < 2 ^ 63
    → whole_signed part size ≡ Ok number
    → whole_wide part ≡ Ok number
wide_says part size number small says = go (signed_of part) says
  where
    wide : (n : ℤ) → unsigned_abs n ≤ size → is_wide n ≡ true
    wide (pos n) within = grind (arith, nat_tests, small, within)
    wide (negsuc n) within = grind (arith, nat_tests, small, within)

    kept : (n : ℤ) (yes : Bool)
        → nat_le (unsigned_abs n) size ≡ yes
        → ◌≡◌ {A = Result ℤ TokenFault} (cond yes (Ok n) (Err OutOfRange)) (Ok number)
        → token_answer is_wide (Some n) ≡ Ok number
    kept n true test same = rw (wide n (leb-true (unsigned_abs n) size test)) same
    kept n false test same = cc

    go : (said : Option ℤ)
        → token_answer (λ n. nat_le (unsigned_abs n) size) said ≡ Ok number
        → token_answer is_wide said ≡ Ok number
    go None none = cc
    go (Some n) some = kept n (nat_le (unsigned_abs n) size) refl some

pub wide_is_next : (bytes after rest : List ℕ) (size : ℕ) (number : ℤ)
    → size < 2 ^ 63
    → Begins (λ part. whole_signed part size) bytes number after
    → IsPast after rest
    → IsNext (λ token. in_line (whole_wide token)) bytes number rest
wide_is_next bytes after rest size number small begins past = record {
  token = begins.part;
  is = ap tokens begins.whole ∙ token_in_front begins.part after rest begins.some begins.no_space past;
  says = ap in_line (wide_says begins.part size number small begins.says);
}

pub any_signed_at-next : (bytes rest : List ℕ) (number : ℤ)
    → IsNext (λ token. in_line (whole_wide token)) bytes number rest
    → any_signed_at (tokens bytes) ≡ Ok (number, tokens rest)
unfolding any_signed_at token_at
any_signed_at-next bytes rest number next = rw next.is (rw next.says refl)
