-- A field that is read stands where it was read, and a field that stands there is read.
use Rattle.std.proofs.Common.{◌≡◌, ℕ, ◌+◌, ◌^◌, ◌<◌, ◌≤◌, ℤ, Bool, true, false, cond, ltb, nat_le, List, [], ◌∷◌, ◌++◌}
use Rattle.std.proofs.Common.{length, get_or, take, drop, Result, Ok, Err, refl, sym, ap, subst, ◌∙◌, arith, inl, inr}
use Rattle.std.specs.Prelude.{unsigned_abs}
use Rattle.std.specs.Int.{w64, from_be_bytes, cast_signed, cast_unsigned}
use Rattle.std.proofs.lemmas.Bool.{cases_lt, ltb-false, le-ltb}
use Rattle.std.proofs.lemmas.Bool.Decides.{nat_tests}
use Rattle.std.proofs.lemmas.List.{take_at, drop_at, take-take, drop-take, drop-drop, length-append, length-take, length-drop, get_or-drop, get_or-take, get_or_past}
use Rattle.std.specs.Int.RustNames.{FitsSigned}
use Rattle.std.proofs.lemmas.Int.{to_z-of_z, of_z-to_z}
use Rattle.std.proofs.Math.Facts.{Fits-of_lt, Fits-of_z, sfits_to_z}
use Rattle.std.proofs.lemmas.Nat.{be_bytes_8, from_be_bytes-to_be_bytes_8}
use Rattle.std.proofs.Math.Seq.{take-add}
use Rattle.run_model.specs.declared.fields.FieldFault.{FieldFault}
use Rattle.run_model.specs.declared.fields.FieldFault.TheVariants.{Short, BadField}
use Rattle.run_model.specs.Bytes.{◌>>=◌, Field, StandsAt, field_at, is_from_to, byte_at, number_at, signed_at, number_bytes, signed_bytes}

-- ---- spellings at places

-- the numbers of a list of bytes
abbrev pub AreBytes : List ℕ → Type 0
AreBytes bytes = (i : ℕ) → get_or bytes i 0 < 256

-- a spelling stands from one place to the next
pub record Spelled (bytes : List ℕ) (place : ℕ) (text : List ℕ) (next : ℕ) : Type 0 where
  pub stands : StandsAt text bytes place
  pub after : next ≡ place + length text

-- two spellings, one behind the other, are one
pub stands_both : (a b bytes : List ℕ) (place : ℕ)
    → StandsAt a bytes place
    → StandsAt b bytes (place + length a)
    → StandsAt (a ++ b) bytes place
stands_both a b bytes place first second =
    let rest : drop (length a) (drop place bytes) ≡ drop (place + length a) bytes = drop-drop (length a) place bytes in
    rw (length-append a b, take-add (length a) (length b) (drop place bytes), first, rest, second) refl

pub spelled_then : (bytes : List ℕ) (place : ℕ) (a : List ℕ) (mid : ℕ) (b : List ℕ) (next : ℕ)
    → Spelled bytes place a mid
    → Spelled bytes mid b next
    → Spelled bytes place (a ++ b) next
spelled_then bytes place a mid b next p q =
    let second : StandsAt b bytes (place + length a) = subst (StandsAt b bytes) p.after q.stands in
    record { stands = stands_both a b bytes place p.stands second; after = omega (arith, p.after, q.after, length-append a b) }

-- of a spelling that is two, each stands
pub stands_first : (a b bytes : List ℕ) (place : ℕ)
    → StandsAt (a ++ b) bytes place
    → StandsAt a bytes place
stands_first a b bytes place both =
    sym (take-take (length a) (length (a ++ b)) (drop place bytes) (omega (arith, length-append a b)))
    ∙ ap (take (length a)) both ∙ take_at a b (length a) refl

pub stands_second : (a b bytes : List ℕ) (place : ℕ)
    → StandsAt (a ++ b) bytes place
    → StandsAt b bytes (place + length a)
stands_second a b bytes place both =
    let whole : take (length a + length b) (drop place bytes) ≡ a ++ b = rw (length-append a b) at both in
    ap (take (length b)) (sym (drop-drop (length a) place bytes))
    ∙ sym (drop-take (length a) (length b) (drop place bytes)) ∙ ap (drop (length a)) whole ∙ drop_at a b (length a) refl

-- what stands somewhere ends within the bytes
pub stands_within : (text bytes : List ℕ) (place : ℕ)
    → StandsAt text bytes place
    → place ≤ length bytes
    → place + length text ≤ length bytes
stands_within text bytes place stands within =
    omega (arith, ap length stands, length-take (length text) (drop place bytes), length-drop place bytes)

-- ---- fields

pub bind_ok : {A B : Type 0} (r : Result A FieldFault) (f : A → Result B FieldFault) (y : B)
    → (r >>= f) ≡ Ok y
    → (x : A) × (r ≡ Ok x) × (f x ≡ Ok y)
bind_ok (Ok x) f y e = (x, refl, e)
bind_ok (Err d) f y e = absurd cc

-- a result of reading that is no fault
abbrev pub done : {A : Type 0} → A → Result A FieldFault
done x = Ok x

pub ok_is : {A : Type 0} (x y : A) → done x ≡ done y → x ≡ y
ok_is x y e = cc

-- what was read is what is read there
pub same_read : {A : Type 0} (read : Field A) (x y : A) (m n : ℕ)
    → Ok (x, m) ≡ read
    → read ≡ Ok (y, n)
    → done x ≡ done y
same_read {A = A} read x y m n p q =
    let both : done (x, m) ≡ done (y, n) = p ∙ q in
    let is = ok_is (x, m) (y, n) both in
    ap (λ (r : A × ℕ). done r.0) is

-- nothing is read at a fault
pub no_read : {A : Type 0} (read : Field A) (f : FieldFault) (y : A) (n : ℕ)
    → Err f ≡ read
    → read ≡ Ok (y, n)
    → ⊥
no_read read f y n p q = cc

guard_ok : {A : Type 0} (short good : Bool) (x y : A) (f : FieldFault)
    → cond short (Err Short) (cond good (Ok x) (Err f)) ≡ Ok y
    → (short ≡ false) × (good ≡ true) × (x ≡ y)
guard_ok true good x y f e = absurd cc
guard_ok false true x y f e = (refl, refl, cc)
guard_ok false false x y f e = absurd cc

-- a field that was read is whole and keeps its rule
pub field_taken : {A : Type 0} (width : ℕ) (value : List ℕ → A) (rule : A → Bool) (bytes : List ℕ) (place : ℕ) (x : A) (next : ℕ)
    → field_at width value rule bytes place ≡ Ok (x, next)
    → (place + width ≤ length bytes) × (value (take width (drop place bytes)) ≡ x) × (rule x ≡ true) × (next ≡ place + width)
field_taken {A = A} width value rule bytes place x next e =
    let found = value (take width (drop place bytes)) in
    let g = guard_ok (ltb (length bytes) (place + width)) (rule found) (found, place + width) (x, next) (BadField place) e in
    let is : found ≡ x = ap (λ (p : A × ℕ). p.0) g.2 in
    (ltb-false _ _ g.0, is, ap rule (sym is) ∙ g.1, sym (ap (λ (p : A × ℕ). p.1) g.2))

-- a whole field that keeps its rule is read
pub field_again : {A : Type 0} (width : ℕ) (value : List ℕ → A) (rule : A → Bool) (bytes : List ℕ) (place : ℕ) (x : A)
    → place + width ≤ length bytes
    → value (take width (drop place bytes)) ≡ x
    → rule x ≡ true
    → field_at width value rule bytes place ≡ Ok (x, place + width)
field_again width value rule bytes place x whole is good =
    let long : ltb (length bytes) (place + width) ≡ false = le-ltb _ _ whole in
    rw (long, is, good) refl

-- ---- numbers

from_to : (least bound number : ℕ)
    → is_from_to least bound number ≡ true
    → (least ≤ number) × (number < bound)
from_to least bound number e = (grind (arith, nat_tests), grind (arith, nat_tests))

is_within : (least bound number : ℕ)
    → least ≤ number
    → number < bound
    → is_from_to least bound number ≡ true
is_within least bound number l b = grind (arith, nat_tests)

AreBytes-slice : (width place : ℕ) (bytes : List ℕ)
    → AreBytes bytes
    → AreBytes (take width (drop place bytes))
AreBytes-slice width place bytes fits i =
    elim (cases_lt i width) [
      | inl lt ↦ rw (get_or-take width (drop place bytes) i 0 lt, get_or-drop) (fits (place + i))
      | inr le ↦ rw (get_or_past (take width (drop place bytes)) i 0 (omega (arith, length-take width (drop place bytes)))) (omega arith)
    ]

one_byte : (bytes : List ℕ) → length bytes ≡ 1 → bytes ≡ get_or bytes 0 0 ∷ []
one_byte [] e = absurd (omega arith)
one_byte (b ∷ []) e = refl
one_byte (b ∷ c ∷ bytes) e = absurd (omega arith)

slice_long : (width place : ℕ) (bytes : List ℕ)
    → place + width ≤ length bytes
    → length (take width (drop place bytes)) ≡ width
slice_long width place bytes le = omega (arith, length-take width (drop place bytes), length-drop place bytes)

pub byte_taken : (least bound : ℕ) (bytes : List ℕ) (place number next : ℕ)
    → byte_at least bound bytes place ≡ Ok (number, next)
    → Spelled bytes place (number ∷ []) next × (least ≤ number) × (number < bound)
unfolding byte_at
byte_taken least bound bytes place number next e =
    let t = field_taken 1 (λ field. get_or field 0 0) (is_from_to least bound) bytes place number next e in
    let stands : StandsAt (number ∷ []) bytes place = rw (← t.1) (one_byte (take 1 (drop place bytes)) (slice_long 1 place bytes t.0)) in
    let r = from_to least bound number t.2 in
    (record { stands = stands; after = t.3 }, r.0, r.1)

pub byte_again : (least bound : ℕ) (bytes : List ℕ) (place number : ℕ)
    → place ≤ length bytes
    → least ≤ number
    → number < bound
    → StandsAt (number ∷ []) bytes place
    → byte_at least bound bytes place ≡ Ok (number, place + 1)
unfolding byte_at
byte_again least bound bytes place number within l b stands =
    field_again 1 (λ field. get_or field 0 0) (is_from_to least bound) bytes place number (stands_within (number ∷ []) bytes place stands within)
    (ap (λ (field : List ℕ). get_or field 0 0) stands) (is_within least bound number l b)

pub length-number_bytes : (number : ℕ) → length (number_bytes number) ≡ 8
unfolding number_bytes
length-number_bytes number = refl

pub length-signed_bytes : (number : ℤ) → length (signed_bytes number) ≡ 8
unfolding signed_bytes
length-signed_bytes number = length-number_bytes (cast_unsigned w64 number)

below_wide : (bytes : List ℕ) → AreBytes bytes → from_be_bytes w64 bytes < 2 ^ 64
below_wide bytes fits = omega (arith, fits 0, fits 1, fits 2, fits 3, fits 4, fits 5, fits 6, fits 7)

-- eight bytes spell their number
eight_spell : (field : List ℕ)
    → length field ≡ 8
    → AreBytes field
    → number_bytes (from_be_bytes w64 field) ≡ field
unfolding number_bytes
eight_spell field long fits = be_bytes_8 field _ long fits refl

eight_back : (number : ℕ) → number < 2 ^ 64 → from_be_bytes w64 (number_bytes number) ≡ number
unfolding number_bytes
eight_back number lt = from_be_bytes-to_be_bytes_8 number lt

stands_eight : (text bytes : List ℕ) (place : ℕ)
    → length text ≡ 8
    → take 8 (drop place bytes) ≡ text
    → StandsAt text bytes place
stands_eight text bytes place long e = rw long e

eight_stand : (text bytes : List ℕ) (place : ℕ)
    → length text ≡ 8
    → StandsAt text bytes place
    → take 8 (drop place bytes) ≡ text
eight_stand text bytes place long e = rw long at e

pub number_taken : (least bound : ℕ) (bytes : List ℕ) (place number next : ℕ)
    → AreBytes bytes
    → number_at least bound bytes place ≡ Ok (number, next)
    → Spelled bytes place (number_bytes number) next × (least ≤ number) × (number < bound)
unfolding number_at
number_taken least bound bytes place number next fits e =
    let t = field_taken 8 (from_be_bytes w64) (is_from_to least bound) bytes place number next e in
    let field = take 8 (drop place bytes) in
    let spells = eight_spell field (slice_long 8 place bytes t.0) (AreBytes-slice 8 place bytes fits) in
    let text : field ≡ number_bytes number = sym spells ∙ ap number_bytes t.1 in
    let long = length-number_bytes number in
    let r = from_to least bound number t.2 in
    (record { stands = stands_eight (number_bytes number) bytes place long text; after = omega (arith, t.3, long) }, r.0, r.1)

pub number_again : (least bound : ℕ) (bytes : List ℕ) (place number : ℕ)
    → place ≤ length bytes
    → number < 2 ^ 64
    → least ≤ number
    → number < bound
    → StandsAt (number_bytes number) bytes place
    → number_at least bound bytes place ≡ Ok (number, place + length (number_bytes number))
unfolding number_at
number_again least bound bytes place number within wide l b stands =
    let long = length-number_bytes number in
    let ends = stands_within (number_bytes number) bytes place stands within in
    let value : from_be_bytes w64 (take 8 (drop place bytes)) ≡ number = ap (from_be_bytes w64) (eight_stand (number_bytes number) bytes place long stands) ∙ eight_back number wide in
    rw long (field_again 8 (from_be_bytes w64) (is_from_to least bound) bytes place number (omega (arith, long, ends)) value (is_within least bound number l b))

size_within : (size : ℕ) (number : ℤ)
    → unsigned_abs number ≤ size
    → nat_le (unsigned_abs number) size ≡ true
size_within size number small = grind (arith, nat_tests)

size_is_within : (size : ℕ) (number : ℤ)
    → nat_le (unsigned_abs number) size ≡ true
    → unsigned_abs number ≤ size
size_is_within size number small = grind (arith, nat_tests)

pub signed_taken : (size : ℕ) (bytes : List ℕ) (place : ℕ) (number : ℤ) (next : ℕ)
    → AreBytes bytes
    → signed_at size bytes place ≡ Ok (number, next)
    → Spelled bytes place (signed_bytes number) next × (unsigned_abs number ≤ size) × FitsSigned w64 number
unfolding signed_at signed_bytes
signed_taken size bytes place number next fits e =
    let value : List ℕ → ℤ = λ field. cast_signed w64 (from_be_bytes w64 field) in
    let rule : ℤ → Bool = λ z. nat_le (unsigned_abs z) size in
    let t = field_taken 8 value rule bytes place number next e in
    let field = take 8 (drop place bytes) in
    let fine = AreBytes-slice 8 place bytes fits in
    let spells = eight_spell field (slice_long 8 place bytes t.0) fine in
    let back : cast_unsigned w64 number ≡ from_be_bytes w64 field = ap (cast_unsigned w64) (sym t.1) ∙ of_z-to_z w64 (from_be_bytes w64 field) (below_wide field fine) in
    let text : field ≡ number_bytes (cast_unsigned w64 number) = sym spells ∙ ap number_bytes (sym back) in
    let long = length-number_bytes (cast_unsigned w64 number) in (
      record { stands = stands_eight (number_bytes (cast_unsigned w64 number)) bytes place long text; after = omega (arith, t.3, long) },
      size_is_within size number t.2,
      subst (FitsSigned w64) t.1 (sfits_to_z (Fits-of_lt (below_wide field fine))),
    )

pub signed_again : (size : ℕ) (bytes : List ℕ) (place : ℕ) (number : ℤ)
    → place ≤ length bytes
    → FitsSigned w64 number
    → unsigned_abs number ≤ size
    → StandsAt (signed_bytes number) bytes place
    → signed_at size bytes place ≡ Ok (number, place + length (signed_bytes number))
unfolding signed_at signed_bytes
signed_again size bytes place number within narrow small stands =
    let value : List ℕ → ℤ = λ field. cast_signed w64 (from_be_bytes w64 field) in
    let rule : ℤ → Bool = λ z. nat_le (unsigned_abs z) size in
    let long = length-number_bytes (cast_unsigned w64 number) in
    let ends = stands_within (number_bytes (cast_unsigned w64 number)) bytes place stands within in
    let is : value (take 8 (drop place bytes)) ≡ number =
    ap value (eight_stand (number_bytes (cast_unsigned w64 number)) bytes place long stands)
    ∙ ap (cast_signed w64) (eight_back (cast_unsigned w64 number) (Fits-of_z narrow).fits) ∙ to_z-of_z w64 number narrow in
    let good = size_within size number small in
    rw long (field_again 8 value rule bytes place number (omega (arith, long, ends)) is good)
