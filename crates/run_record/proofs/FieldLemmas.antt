-- What a token says is in its field's range.
use Rattle.std.proofs.Common.{◌≡◌, ℕ, ◌≤◌, Bool, true, false, cond, nat_le, List, Option, None, Some, Result, Ok, Err, refl, ap, ◌∙◌}
use Rattle.std.specs.Prelude.{ℤ, unsigned_abs}
use Rattle.std.proofs.lemmas.Bool.{leb-true}
use Rattle.tact_base.specs.Numbers.{number_of, signed_of, token_answer, whole_number, whole_signed}
use Rattle.tact_base.specs.declared.tokens.TokenFault.{TokenFault}
use Rattle.tact_base.specs.declared.tokens.TokenFault.TheVariants.{NotNumber, OutOfRange}
use Rattle.run_model.specs.declared.status.LineKind.{LineKind}
use Rattle.run_record.specs.Fields.{◌>>=◌, in_line}
use Rattle.run_record.specs.Lists.{both}

abbrev ok_or : {N : Type 0} → N → Result N TokenFault → N
ok_or value (Ok found) = found
ok_or value (Err fault) = value

answer_in_range : {N : Type 0} (in_range : N → Bool) (said : Option N) (value : N)
    → Ok value ≡ token_answer in_range said
    → in_range value ≡ true
answer_in_range in_range None value is = cc
answer_in_range {N} in_range (Some found) value is = go (in_range found) refl is
  where
    go : (yes : Bool)
        → in_range found ≡ yes
        → ◌≡◌ {A = Result N TokenFault} (Ok value) (cond yes (Ok found) (Err OutOfRange))
        → in_range value ≡ true
    go true test is = ap (λ (r : Result N TokenFault). in_range (ok_or value r)) is ∙ test
    go false test is = cc

pub whole_signed-most : (token : List ℕ) (size : ℕ) (value : ℤ)
    → Ok value ≡ whole_signed token size
    → unsigned_abs value ≤ size
whole_signed-most token size value is = leb-true (unsigned_abs value) size (answer_in_range (λ value. nat_le (unsigned_abs value) size) (signed_of token) value is)

pub whole_number-most : (token : List ℕ) (most value : ℕ)
    → Ok value ≡ whole_number token most
    → value ≤ most
whole_number-most token most value is = leb-true value most (answer_in_range (λ value. nat_le value most) (number_of token) value is)

-- what a reading that went well is made of
abbrev ok_value : {A : Type 0} → A → Result A LineKind → A
ok_value d (Ok x) = x
ok_value d (Err kind) = d

pub ok_is : {A : Type 0} (x y : A) → ◌≡◌ {A = Result A LineKind} (Ok x) (Ok y) → x ≡ y
ok_is x y is = ap (ok_value x) is

pub bind_ok : {A B : Type 0} (read : Result A LineKind) (next : A → Result B LineKind) (y : B)
    → (read >>= next) ≡ Ok y
    → (x : A) × (read ≡ Ok x) × (next x ≡ Ok y)
bind_ok (Ok x) next y is = (x, refl, is)
bind_ok (Err kind) next y is = cc

pub in_line-ok : {A : Type 0} (answer : Result A TokenFault) (x : A)
    → in_line answer ≡ Ok x
    → answer ≡ Ok x
in_line-ok (Ok y) x is = ap Ok (ok_is y x is)
in_line-ok (Err fault) x is = cc

pub both-ok : {A B : Type 0} (first : Result A TokenFault) (second : Result B TokenFault) (x : A × B)
    → both first second ≡ Ok x
    → (first ≡ Ok x.0) × (second ≡ Ok x.1)
both-ok {A} {B} (Ok a) (Ok b) x is =
    let pair : A × B = (a, b) in
    let same : pair ≡ x = ap (ok_or pair) is in
    (ap (λ (p : A × B). Ok p.0) same, ap (λ (p : A × B). Ok p.1) same)
both-ok (Ok a) (Err fault) x is = cc
both-ok (Err NotNumber) second x is = cc
both-ok (Err OutOfRange) (Err NotNumber) x is = cc
both-ok (Err OutOfRange) (Err OutOfRange) x is = cc
both-ok (Err OutOfRange) (Ok b) x is = cc
