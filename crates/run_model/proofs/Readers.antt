-- Readers that read just what is spelled: of one field, of fields one after the other, and of values made of what was
-- read.
use Rattle.std.proofs.Common.{◌≡◌, ◌≢◌, ℕ, suc, ◌+◌, ◌^◌, ◌<◌, ◌≤◌, ℤ, Bool, true, List, [], ◌∷◌, ◌++◌, length, get_or, Ok, Err, refl, sym, ap, subst, ◌∙◌, arith}
use Rattle.std.specs.Prelude.{unsigned_abs}
use Rattle.std.specs.Result.{IfOk}
use Rattle.std.specs.Int.{w64}
use Rattle.std.specs.Int.RustNames.{FitsSigned}
use Rattle.std.proofs.lemmas.Bool.Decides.{nat_tests}
use Rattle.std.proofs.lemmas.List.{length-append}
use Rattle.run_model.specs.declared.fields.FieldFault.{FieldFault}
use Rattle.run_model.specs.Bytes.{◌>>=◌, Field, StandsAt, field_at, is_from_to, is_other, byte_at, other_at, number_at, signed_at, any_number_at, any_signed_at, number_bytes, signed_bytes}
use Rattle.run_model.proofs.ByteLemmas.{AreBytes, Spelled, stands_first, stands_second, stands_within, spelled_then}
use Rattle.run_model.proofs.ByteLemmas.{bind_ok, field_taken, field_again, ok_is, done, same_read, no_read, byte_taken}
use Rattle.run_model.proofs.ByteLemmas.{byte_again, number_taken, number_again, signed_taken, signed_again}

-- What is read stands there, spelled; and what stands there, spelled, is read.
pub record Reader {A : Type 0} (Spells : A → List ℕ → Type 0) (read : List ℕ → ℕ → Field A) : Type 0 where
  pub taken : (bytes : List ℕ) (place : ℕ) (x : A) (next : ℕ)
      → AreBytes bytes
      → read bytes place ≡ Ok (x, next)
      → (text : List ℕ) × Spells x text × Spelled bytes place text next
  pub again : (bytes : List ℕ) (place : ℕ) (x : A) (text : List ℕ)
      → AreBytes bytes
      → place ≤ length bytes
      → Spells x text
      → StandsAt text bytes place
      → read bytes place ≡ Ok (x, place + length text)

-- ---- how values are spelled

-- one after the other, the second as the first has it
abbrev pub Then : {A B : Type 0} → (A → List ℕ → Type 0) → (A → B → List ℕ → Type 0) → B → List ℕ → Type 0
Then {A = A} First Second y text = (x : A) × (a : List ℕ) × (b : List ℕ) × First x a × Second x y b × (text ≡ a ++ b)

-- a value that is made of another
abbrev pub Made : {A B : Type 0} → (A → List ℕ → Type 0) → (A → B) → B → List ℕ → Type 0
Made {A = A} Spells make y text = (x : A) × Spells x text × (y ≡ make x)

-- a number of one byte, of eight, and a signed one
abbrev pub IsByte : ℕ → ℕ → ℕ → List ℕ → Type 0
IsByte least bound number text = (least ≤ number) × (number < bound) × (text ≡ number ∷ [])

abbrev pub IsNumber : ℕ → ℕ → ℕ → List ℕ → Type 0
IsNumber least bound number text = (least ≤ number) × (number < bound) × (text ≡ number_bytes number)

abbrev pub IsSigned : ℕ → ℤ → List ℕ → Type 0
IsSigned size number text = (unsigned_abs number ≤ size) × FitsSigned w64 number × (text ≡ signed_bytes number)

-- a good value, and its spelling
abbrev pub SpelledAs : {A : Type 0} → (A → Type 0) → (A → List ℕ) → A → List ℕ → Type 0
SpelledAs Good spell x text = Good x × (text ≡ spell x)

-- ---- readers of them

pub byte_field : (least bound : ℕ) → Reader (IsByte least bound) (byte_at least bound)
byte_field least bound = record {
  taken = λ bytes place x next fits e.
      let t = byte_taken least bound bytes place x next e in
      (x ∷ [], (t.1, t.2, refl), t.0);
  again = λ bytes place x text fits within s stands.
      let there : StandsAt (x ∷ []) bytes place = subst (λ t. StandsAt t bytes place) s.2 stands in
      rw s.2 (byte_again least bound bytes place x within s.0 s.1 there);
}

pub number_field : (least bound : ℕ) → bound ≤ 2 ^ 64 → Reader (IsNumber least bound) (number_at least bound)
number_field least bound wide = record {
  taken = λ bytes place x next fits e.
      let t = number_taken least bound bytes place x next fits e in
      (number_bytes x, (t.1, t.2, refl), t.0);
  again = λ bytes place x text fits within s stands.
      let there : StandsAt (number_bytes x) bytes place = subst (λ t. StandsAt t bytes place) s.2 stands in
      rw s.2 (number_again least bound bytes place x within (omega (arith, s.1)) s.0 s.1 there);
}

pub signed_field : (size : ℕ) → Reader (IsSigned size) (signed_at size)
signed_field size = record {
  taken = λ bytes place x next fits e.
      let t = signed_taken size bytes place x next fits e in
      (signed_bytes x, (t.1, t.2, refl), t.0);
  again = λ bytes place x text fits within s stands.
      let there : StandsAt (signed_bytes x) bytes place = subst (λ t. StandsAt t bytes place) s.2 stands in
      rw s.2 (signed_again size bytes place x within s.1 s.0 there);
}

pub any_number : Reader (IsNumber 0 (2 ^ 64)) any_number_at
any_number = number_field 0 (2 ^ 64) (omega arith)

pub any_signed : Reader (IsSigned (2 ^ 63)) any_signed_at
any_signed = signed_field (2 ^ 63)

-- a value that is there without a byte
pub given : {A : Type 0} (x : A) → Reader (λ y text. (y ≡ x) × (text ≡ [])) (λ bytes place. Ok (x, place))
given {A = A} x = record {
  taken = λ bytes place y next fits e.
      let made : A × ℕ = (x, place) in
      let is = ok_is made (y, next) e in
      let y-is : x ≡ y = ap (λ (p : A × ℕ). p.0) is in
      let next-is : place ≡ next = ap (λ (p : A × ℕ). p.1) is in
      ([], (sym y-is, refl), record { stands = refl; after = omega (arith, next-is) });
  again = λ bytes place y text fits within s stands.
      let ends : place + length text ≡ place = omega (arith, ap length s.1) in
      rw (s.0, ends) refl;
}

-- one reader, and then another that may rest on what the first read
pub and_then_if : {A B : Type 0} {First : A → List ℕ → Type 0} {Second : A → B → List ℕ → Type 0} {read : List ℕ → ℕ → Field A} {next : A → List ℕ → ℕ → Field B}
    → Reader First read
    → ((x : A) (text : List ℕ) → First x text → Reader (Second x) (next x))
    → Reader (Then First Second) (λ bytes place. read bytes place >>= λ x. next x.0 bytes x.1)
and_then_if {A = A} {B = B} {First = First} {Second = Second} {read = read} {next = next} first second = record {
  taken = λ bytes place y end fits e.
      let a = bind_ok (read bytes place) (λ x. next x.0 bytes x.1) (y, end) e in
      let p = first.taken bytes place a.0.0 a.0.1 fits a.1 in
      let q = (second a.0.0 p.0 p.1).taken bytes a.0.1 y end fits a.2 in
      (p.0 ++ q.0, (a.0.0, p.0, q.0, p.1, q.1, refl), spelled_then bytes place p.0 a.0.1 q.0 end p.2 q.2);
  again = λ bytes place y text fits within s stands.
      let both : StandsAt (s.1 ++ s.2) bytes place = subst (λ t. StandsAt t bytes place) s.5 stands in
      let start = stands_first s.1 s.2 bytes place both in
      let one = first.again bytes place s.0 s.1 fits within s.3 start in
      let past = stands_within s.1 bytes place start within in
      let two = (second s.0 s.1 s.3).again bytes (place + length s.1) y s.2 fits past s.4 (stands_second s.1 s.2 bytes place both) in
      let ends : place + length s.1 + length s.2 ≡ place + length text = omega (arith, ap length s.5, length-append s.1 s.2) in
      rw (one, two, ends) refl;
}

-- the same, where the second rests on the value alone
pub and_then : {A B : Type 0} {First : A → List ℕ → Type 0} {Second : A → B → List ℕ → Type 0} {read : List ℕ → ℕ → Field A} {next : A → List ℕ → ℕ → Field B}
    → Reader First read
    → ((x : A) → Reader (Second x) (next x))
    → Reader (Then First Second) (λ bytes place. read bytes place >>= λ x. next x.0 bytes x.1)
and_then first second = and_then_if first (λ x text is. second x)

-- a value that is made of what was read
pub making : {A B : Type 0} {Spells : A → List ℕ → Type 0} {read : List ℕ → ℕ → Field A}
    → Reader Spells read
    → (make : A → B)
    → Reader (Made Spells make) (λ bytes place. read bytes place >>= λ x. Ok (make x.0, x.1))
making {A = A} {B = B} {Spells = Spells} {read = read} reader make = record {
  taken = λ bytes place y end fits e.
      let a = bind_ok (read bytes place) (λ x. Ok (make x.0, x.1)) (y, end) e in
      let p = reader.taken bytes place a.0.0 a.0.1 fits a.1 in
      let made : B × ℕ = (make a.0.0, a.0.1) in
      let is = ok_is made (y, end) a.2 in
      let y-is : make a.0.0 ≡ y = ap (λ (r : B × ℕ). r.0) is in
      let end-is : a.0.1 ≡ end = ap (λ (r : B × ℕ). r.1) is in
      (p.0, (a.0.0, p.1, sym y-is), subst (Spelled bytes place p.0) end-is p.2);
  again = λ bytes place y text fits within s stands.
      let one = reader.again bytes place s.0 text fits within s.1 stands in
      rw (one, s.2) refl;
}

-- the same, where the spelling is said in another way
pub said : {A : Type 0} {Spells Says : A → List ℕ → Type 0} {read : List ℕ → ℕ → Field A}
    → Reader Spells read
    → ((x : A) (text : List ℕ) → Spells x text → Says x text)
    → ((x : A) (text : List ℕ) → Says x text → Spells x text)
    → Reader Says read
said reader to from = record {
  taken = λ bytes place x next fits e.
      let p = reader.taken bytes place x next fits e in
      (p.0, to x p.0 p.1, p.2);
  again = λ bytes place x text fits within s stands. reader.again bytes place x text fits within (from x text s) stands;
}

-- ---- a byte by its rule

from_itself : (number : ℕ) → is_from_to 0 (suc number) number ≡ true
from_itself number = grind (arith, nat_tests)

-- a byte that keeps a rule
pub byte_by_rule : (rule : ℕ → Bool) → Reader (λ byte text. (rule byte ≡ true) × (text ≡ byte ∷ [])) (field_at 1 (λ field. get_or field 0 0) rule)
unfolding byte_at
byte_by_rule rule = record {
  taken = λ bytes place x next fits e.
      let t = field_taken 1 (λ field. get_or field 0 0) rule bytes place x next e in
      let byte : byte_at 0 (suc x) bytes place ≡ Ok (x, place + 1) = field_again 1 (λ field. get_or field 0 0) (is_from_to 0 (suc x)) bytes place x t.0 t.1 (from_itself x) in
      let b = (byte_field 0 (suc x)).taken bytes place x (place + 1) fits byte in
      (b.0, (t.2, b.1.2), record { stands = b.2.stands; after = t.3 ∙ b.2.after });
  again = λ bytes place x text fits within s stands.
      let byte = (byte_field 0 (suc x)).again bytes place x text fits within (omega arith, omega arith, s.1) stands in
      let t = field_taken 1 (λ field. get_or field 0 0) (is_from_to 0 (suc x)) bytes place x (place + length text) byte in
      let again = field_again 1 (λ field. get_or field 0 0) rule bytes place x t.0 t.1 s.0 in
      again ∙ ap (λ n. Ok (x, n)) (sym t.3);
}

-- a replica other than one
other_is : (other replicas replica : ℕ)
    → is_other other replicas replica ≡ true
    → (replica < replicas) × (replica ≢ other)
other_is other replicas replica e = (grind (arith, nat_tests), λ same. grind (arith, nat_tests))

is_the_other : (other replicas replica : ℕ)
    → replica < replicas
    → replica ≢ other
    → is_other other replicas replica ≡ true
is_the_other other replicas replica below isnt = grind (arith, nat_tests)

abbrev pub IsOther : ℕ → ℕ → ℕ → List ℕ → Type 0
IsOther other replicas replica text = (replica < replicas) × (replica ≢ other) × (text ≡ replica ∷ [])

pub other_reader : (other replicas : ℕ) → Reader (IsOther other replicas) (other_at other replicas)
unfolding other_at
other_reader other replicas =
    said (byte_by_rule (is_other other replicas))
    (λ replica text s. let is = other_is other replicas replica s.0 in (is.0, is.1, s.1))
    (λ replica text s. (is_the_other other replicas replica s.0 s.1, s.2))

-- ---- what a call that reads promises

module _ {A : Type 0} {Good : A → Type 0} {spell : A → List ℕ} {read : List ℕ → ℕ → Field A} (reader : Reader (SpelledAs Good spell) read) (bytes : List ℕ) (place : ℕ) (fits : AreBytes bytes) where
  -- what was read is good, and stands there
  pub found : (x : A) (next : ℕ)
      → Ok (x, next) ≡ read bytes place
      → Good x × StandsAt (spell x) bytes place × (next ≡ place + length (spell x))
  found x next e =
      let t = reader.taken bytes place x next fits (sym e) in
      let spelled = subst (λ text. Spelled bytes place text next) t.1.1 t.2 in
      (t.1.0, spelled.stands, spelled.after)

  -- it ends within the bytes
  pub ends_within : (result : Field A)
      → place ≤ length bytes
      → result ≡ read bytes place
      → IfOk result (λ x. x.1 ≤ length bytes)
  ends_within (Ok x) within e =
      let t = found x.0 x.1 e in
      omega (arith, t.2, stands_within (spell x.0) bytes place t.1 within)
  ends_within (Err fault) within e = tt

  -- what stands there was read
  pub only : (x : A) (next : ℕ)
      → place ≤ length bytes
      → Ok (x, next) ≡ read bytes place
      → (y : A)
      → Good y
      → StandsAt (spell y) bytes place
      → done x ≡ done y
  only x next within e y good stands =
      same_read (read bytes place) x y next (place + length (spell y)) e (reader.again bytes place y (spell y) fits within (good, refl) stands)

  -- and there is no fault where something stands
  pub no_fault : (fault : FieldFault)
      → place ≤ length bytes
      → Err fault ≡ read bytes place
      → (y : A)
      → Good y
      → StandsAt (spell y) bytes place
      → ⊥
  no_fault fault within e y good stands =
      no_read (read bytes place) fault y (place + length (spell y)) e (reader.again bytes place y (spell y) fits within (good, refl) stands)

-- ---- values by their tags

module _ {A : Type 0} (low high : ℕ) (fields : ℕ → List ℕ → ℕ → Field A) where
  -- what is read by its tag stands there behind it
  pub tagged_taken : (Says : A → List ℕ → Type 0)
      → ((tag : ℕ) (bytes : List ℕ) (place : ℕ) (x : A) (next : ℕ)
      → low ≤ tag
      → tag < high
      → AreBytes bytes
      → fields tag bytes place ≡ Ok (x, next)
      → (text : List ℕ) × Says x (tag ∷ text) × Spelled bytes place text next)
      → (bytes : List ℕ) (place : ℕ) (x : A) (next : ℕ)
      → AreBytes bytes
      → (byte_at low high bytes place >>= λ tag. fields tag.0 bytes tag.1) ≡ Ok (x, next)
      → (text : List ℕ) × Says x text × Spelled bytes place text next
  tagged_taken Says by_tag bytes place x next fits e =
      let a = bind_ok (byte_at low high bytes place) (λ tag. fields tag.0 bytes tag.1) (x, next) e in
      let tag = byte_taken low high bytes place a.0.0 a.0.1 a.1 in
      let t = by_tag a.0.0 bytes a.0.1 x next tag.1 tag.2 fits a.2 in
      (a.0.0 ∷ t.0, t.1, spelled_then bytes place (a.0.0 ∷ []) a.0.1 t.0 next tag.0 t.2)

  -- and what stands there behind its tag is read
  pub tagged_again : {Spells : A → List ℕ → Type 0} (tag : ℕ)
      → Reader Spells (fields tag)
      → low ≤ tag
      → tag < high
      → (bytes : List ℕ) (place : ℕ) (x : A) (text : List ℕ)
      → AreBytes bytes
      → place ≤ length bytes
      → Spells x text
      → StandsAt (tag ∷ text) bytes place
      → (byte_at low high bytes place >>= λ t. fields t.0 bytes t.1) ≡ Ok (x, place + length (tag ∷ text))
  tagged_again tag reader least bound bytes place x text fits within s stands =
      let start = stands_first (tag ∷ []) text bytes place stands in
      let head = byte_again low high bytes place tag within least bound start in
      let past = stands_within (tag ∷ []) bytes place start within in
      let rest = reader.again bytes (place + 1) x text fits past s (stands_second (tag ∷ []) text bytes place stands) in
      let ends : place + 1 + length text ≡ place + length (tag ∷ text) = omega arith in
      rw (head, rest, ends) refl
