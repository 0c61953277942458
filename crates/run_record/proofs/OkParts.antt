-- Parts of a record, as readers see them: what matters is what was read, whichever the fault.
use Rattle.std.proofs.Common.{◌≡◌, ℕ, ◌+◌, Bool, true, false, cond, List, length, Result, Ok, Err, refl, sym, ap, subst, ◌∙◌}
use Rattle.std.specs.Result.{IfOk}
use Rattle.run_model.specs.declared.fields.FieldFault.{FieldFault}
use Rattle.run_model.specs.declared.fields.FieldFault.TheVariants as field
use Rattle.run_model.specs.Bytes.{◌>>=◌, Field}
use Rattle.run_model.proofs.Readers.{Reader}
use Rattle.run_record.specs.declared.fault.RecordFault.{RecordFault}
use Rattle.run_record.specs.RecordAt.{Part, part_of, keeping}
use Rattle.run_record.specs.RecordAt as whole

-- what was read, without what the fault was
abbrev pub ok_of : {A : Type 0} → Result A RecordFault → Result A FieldFault
ok_of (Ok x) = Ok x
ok_of (Err fault) = Err field.Short

-- a good one
abbrev pub good : {A : Type 0} → A → Result A RecordFault
good x = Ok x

good_is : {A : Type 0} (x y : A) → good x ≡ good y → x ≡ y
good_is x y e = cc

pub ok_bind : {A B : Type 0} (read : Result A RecordFault) (next : A → Result B RecordFault)
    → ok_of (whole.then_part read next) ≡ (ok_of read >>= λ x. ok_of (next x))
ok_bind (Ok x) next = refl
ok_bind (Err fault) next = refl

pub is_ok : {A : Type 0} (read : Result A RecordFault) (x : A) → ok_of read ≡ Ok x → read ≡ Ok x
is_ok (Ok y) x e = cc
is_ok (Err fault) x e = absurd cc

-- a reader that reads the same
pub same_reader : {A : Type 0} {Spells : A → List ℕ → Type 0} {read other : List ℕ → ℕ → Field A}
    → Reader Spells read
    → ((bytes : List ℕ) (place : ℕ) → other bytes place ≡ read bytes place)
    → Reader Spells other
same_reader reader same = record {
  taken = λ bytes place x next fits e. reader.taken bytes place x next fits (sym (same bytes place) ∙ e);
  again = λ bytes place x text fits within s stands. same bytes place ∙ reader.again bytes place x text fits within s stands;
}

part_ok : {A : Type 0} (len : ℕ) (read : Field A) (x : A × ℕ) → ok_of (part_of len read) ≡ Ok x → read ≡ Ok x
part_ok len (Ok y) x e = e
part_ok len (Err fault) x e = absurd cc

pub part_reader : {A : Type 0} {Spells : A → List ℕ → Type 0} {read : List ℕ → ℕ → Field A}
    → Reader Spells read
    → Reader Spells (λ bytes place. ok_of (part_of (length bytes) (read bytes place)))
part_reader {read = read} reader = record {
  taken = λ bytes place x next fits e. reader.taken bytes place x next fits (part_ok (length bytes) (read bytes place) (x, next) e);
  again = λ bytes place x text fits within s stands. rw (reader.again bytes place x text fits within s stands) refl;
}

chosen : {A : Type 0} (test : Bool) (x y : A × ℕ) (fault : RecordFault)
    → ok_of (cond test (Ok x) (Err fault)) ≡ Ok y
    → (test ≡ true) × (x ≡ y)
chosen true x y fault e = (refl, cc)
chosen false x y fault e = absurd cc

kept : {A : Type 0} (rule : A → Bool) (fault : RecordFault) (read : Part A) (x : A) (next : ℕ)
    → ok_of (keeping rule fault read) ≡ Ok (x, next)
    → (ok_of read ≡ Ok (x, next)) × (rule x ≡ true)
kept {A = A} rule fault (Ok y) x next e =
    let c = chosen (rule y.0) y (x, next) fault e in
    (ap (λ (p : A × ℕ). Ok p) c.1, ap (λ (p : A × ℕ). rule p.0) (sym c.1) ∙ c.0)
kept rule fault (Err other) x next e = absurd cc

keeps : {A : Type 0} (rule : A → Bool) (fault : RecordFault) (read : Part A) (x : A) (next : ℕ)
    → ok_of read ≡ Ok (x, next)
    → rule x ≡ true
    → ok_of (keeping rule fault read) ≡ Ok (x, next)
keeps rule fault read x next e good = rw (is_ok read (x, next) e, good) refl

-- what keeps a rule is read
pub kept_reader : {A : Type 0} {Spells : A → List ℕ → Type 0} (rule : A → Bool) (fault : List ℕ → ℕ → RecordFault) (read : List ℕ → ℕ → Part A)
    → Reader Spells (λ bytes place. ok_of (read bytes place))
    → Reader (λ x text. Spells x text × (rule x ≡ true)) (λ bytes place. ok_of (keeping rule (fault bytes place) (read bytes place)))
kept_reader rule fault read reader = record {
  taken = λ bytes place x next fits e.
      let k = kept rule (fault bytes place) (read bytes place) x next e in
      let t = reader.taken bytes place x next fits k.0 in
      (t.0, (t.1, k.1), t.2);
  again = λ bytes place x text fits within s stands.
      keeps rule (fault bytes place) (read bytes place) x (place + length text) (reader.again bytes place x text fits within s.0 stands) s.1;
}

-- what holds of all that was read holds of what was read in a part
pub part_keeps : {A : Type 0} (P : A × ℕ → Type 0) (len : ℕ) (read : Field A) (x : A × ℕ)
    → IfOk read P
    → part_of len read ≡ good x
    → P x
part_keeps P len (Ok y) x holds e = subst P (good_is y x e) holds
part_keeps P len (Err fault) x holds e = absurd cc
