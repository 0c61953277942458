-- A reader that begins at the front of what is left of bytes reads just what is spelled there.
use Rattle.std.proofs.Common.{◌≡◌, ℕ, ◌+◌, ◌≤◌, List, length, drop, Ok, refl, sym, ap, ◌∙◌, arith}
use Rattle.std.proofs.lemmas.List.{get_or-drop}
use Rattle.run_model.specs.Bytes.{◌>>=◌, Field, StandsAt}
use Rattle.run_model.proofs.ByteLemmas.{AreBytes, bind_ok, ok_is}
use Rattle.run_model.proofs.Readers.{Reader, Made}

-- what is left of bytes
pub AreBytes-drop : (place : ℕ) (bytes : List ℕ) → AreBytes bytes → AreBytes (drop place bytes)
AreBytes-drop place bytes fits i = rw get_or-drop (fits (place + i))

pub from_front : {A B : Type 0} {Spells : A → List ℕ → Type 0} {read : List ℕ → ℕ → Field A}
    → Reader Spells read
    → (make : A → B)
    → Reader (Made Spells make) (λ bytes place. read (drop place bytes) 0 >>= λ x. Ok (make x.0, place + x.1))
from_front {A = A} {B = B} {Spells = Spells} {read = read} reader make = record {
  taken = λ bytes place y end fits e.
      let a = bind_ok (read (drop place bytes) 0) (λ x. Ok (make x.0, place + x.1)) (y, end) e in
      let p = reader.taken (drop place bytes) 0 a.0.0 a.0.1 (AreBytes-drop place bytes fits) a.1 in
      let made : B × ℕ = (make a.0.0, place + a.0.1) in
      let is = ok_is made (y, end) a.2 in
      let y-is : make a.0.0 ≡ y = ap (λ (r : B × ℕ). r.0) is in
      let end-is : place + a.0.1 ≡ end = ap (λ (r : B × ℕ). r.1) is in
      (p.0, (a.0.0, p.1, sym y-is), record { stands = p.2.stands; after = omega (arith, end-is, p.2.after) });
  again = λ bytes place y text fits within s stands.
      let one = reader.again (drop place bytes) 0 s.0 text (AreBytes-drop place bytes fits) (omega arith) s.1 stands in
      let ends : place + (0 + length text) ≡ place + length text = omega arith in
      rw (one, s.2, ends) refl;
}
