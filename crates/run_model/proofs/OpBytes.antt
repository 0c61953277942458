-- An operation that is read stands where it was read, and one that stands there is read.
use Rattle.std.proofs.Common.{◌≡◌, ℕ, zero, suc, ◌+◌, ◌<◌, ◌≤◌, ℤ, cond, eqb, List, [], ◌∷◌, ◌++◌, length, Ok, refl, sym, ap, ◌∙◌, subst, arith}
use Rattle.std.specs.Int.{w64}
use Rattle.std.proofs.lemmas.Int.{fits_signed_from_abs}
use Rattle.tact_base.specs.declared.limits.TheConstants.{KEY_MAX, VALUE_MAX}
use Rattle.tact_base.specs.declared.write.Op.{Op}
use Rattle.tact_base.specs.declared.write.Op.TheVariants.{Put, Add, Shift}
use Rattle.run_model.specs.Ranges.{IsOpInRange}
use Rattle.run_model.specs.Bytes.{◌>>=◌, StandsAt, byte_at, number_at, signed_at, put_at, add_at, shift_at, op_at, number_bytes, signed_bytes, op_bytes}
use Rattle.run_model.proofs.Readers.{Reader, SpelledAs}
use Rattle.run_model.proofs.ByteLemmas.{AreBytes, Spelled, stands_first, stands_second, stands_within, spelled_then}
use Rattle.run_model.proofs.ByteLemmas.{bind_ok, ok_is, byte_taken, byte_again, number_taken, number_again}
use Rattle.run_model.proofs.ByteLemmas.{signed_taken, signed_again}

put_taken : (bytes : List ℕ) (place : ℕ) (op : Op) (next : ℕ)
    → AreBytes bytes
    → put_at bytes place ≡ Ok (op, next)
    → (key : ℕ) × (value : ℤ) × (op ≡ Put key value) × IsOpInRange op × Spelled bytes place (number_bytes key ++ signed_bytes value) next
unfolding put_at
put_taken bytes place op next fits e =
    let a = bind_ok (number_at 0 (suc KEY_MAX) bytes place) (λ key. signed_at VALUE_MAX bytes key.1 >>= λ value. Ok (Put key.0 value.0, value.1)) (op, next) e in
    let b = bind_ok (signed_at VALUE_MAX bytes a.0.1) (λ value. Ok (Put a.0.0 value.0, value.1)) (op, next) a.2 in
    let t0 = number_taken 0 (suc KEY_MAX) bytes place a.0.0 a.0.1 fits a.1 in
    let t1 = signed_taken VALUE_MAX bytes a.0.1 b.0.0 b.0.1 fits b.1 in
    let made : Op × ℕ = (Put a.0.0 b.0.0, b.0.1) in
    let is = ok_is made (op, next) b.2 in
    let op-is : Put a.0.0 b.0.0 ≡ op = ap (λ (p : Op × ℕ). p.0) is in
    let next-is : b.0.1 ≡ next = ap (λ (p : Op × ℕ). p.1) is in
    let spelled = spelled_then bytes place (number_bytes a.0.0) a.0.1 (signed_bytes b.0.0) b.0.1 t0.0 t1.0 in
    let range : IsOpInRange (Put a.0.0 b.0.0) = (omega (arith, t0.2), t1.1) in
    (a.0.0, b.0.0, sym op-is, subst IsOpInRange op-is range, subst (Spelled bytes place (number_bytes a.0.0 ++ signed_bytes b.0.0)) next-is spelled)

add_taken : (bytes : List ℕ) (place : ℕ) (op : Op) (next : ℕ)
    → AreBytes bytes
    → add_at bytes place ≡ Ok (op, next)
    → (key : ℕ) × (delta : ℤ) × (op ≡ Add key delta) × IsOpInRange op × Spelled bytes place (number_bytes key ++ signed_bytes delta) next
unfolding add_at
add_taken bytes place op next fits e =
    let a = bind_ok (number_at 0 (suc KEY_MAX) bytes place) (λ key. signed_at VALUE_MAX bytes key.1 >>= λ value. Ok (Add key.0 value.0, value.1)) (op, next) e in
    let b = bind_ok (signed_at VALUE_MAX bytes a.0.1) (λ value. Ok (Add a.0.0 value.0, value.1)) (op, next) a.2 in
    let t0 = number_taken 0 (suc KEY_MAX) bytes place a.0.0 a.0.1 fits a.1 in
    let t1 = signed_taken VALUE_MAX bytes a.0.1 b.0.0 b.0.1 fits b.1 in
    let made : Op × ℕ = (Add a.0.0 b.0.0, b.0.1) in
    let is = ok_is made (op, next) b.2 in
    let op-is : Add a.0.0 b.0.0 ≡ op = ap (λ (p : Op × ℕ). p.0) is in
    let next-is : b.0.1 ≡ next = ap (λ (p : Op × ℕ). p.1) is in
    let spelled = spelled_then bytes place (number_bytes a.0.0) a.0.1 (signed_bytes b.0.0) b.0.1 t0.0 t1.0 in
    let range : IsOpInRange (Add a.0.0 b.0.0) = (omega (arith, t0.2), t1.1) in
    (a.0.0, b.0.0, sym op-is, subst IsOpInRange op-is range, subst (Spelled bytes place (number_bytes a.0.0 ++ signed_bytes b.0.0)) next-is spelled)

shift_taken : (bytes : List ℕ) (place : ℕ) (op : Op) (next : ℕ)
    → AreBytes bytes
    → shift_at bytes place ≡ Ok (op, next)
    → (from to amount : ℕ) × (op ≡ Shift from to amount) × IsOpInRange op × Spelled bytes place (number_bytes from ++ (number_bytes to ++ number_bytes amount)) next
unfolding shift_at
shift_taken bytes place op next fits e =
    let a = bind_ok (number_at 0 (suc KEY_MAX) bytes place)
    (λ from. number_at 0 (suc KEY_MAX) bytes from.1 >>= λ to. number_at 0 (suc VALUE_MAX) bytes to.1 >>= λ amount. Ok (Shift from.0 to.0 amount.0, amount.1)) (op, next) e in
    let b = bind_ok (number_at 0 (suc KEY_MAX) bytes a.0.1) (λ to. number_at 0 (suc VALUE_MAX) bytes to.1 >>= λ amount. Ok (Shift a.0.0 to.0 amount.0, amount.1)) (op, next) a.2 in
    let d = bind_ok (number_at 0 (suc VALUE_MAX) bytes b.0.1) (λ amount. Ok (Shift a.0.0 b.0.0 amount.0, amount.1)) (op, next) b.2 in
    let t0 = number_taken 0 (suc KEY_MAX) bytes place a.0.0 a.0.1 fits a.1 in
    let t1 = number_taken 0 (suc KEY_MAX) bytes a.0.1 b.0.0 b.0.1 fits b.1 in
    let t2 = number_taken 0 (suc VALUE_MAX) bytes b.0.1 d.0.0 d.0.1 fits d.1 in
    let made : Op × ℕ = (Shift a.0.0 b.0.0 d.0.0, d.0.1) in
    let is = ok_is made (op, next) d.2 in
    let op-is : Shift a.0.0 b.0.0 d.0.0 ≡ op = ap (λ (p : Op × ℕ). p.0) is in
    let next-is : d.0.1 ≡ next = ap (λ (p : Op × ℕ). p.1) is in
    let later = spelled_then bytes a.0.1 (number_bytes b.0.0) b.0.1 (number_bytes d.0.0) d.0.1 t1.0 t2.0 in
    let spelled = spelled_then bytes place (number_bytes a.0.0) a.0.1 (number_bytes b.0.0 ++ number_bytes d.0.0) d.0.1 t0.0 later in
    let range : IsOpInRange (Shift a.0.0 b.0.0 d.0.0) = (omega (arith, t0.2), omega (arith, t1.2), omega (arith, t2.2)) in
    (a.0.0, b.0.0, d.0.0, sym op-is, subst IsOpInRange op-is range, subst (Spelled bytes place (number_bytes a.0.0 ++ (number_bytes b.0.0 ++ number_bytes d.0.0))) next-is spelled)

-- a tag and what follows it
tagged : (bytes : List ℕ) (place tag mid : ℕ) (fields : List ℕ) (next : ℕ)
    → Spelled bytes place (tag ∷ []) mid
    → Spelled bytes mid fields next
    → Spelled bytes place (tag ∷ fields) next
tagged bytes place tag mid fields next p q = spelled_then bytes place (tag ∷ []) mid fields next p q

-- an operation of a known tag
by_tag : (bytes : List ℕ) (place tag mid : ℕ) (op : Op) (next : ℕ)
    → AreBytes bytes
    → Spelled bytes place (tag ∷ []) mid
    → 1 ≤ tag
    → tag < 4
    → cond (eqb tag 1) (put_at bytes mid) (cond (eqb tag 2) (add_at bytes mid) (shift_at bytes mid)) ≡ Ok (op, next)
    → IsOpInRange op × Spelled bytes place (op_bytes op) next
by_tag bytes place zero mid op next fits first least bound e = absurd (omega arith)
by_tag bytes place (suc zero) mid op next fits first least bound e =
    let t = put_taken bytes mid op next fits e in
    (t.3, subst (λ (o : Op). Spelled bytes place (op_bytes o) next) (sym t.2) (tagged bytes place 1 mid (number_bytes t.0 ++ signed_bytes t.1) next first t.4))
by_tag bytes place (suc (suc zero)) mid op next fits first least bound e =
    let t = add_taken bytes mid op next fits e in
    (t.3, subst (λ (o : Op). Spelled bytes place (op_bytes o) next) (sym t.2) (tagged bytes place 2 mid (number_bytes t.0 ++ signed_bytes t.1) next first t.4))
by_tag bytes place (suc (suc (suc zero))) mid op next fits first least bound e =
    let t = shift_taken bytes mid op next fits e in
    (t.4, subst (λ (o : Op). Spelled bytes place (op_bytes o) next) (sym t.3) (tagged bytes place 3 mid (number_bytes t.0 ++ (number_bytes t.1 ++ number_bytes t.2)) next first t.5))
by_tag bytes place (suc (suc (suc (suc n)))) mid op next fits first least bound e = absurd (omega arith)

-- an operation that was read stands there
pub op_taken : (bytes : List ℕ) (place : ℕ) (op : Op) (next : ℕ)
    → AreBytes bytes
    → op_at bytes place ≡ Ok (op, next)
    → IsOpInRange op × Spelled bytes place (op_bytes op) next
unfolding op_at
op_taken bytes place op next fits e =
    let a = bind_ok (byte_at 1 4 bytes place) (λ tag. cond (eqb tag.0 1) (put_at bytes tag.1) (cond (eqb tag.0 2) (add_at bytes tag.1) (shift_at bytes tag.1))) (op, next) e in
    let t = byte_taken 1 4 bytes place a.0.0 a.0.1 a.1 in
    by_tag bytes place a.0.0 a.0.1 op next fits t.0 t.1 t.2 a.2

-- a key and a signed number are read where they stand
pair_again : (bytes : List ℕ) (place key : ℕ) (number : ℤ)
    → place ≤ length bytes
    → key ≤ KEY_MAX
    → StandsAt (number_bytes key ++ signed_bytes number) bytes place
    → (number_at 0 (suc KEY_MAX) bytes place ≡ Ok (key, place + length (number_bytes key)))
    × StandsAt (signed_bytes number) bytes (place + length (number_bytes key))
    × (place + length (number_bytes key) ≤ length bytes)
pair_again bytes place key number within small stands =
    let first = stands_first (number_bytes key) (signed_bytes number) bytes place stands in (
      number_again 0 (suc KEY_MAX) bytes place key within (omega arith) (omega arith) (omega arith) first,
      stands_second (number_bytes key) (signed_bytes number) bytes place stands,
      stands_within (number_bytes key) bytes place first within,
    )

-- an operation that stands there is read
pub op_again : (op : Op) (bytes : List ℕ) (place : ℕ)
    → place ≤ length bytes
    → IsOpInRange op
    → StandsAt (op_bytes op) bytes place
    → (next : ℕ) × (op_at bytes place ≡ Ok (op, next))
unfolding op_at put_at add_at shift_at
op_again (Put key value) bytes place within fits stands =
    let fields = number_bytes key ++ signed_bytes value in
    let tag-stands = stands_first (1 ∷ []) fields bytes place stands in
    let tag = byte_again 1 4 bytes place 1 within (omega arith) (omega arith) tag-stands in
    let inside = stands_within (1 ∷ []) bytes place tag-stands within in
    let t = pair_again bytes (place + 1) key value inside fits.0 (stands_second (1 ∷ []) fields bytes place stands) in
    let last = signed_again VALUE_MAX bytes (place + 1 + length (number_bytes key)) value t.2 (fits_signed_from_abs w64 value (omega (arith, fits.1))) fits.1 t.1 in
    (place + 1 + length (number_bytes key) + length (signed_bytes value), rw (tag, t.0, last) refl)
op_again (Add key delta) bytes place within fits stands =
    let fields = number_bytes key ++ signed_bytes delta in
    let tag-stands = stands_first (2 ∷ []) fields bytes place stands in
    let tag = byte_again 1 4 bytes place 2 within (omega arith) (omega arith) tag-stands in
    let inside = stands_within (2 ∷ []) bytes place tag-stands within in
    let t = pair_again bytes (place + 1) key delta inside fits.0 (stands_second (2 ∷ []) fields bytes place stands) in
    let last = signed_again VALUE_MAX bytes (place + 1 + length (number_bytes key)) delta t.2 (fits_signed_from_abs w64 delta (omega (arith, fits.1))) fits.1 t.1 in
    (place + 1 + length (number_bytes key) + length (signed_bytes delta), rw (tag, t.0, last) refl)
op_again (Shift from to amount) bytes place within fits stands =
    let fields = number_bytes from ++ (number_bytes to ++ number_bytes amount) in
    let tag-stands = stands_first (3 ∷ []) fields bytes place stands in
    let tag = byte_again 1 4 bytes place 3 within (omega arith) (omega arith) tag-stands in
    let inside = stands_within (3 ∷ []) bytes place tag-stands within in
    let all = stands_second (3 ∷ []) fields bytes place stands in
    let one-stands = stands_first (number_bytes from) (number_bytes to ++ number_bytes amount) bytes (place + 1) all in
    let one = number_again 0 (suc KEY_MAX) bytes (place + 1) from inside (omega arith) (omega arith) (omega arith) one-stands in
    let past-one = stands_within (number_bytes from) bytes (place + 1) one-stands inside in
    let rest = stands_second (number_bytes from) (number_bytes to ++ number_bytes amount) bytes (place + 1) all in
    let two-stands = stands_first (number_bytes to) (number_bytes amount) bytes (place + 1 + length (number_bytes from)) rest in
    let two = number_again 0 (suc KEY_MAX) bytes (place + 1 + length (number_bytes from)) to past-one (omega arith) (omega arith) (omega arith) two-stands in
    let past-two = stands_within (number_bytes to) bytes (place + 1 + length (number_bytes from)) two-stands past-one in
    let last = number_again 0 (suc VALUE_MAX) bytes (place + 1 + length (number_bytes from) + length (number_bytes to)) amount past-two (omega arith) (omega arith) (omega arith)
    (stands_second (number_bytes to) (number_bytes amount) bytes (place + 1 + length (number_bytes from)) rest) in
    (place + 1 + length (number_bytes from) + length (number_bytes to) + length (number_bytes amount), rw (tag, one, two, last) refl)

-- so operations are read as they are spelled
pub op_reader : Reader (SpelledAs IsOpInRange op_bytes) op_at
op_reader = record {
  taken = λ bytes place op next fits e.
      let t = op_taken bytes place op next fits e in
      (op_bytes op, (t.0, refl), t.1);
  again = λ bytes place op text fits within s stands.
      let there : StandsAt (op_bytes op) bytes place = subst (λ t. StandsAt t bytes place) s.1 stands in
      let read = op_again op bytes place within s.0 there in
      let t = op_taken bytes place op read.0 fits read.1 in
      let ends : read.0 ≡ place + length text = t.1.after ∙ ap (λ spelled. place + length spelled) (sym s.1) in
      rw (read.1, ends) refl;
}
