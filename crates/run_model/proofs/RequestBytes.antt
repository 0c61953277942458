-- A request that is read stands where it was read, and one that stands there is read.
use Rattle.std.proofs.Common.{◌≡◌, ℕ, zero, suc, ◌+◌, ◌<◌, ◌≤◌, List, [], ◌∷◌, ◌++◌, length, Ok, refl, sym, subst, arith}
use Rattle.std.specs.Prelude.{unsigned_abs}
use Rattle.tact_base.specs.declared.limits.TheConstants.{AMOUNT_MAX, KEY_MAX}
use Rattle.run_model.specs.declared.call.Request.{Request}
use Rattle.run_model.specs.declared.call.Request.TheVariants.{Write, Held, Reserve, Release, Read}
use Rattle.run_model.specs.Ranges.{IsOpInRange}
use Rattle.run_model.specs.Bytes.{StandsAt, AreWeightsOf, AreNeedsOf, number_bytes, weight_bytes, weights_bytes, needs_bytes, op_bytes}
use Rattle.run_model.specs.CallBytes.{IsRequestOf, HasConitsBelow, request_bytes, write_at, held_at, reserve_at, release_at, read_at, request_fields_at, request_at}
use Rattle.run_model.proofs.ByteLemmas.{AreBytes, Spelled}
use Rattle.run_model.proofs.Readers.{Reader, Then, Made, IsByte, IsNumber, SpelledAs, byte_field, number_field, and_then, making, tagged_taken, tagged_again}
use Rattle.run_model.proofs.OpBytes.{op_reader}
use Rattle.run_model.proofs.WeightBytes.{IsWeight, weight_reader, weights_reader, needs_reader, limits_of, limits_hold}

module _ (conits : ℕ) where
  abbrev Says : Request → List ℕ → Type 0
  Says = SpelledAs (IsRequestOf conits) request_bytes

  -- ---- the fields of each kind

  write_reader : Reader (Then (SpelledAs (AreWeightsOf conits) weights_bytes) (λ weights. Made (SpelledAs IsOpInRange op_bytes) (λ op. Write weights op))) (write_at conits)
  unfolding write_at
  write_reader = and_then (weights_reader conits) (λ weights. making op_reader (λ op. Write weights op))

  held_reader : Reader (Then (IsWeight conits 0) (λ weight. Made (SpelledAs IsOpInRange op_bytes) (λ op. Held weight op))) (held_at conits)
  unfolding held_at
  held_reader = and_then (weight_reader conits 0) (λ weight. making op_reader (λ op. Held weight op))

  reserve_reader : Reader (Then (IsByte 0 conits) (λ conit. Made (IsNumber 0 (suc AMOUNT_MAX)) (λ amount. Reserve conit amount))) (reserve_at conits)
  unfolding reserve_at
  reserve_reader = and_then (byte_field 0 conits) (λ conit. making (number_field 0 (suc AMOUNT_MAX) (omega arith)) (λ amount. Reserve conit amount))

  release_reader : Reader (Then (IsByte 0 conits) (λ conit. Made (IsNumber 0 (suc AMOUNT_MAX)) (λ amount. Release conit amount))) (release_at conits)
  unfolding release_at
  release_reader = and_then (byte_field 0 conits) (λ conit. making (number_field 0 (suc AMOUNT_MAX) (omega arith)) (λ amount. Release conit amount))

  read_reader : Reader (Then (IsNumber 0 (suc KEY_MAX)) (λ key. Made (SpelledAs (AreNeedsOf conits) needs_bytes) (λ needs. Read key needs))) (read_at conits)
  unfolding read_at
  read_reader = and_then (number_field 0 (suc KEY_MAX) (omega arith)) (λ key. making (needs_reader conits) (λ needs. Read key needs))

  -- ---- by its tag

  by_tag : (tag : ℕ) (bytes : List ℕ) (place : ℕ) (request : Request) (next : ℕ)
      → 1 ≤ tag
      → tag < 6
      → AreBytes bytes
      → request_fields_at conits tag bytes place ≡ Ok (request, next)
      → (text : List ℕ) × Says request (tag ∷ text) × Spelled bytes place text next
  unfolding request_fields_at
  by_tag zero bytes place request next low high fits e = absurd (omega arith)
  by_tag (suc zero) bytes place request next low high fits e =
      let t = write_reader.taken bytes place request next fits e in
      let s = t.1 in
      let spells : 1 ∷ t.0 ≡ request_bytes (Write s.0 s.4.0) = rw (s.5, s.3.1, s.4.1.1) refl in
      (t.0, subst (λ r. Says r (1 ∷ t.0)) (sym s.4.2) ((s.3.0, s.4.1.0), spells), t.2)
  by_tag (suc (suc zero)) bytes place request next low high fits e =
      let t = held_reader.taken bytes place request next fits e in
      let s = t.1 in
      let spells : 2 ∷ t.0 ≡ request_bytes (Held s.0 s.4.0) = rw (s.5, s.3.1, s.4.1.1) refl in
      let small = limits_hold (unsigned_abs s.0.nweight) s.0.oweight s.3.0.limits in
      (t.0, subst (λ r. Says r (2 ∷ t.0)) (sym s.4.2) ((s.3.0.below, small.0, small.1, s.4.1.0), spells), t.2)
  by_tag (suc (suc (suc zero))) bytes place request next low high fits e =
      let t = reserve_reader.taken bytes place request next fits e in
      let s = t.1 in
      let spells : 3 ∷ t.0 ≡ request_bytes (Reserve s.0 s.4.0) = rw (s.5, s.3.2, s.4.1.2) refl in
      (t.0, subst (λ r. Says r (3 ∷ t.0)) (sym s.4.2) ((s.3.1, omega (arith, s.4.1.1)), spells), t.2)
  by_tag (suc (suc (suc (suc zero)))) bytes place request next low high fits e =
      let t = release_reader.taken bytes place request next fits e in
      let s = t.1 in
      let spells : 4 ∷ t.0 ≡ request_bytes (Release s.0 s.4.0) = rw (s.5, s.3.2, s.4.1.2) refl in
      (t.0, subst (λ r. Says r (4 ∷ t.0)) (sym s.4.2) ((s.3.1, omega (arith, s.4.1.1)), spells), t.2)
  by_tag (suc (suc (suc (suc (suc zero))))) bytes place request next low high fits e =
      let t = read_reader.taken bytes place request next fits e in
      let s = t.1 in
      let spells : 5 ∷ t.0 ≡ request_bytes (Read s.0 s.4.0) = rw (s.5, s.3.2, s.4.1.1) refl in
      (t.0, subst (λ r. Says r (5 ∷ t.0)) (sym s.4.2) ((omega (arith, s.3.1), s.4.1.0), spells), t.2)
  by_tag (suc (suc (suc (suc (suc (suc n)))))) bytes place request next low high fits e = absurd (omega arith)

  again : (bytes : List ℕ) (place : ℕ) (request : Request) (text : List ℕ)
      → AreBytes bytes
      → place ≤ length bytes
      → Says request text
      → StandsAt text bytes place
      → request_at conits bytes place ≡ Ok (request, place + length text)
  unfolding request_at request_fields_at
  again bytes place (Write weights op) text fits within s stands =
      let there = subst (λ t. StandsAt t bytes place) s.1 stands in
      rw s.1 (tagged_again 1 6 (request_fields_at conits) 1 write_reader (omega arith) (omega arith) bytes place (Write weights op) (weights_bytes weights ++ op_bytes op) fits within
      (weights, weights_bytes weights, op_bytes op, (s.0.0, refl), (op, (s.0.1, refl), refl), refl) there)
  again bytes place (Held weight op) text fits within s stands =
      let there = subst (λ t. StandsAt t bytes place) s.1 stands in
      rw s.1 (tagged_again 1 6 (request_fields_at conits) 2 held_reader (omega arith) (omega arith) bytes place (Held weight op) (weight_bytes weight ++ op_bytes op) fits within (
        weight,
        weight_bytes weight,
        op_bytes op,
        (record { reached = omega arith; below = s.0.0; limits = limits_of (unsigned_abs weight.nweight) weight.oweight s.0.1 s.0.2 }, refl),
        (op, (s.0.3, refl), refl),
        refl,
      ) there)
  again bytes place (Reserve conit amount) text fits within s stands =
      let there = subst (λ t. StandsAt t bytes place) s.1 stands in
      rw s.1 (tagged_again 1 6 (request_fields_at conits) 3 reserve_reader (omega arith) (omega arith) bytes place (Reserve conit amount) (conit ∷ number_bytes amount) fits within
      (conit, conit ∷ [], number_bytes amount, (omega arith, s.0.0, refl), (amount, (omega arith, omega (arith, s.0.1), refl), refl), refl) there)
  again bytes place (Release conit amount) text fits within s stands =
      let there = subst (λ t. StandsAt t bytes place) s.1 stands in
      rw s.1 (tagged_again 1 6 (request_fields_at conits) 4 release_reader (omega arith) (omega arith) bytes place (Release conit amount) (conit ∷ number_bytes amount) fits within
      (conit, conit ∷ [], number_bytes amount, (omega arith, s.0.0, refl), (amount, (omega arith, omega (arith, s.0.1), refl), refl), refl) there)
  again bytes place (Read key needs) text fits within s stands =
      let there = subst (λ t. StandsAt t bytes place) s.1 stands in
      rw s.1 (tagged_again 1 6 (request_fields_at conits) 5 read_reader (omega arith) (omega arith) bytes place (Read key needs) (number_bytes key ++ needs_bytes needs) fits within
      (key, number_bytes key, needs_bytes needs, (omega arith, omega (arith, s.0.0), refl), (needs, (s.0.1, refl), refl), refl) there)

  pub request_reader : Reader (SpelledAs (IsRequestOf conits) request_bytes) (request_at conits)
  unfolding request_at
  request_reader = record { taken = tagged_taken 1 6 (request_fields_at conits) Says by_tag; again = again }

-- a request of a setup names its conits alone
pub named_conits : (conits : ℕ) (request : Request) → IsRequestOf conits request → HasConitsBelow conits request
named_conits conits (Write weights op) s = s.0.1
named_conits conits (Held weight op) s = s.0
named_conits conits (Reserve conit amount) s = s.0
named_conits conits (Release conit amount) s = s.0
named_conits conits (Read key needs) s = s.1.1
