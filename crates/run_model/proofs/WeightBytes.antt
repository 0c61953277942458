-- Weights and needs that are read stand where they were read, and those that stand there are read.
use Rattle.std.proofs.Common.{◌≡◌, ℕ, suc, ◌≤◌, ℤ, pos, Bool, true, nat_le, ◌&&◌, List, [], ◌∷◌, ◌++◌, refl, sym, subst, arith}
use Rattle.std.specs.Prelude.{unsigned_abs}
use Rattle.std.specs.Int.{w64}
use Rattle.std.proofs.lemmas.Int.{fits_signed_from_abs}
use Rattle.std.proofs.lemmas.Bool.Decides.{nat_tests}
use Rattle.tact_base.specs.declared.limits.TheConstants.{AMOUNT_MAX, MOMENT_MAX, WEIGHT_MAX}
use Rattle.tact_base.specs.declared.conit_list.Weight.{Weight}
use Rattle.tact_base.specs.declared.conit_list.Need.{Need}
use Rattle.tact_base.proofs.ConitListLemmas.{weight_in_limits}
use Rattle.run_model.specs.Bytes.{AreWeightsOf, AreNeedsOf, weight_at, weights_at, need_at, needs_at, number_bytes, signed_bytes, weight_bytes, weights_bytes, need_bytes, needs_bytes}
use Rattle.run_model.proofs.Readers.{Reader, Then, Made, IsByte, IsNumber, IsSigned, SpelledAs, byte_field, number_field, signed_field, and_then, making, said}
use Rattle.run_model.proofs.ListBytes.{IsSpelledItem, conit_list_reader}

-- weights in their limits
pub limits_of : (nweight oweight : ℕ)
    → nweight ≤ WEIGHT_MAX
    → oweight ≤ WEIGHT_MAX
    → (nat_le nweight WEIGHT_MAX && nat_le oweight WEIGHT_MAX) ≡ true
limits_of nweight oweight n o = grind (arith, nat_tests)

pub limits_hold : (nweight oweight : ℕ)
    → (nat_le nweight WEIGHT_MAX && nat_le oweight WEIGHT_MAX) ≡ true
    → (nweight ≤ WEIGHT_MAX) × (oweight ≤ WEIGHT_MAX)
limits_hold nweight oweight e = (grind (arith, nat_tests), grind (arith, nat_tests))

-- needs in their limits
abbrev pub need_in_limits : Need → Bool
need_in_limits need = nat_le need.num AMOUNT_MAX && nat_le need.order AMOUNT_MAX && nat_le need.stale MOMENT_MAX

pub need_limits_of : (num order stale : ℕ)
    → num ≤ AMOUNT_MAX
    → order ≤ AMOUNT_MAX
    → stale ≤ MOMENT_MAX
    → (nat_le num AMOUNT_MAX && nat_le order AMOUNT_MAX && nat_le stale MOMENT_MAX) ≡ true
need_limits_of num order stale n o s = grind (arith, nat_tests)

pub need_limits_hold : (num order stale : ℕ)
    → (nat_le num AMOUNT_MAX && nat_le order AMOUNT_MAX && nat_le stale MOMENT_MAX) ≡ true
    → (num ≤ AMOUNT_MAX) × (order ≤ AMOUNT_MAX) × (stale ≤ MOMENT_MAX)
need_limits_hold num order stale e = (grind (arith, nat_tests), grind (arith, nat_tests), grind (arith, nat_tests))

-- ---- weights

abbrev pub IsWeight : ℕ → ℕ → Weight → List ℕ → Type 0
IsWeight conits = IsSpelledItem (λ (weight : Weight). weight.conit) weight_in_limits weight_bytes conits

abbrev WeightFields : ℕ → ℕ → Weight → List ℕ → Type 0
WeightFields conits least =
    Then (IsByte least conits) (λ conit. Then (IsSigned WEIGHT_MAX) (λ nweight. Made (IsNumber 0 (suc WEIGHT_MAX)) (λ oweight. record { conit = conit; nweight = nweight; oweight = oweight })))

pub weight_reader : (conits least : ℕ) → Reader (IsWeight conits least) (weight_at conits least)
unfolding weight_at
weight_reader conits least =
    said (and_then (byte_field least conits) (λ conit. and_then (signed_field WEIGHT_MAX) (λ nweight. making (number_field 0 (suc WEIGHT_MAX) (omega arith)) (weight_of conit nweight)))) to from
  where
    weight_of : ℕ → ℤ → ℕ → Weight
    weight_of conit nweight oweight = record { conit = conit; nweight = nweight; oweight = oweight }

    to : (weight : Weight) (text : List ℕ) → WeightFields conits least weight text → IsWeight conits least weight text
    to weight text s =
        let is : Weight = weight_of s.0 s.4.0 s.4.4.0 in
        let limits = limits_of (unsigned_abs s.4.0) s.4.4.0 s.4.3.0 (omega (arith, s.4.4.1.1)) in
        let spells : text ≡ weight_bytes is = rw (s.5, s.3.2, s.4.5, s.4.3.2, s.4.4.1.2) refl in
        subst (λ (w : Weight). IsWeight conits least w text) (sym s.4.4.2) (record { reached = s.3.0; below = s.3.1; limits = limits }, spells)

    from : (weight : Weight) (text : List ℕ) → IsWeight conits least weight text → WeightFields conits least weight text
    from weight text s =
        let small = limits_hold (unsigned_abs weight.nweight) weight.oweight s.0.limits in (
          weight.conit,
          weight.conit ∷ [],
          signed_bytes weight.nweight ++ number_bytes weight.oweight,
          (s.0.reached, s.0.below, refl),
          (
            weight.nweight,
            signed_bytes weight.nweight,
            number_bytes weight.oweight,
            (small.0, fits_signed_from_abs w64 weight.nweight (omega (arith, small.0)), refl),
            (weight.oweight, (omega arith, omega (arith, small.1), refl), refl),
            refl,
          ),
          s.1,
        )

pub weights_reader : (conits : ℕ) → Reader (SpelledAs (AreWeightsOf conits) weights_bytes) (weights_at conits)
unfolding weights_at
weights_reader conits =
    conit_list_reader (λ (weight : Weight). weight.conit) weight_in_limits weight_bytes conits (record { conit = 0; nweight = pos 0; oweight = 0 }) (weight_at conits) (weight_reader conits)

-- ---- needs

abbrev pub IsNeed : ℕ → ℕ → Need → List ℕ → Type 0
IsNeed conits = IsSpelledItem (λ (need : Need). need.conit) need_in_limits need_bytes conits

abbrev NeedFields : ℕ → ℕ → Need → List ℕ → Type 0
NeedFields conits least =
    Then (IsByte least conits) (λ conit. Then (IsNumber 0 (suc AMOUNT_MAX))
    (λ num. Then (IsNumber 0 (suc AMOUNT_MAX)) (λ order. Made (IsNumber 0 (suc MOMENT_MAX)) (λ stale. record { conit = conit; num = num; order = order; stale = stale }))))

pub need_reader : (conits least : ℕ) → Reader (IsNeed conits least) (need_at conits least)
unfolding need_at
need_reader conits least =
    let amount = number_field 0 (suc AMOUNT_MAX) (omega arith) in
    said (and_then (byte_field least conits) (λ conit. and_then amount (λ num. and_then amount (λ order. making (number_field 0 (suc MOMENT_MAX) (omega arith)) (need_of conit num order))))) to from
  where
    need_of : ℕ → ℕ → ℕ → ℕ → Need
    need_of conit num order stale = record { conit = conit; num = num; order = order; stale = stale }

    to : (need : Need) (text : List ℕ) → NeedFields conits least need text → IsNeed conits least need text
    to need text s =
        let is : Need = need_of s.0 s.4.0 s.4.4.0 s.4.4.4.0 in
        let limits = need_limits_of s.4.0 s.4.4.0 s.4.4.4.0 (omega (arith, s.4.3.1)) (omega (arith, s.4.4.3.1)) (omega (arith, s.4.4.4.1.1)) in
        let spells : text ≡ need_bytes is = rw (s.5, s.3.2, s.4.5, s.4.3.2, s.4.4.5, s.4.4.3.2, s.4.4.4.1.2) refl in
        subst (λ (n : Need). IsNeed conits least n text) (sym s.4.4.4.2) (record { reached = s.3.0; below = s.3.1; limits = limits }, spells)

    from : (need : Need) (text : List ℕ) → IsNeed conits least need text → NeedFields conits least need text
    from need text s =
        let small = need_limits_hold need.num need.order need.stale s.0.limits in (
          need.conit,
          need.conit ∷ [],
          number_bytes need.num ++ (number_bytes need.order ++ number_bytes need.stale),
          (s.0.reached, s.0.below, refl),
          (
            need.num,
            number_bytes need.num,
            number_bytes need.order ++ number_bytes need.stale,
            (omega arith, omega (arith, small.0), refl),
            (
              need.order,
              number_bytes need.order,
              number_bytes need.stale,
              (omega arith, omega (arith, small.1), refl),
              (need.stale, (omega arith, omega (arith, small.2), refl), refl),
              refl,
            ),
            refl,
          ),
          s.1,
        )

pub needs_reader : (conits : ℕ) → Reader (SpelledAs (AreNeedsOf conits) needs_bytes) (needs_at conits)
unfolding needs_at
needs_reader conits = conit_list_reader (λ (need : Need). need.conit) need_in_limits need_bytes conits (record { conit = 0; num = 0; order = 0; stale = 0 }) (need_at conits) (need_reader conits)
