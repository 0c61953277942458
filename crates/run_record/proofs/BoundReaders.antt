-- The setup of a record that is read stands where it was read, and one that stands there is read.
use Rattle.std.proofs.Common.{◌≡◌, ℕ, zero, suc, ◌+◌, ◌*◌, ◌/◌, ◌^◌, ◌≤◌, ◌==◌, Bool, true, false, not, cond, List, [], ◌∷◌, ◌++◌, length, take, drop, sum, Ok, Err, inl, inr, refl, sym, ap, subst, ◌∙◌, arith}
use Rattle.std.specs.Prelude.{nat_lt}
use Rattle.std.specs.Int.{w32, from_be_bytes, to_be_bytes}
use Rattle.std.specs.List.{flat_map}
use Rattle.std.proofs.lemmas.Bool.{cases_lt, eqb-true, eq-eqb}
use Rattle.std.proofs.lemmas.Bool.Decides.{nat_tests}
use Rattle.std.proofs.lemmas.List.{length-take, length-drop, get_or-drop, get_or-take, get_or_past}
use Rattle.std.proofs.lemmas.List.Concat.{flat_map-cons}
use Rattle.std.proofs.lemmas.Nat.{be_bytes_4}
use Rattle.tact_base.specs.declared.limits.TheConstants.{ALPHA_MAX, CONITS_MAX, REPLICAS_MAX, REPLICAS_MIN}
use Rattle.tact_base.specs.Setup.{Setup, IsSetup}
use Rattle.run_model.specs.Bytes.{◌>>=◌, Field, StandsAt, number_bytes}
use Rattle.run_model.proofs.ByteLemmas.{AreBytes, stands_within, field_taken, field_again}
use Rattle.run_model.proofs.Readers.{Reader, Then, Made, IsByte, IsNumber, SpelledAs, byte_field, number_field, and_then, making, given, said}
use Rattle.run_model.specs.declared.status.ByteKind.TheVariants as kind
use Rattle.run_record.specs.declared.fault.RecordFault.TheVariants as fault
use Rattle.run_record.specs.declared.parts.Bound.{Bound}
use Rattle.run_record.specs.declared.parts.Counts.{Counts}
use Rattle.run_record.specs.RecordBytes.{setup_bytes}
use Rattle.run_record.specs.EntriesAt.{AreCounts, mark_at, counts_at, loan_bound, loans_at, bound_fields_at}
use Rattle.run_record.specs.RecordAt.{Part, then_part, part_of, bound_at, bounds_at, setup_from, setup_at}
use Rattle.run_record.proofs.OkParts.{ok_of, ok_bind, same_reader, kept_reader, part_reader}
use Rattle.run_record.proofs.SetupRows.{bound_text, bounds_of, spelled_bounds, AreLoans, IsBound, AreBounds, bounds_back, bounds_are_setup, counts_of, setup_bounds, length-bounds_of, setup_back, setup_counts}

-- ---- the mark

AreBytes-slice : (width place : ℕ) (bytes : List ℕ)
    → AreBytes bytes
    → AreBytes (take width (drop place bytes))
AreBytes-slice width place bytes fits i =
    elim (cases_lt i width) [
      | inl lt ↦ rw (get_or-take width (drop place bytes) i 0 lt, get_or-drop) (fits (place + i))
      | inr le ↦ rw (get_or_past (take width (drop place bytes)) i 0 (omega (arith, length-take width (drop place bytes)))) (omega arith)
    ]

abbrev mark_bytes : List ℕ
mark_bytes = 84 ∷ 65 ∷ 67 ∷ 84 ∷ []

abbrev IsMark : ℕ → List ℕ → Type 0
IsMark mark text = (mark ≡ 0x54414354) × (text ≡ mark_bytes)

mark_reader : Reader IsMark mark_at
unfolding mark_at
mark_reader = record {
  taken = λ bytes place mark next fits e.
      let t = field_taken 4 (from_be_bytes w32) (λ m. m == 0x54414354) bytes place mark next e in
      let field = take 4 (drop place bytes) in
      let is : mark ≡ 0x54414354 = eqb-true mark 0x54414354 t.2 in
      let long : length field ≡ 4 = omega (arith, t.0, length-take 4 (drop place bytes), length-drop place bytes) in
      let written : to_be_bytes w32 mark ≡ field = be_bytes_4 field mark long (AreBytes-slice 4 place bytes fits) (sym t.1) in
      let stands : field ≡ mark_bytes = sym written ∙ ap (to_be_bytes w32) is in
      (mark_bytes, (is, refl), record { stands = stands; after = t.3 });
  again = λ bytes place mark text fits within s stands.
      let there : StandsAt mark_bytes bytes place = subst (λ t. StandsAt t bytes place) s.1 stands in
      let value : from_be_bytes w32 (take 4 (drop place bytes)) ≡ mark = ap (from_be_bytes w32) there ∙ sym s.0 in
      let good : (mark == 0x54414354) ≡ true = eq-eqb mark 0x54414354 s.0 in
      let read = field_again 4 (from_be_bytes w32) (λ m. m == 0x54414354) bytes place mark (stands_within mark_bytes bytes place there within) value good in
      rw s.1 read;
}

-- ---- the counts

abbrev counts_bytes : Counts → List ℕ
counts_bytes counts = 84 ∷ 65 ∷ 67 ∷ 84 ∷ 1 ∷ counts.replicas ∷ counts.conits ∷ []

make_counts : ℕ → ℕ → Counts
make_counts replicas conits = record { replicas = replicas; conits = conits }

abbrev CountFields : Counts → List ℕ → Type 0
CountFields =
    Then IsMark (λ mark. Then (IsByte 1 2) (λ version. Then (IsByte REPLICAS_MIN (suc REPLICAS_MAX)) (λ replicas. Made (IsByte 1 (suc CONITS_MAX)) (λ conits. record { replicas = replicas; conits = conits }))))

counts_reader : Reader (SpelledAs AreCounts counts_bytes) counts_at
unfolding counts_at make_counts
counts_reader =
    said (and_then mark_reader (λ mark. and_then (byte_field 1 2) (λ version. and_then (byte_field REPLICAS_MIN (suc REPLICAS_MAX)) (λ replicas. making (byte_field 1 (suc CONITS_MAX)) (make_counts replicas))))) to from
  where
    to : (counts : Counts) (text : List ℕ) → CountFields counts text → SpelledAs AreCounts counts_bytes counts text
    to counts text s =
        let v = s.4 in
        let r = v.4 in
        let c = r.4 in
        let version : v.0 ≡ 1 = omega (arith, v.3.0, v.3.1) in
        let is : Counts = record { replicas = r.0; conits = c.0 } in
        let spells : text ≡ counts_bytes is = rw (s.5, s.3.1, v.5, v.3.2, version, r.5, r.3.2, c.1.2) refl in
        let good : AreCounts is = (r.3.0, omega (arith, r.3.1), c.1.0, omega (arith, c.1.1)) in
        subst (λ (k : Counts). SpelledAs AreCounts counts_bytes k text) (sym c.2) (good, spells)

    from : (counts : Counts) (text : List ℕ) → SpelledAs AreCounts counts_bytes counts text → CountFields counts text
    from counts text s = (
      0x54414354,
      mark_bytes,
      1 ∷ counts.replicas ∷ counts.conits ∷ [],
      (refl, refl),
      (
        1,
        1 ∷ [],
        counts.replicas ∷ counts.conits ∷ [],
        (omega arith, omega arith, refl),
        (
          counts.replicas,
          counts.replicas ∷ [],
          counts.conits ∷ [],
          (s.0.0, omega (arith, s.0.1), refl),
          (counts.conits, (s.0.2, omega (arith, s.0.3), refl), refl),
          refl,
        ),
        refl,
      ),
      s.1,
    )

-- ---- loans

abbrev LoansText : ℕ → ℕ → ℕ → List ℕ → List ℕ → Type 0
LoansText owner count holder loans text = (length loans ≡ count) × AreLoans owner holder loans × (text ≡ flat_map number_bytes loans)

one_or_more : (own : Bool) → cond own 1 (suc ALPHA_MAX) ≤ 2 ^ 64
one_or_more true = omega arith
one_or_more false = omega arith

loans_reader : (owner count holder : ℕ) → Reader (LoansText owner count holder) (loans_at owner count holder)
unfolding loans_at
loans_reader owner zero holder = said (given []) to from
  where
    to : (loans text : List ℕ) → (loans ≡ []) × (text ≡ []) → LoansText owner 0 holder loans text
    to loans text s = subst (λ (xs : List ℕ). LoansText owner 0 holder xs text) (sym s.0) (refl, tt, s.1)

    from : (loans text : List ℕ) → LoansText owner 0 holder loans text → (loans ≡ []) × (text ≡ [])
    from [] text s = (refl, s.2)
    from (x ∷ xs) text s = absurd (omega (arith, s.0))
loans_reader owner (suc count) holder =
    said (and_then (number_field 0 (loan_bound owner holder) (one_or_more (holder == owner))) (λ x. making (loans_reader owner count (suc holder)) (λ xs. x ∷ xs))) to from
  where
    to : (loans text : List ℕ)
        → Then (IsNumber 0 (loan_bound owner holder)) (λ x. Made (LoansText owner count (suc holder)) (λ xs. x ∷ xs)) loans text
        → LoansText owner (suc count) holder loans text
    to loans text s =
        let whole : LoansText owner (suc count) holder (s.0 ∷ s.4.0) text = (ap suc s.4.1.0, (s.3.1, s.4.1.1), rw (flat_map-cons, s.5, s.3.2, s.4.1.2) refl) in
        subst (λ (xs : List ℕ). LoansText owner (suc count) holder xs text) (sym s.4.2) whole

    from : (loans text : List ℕ)
        → LoansText owner (suc count) holder loans text
        → Then (IsNumber 0 (loan_bound owner holder)) (λ x. Made (LoansText owner count (suc holder)) (λ xs. x ∷ xs)) loans text
    from [] text s = absurd (omega (arith, s.0))
    from (x ∷ xs) text s =
        (x, number_bytes x, flat_map number_bytes xs, (omega arith, s.1.0, refl), (xs, (omega (arith, s.0), s.1.1, refl), refl), s.2 ∙ rw flat_map-cons refl)

-- ---- bounds

make_bound : ℕ → List ℕ → Bound
make_bound alpha loans = record { alpha = alpha; loans = loans }

abbrev BoundFields : ℕ → ℕ → Bound → List ℕ → Type 0
BoundFields replicas owner bound text =
    (bound.alpha ≤ ALPHA_MAX) × (length bound.loans ≡ replicas) × AreLoans owner 0 bound.loans × (text ≡ bound_text bound)

fields_reader : (replicas owner : ℕ) → Reader (BoundFields replicas owner) (bound_fields_at replicas owner)
unfolding bound_fields_at make_bound
fields_reader replicas owner =
    said (and_then (number_field 0 (suc ALPHA_MAX) (omega arith)) (λ alpha. making (loans_reader owner replicas 0) (make_bound alpha))) to from
  where
    to : (bound : Bound) (text : List ℕ)
        → Then (IsNumber 0 (suc ALPHA_MAX)) (λ alpha. Made (LoansText owner replicas 0) (λ loans. record { alpha = alpha; loans = loans })) bound text
        → BoundFields replicas owner bound text
    to bound text s =
        let is : Bound = record { alpha = s.0; loans = s.4.0 } in
        let whole : BoundFields replicas owner is text = (omega (arith, s.3.1), s.4.1.0, s.4.1.1, rw (s.5, s.3.2, s.4.1.2) refl) in
        subst (λ (b : Bound). BoundFields replicas owner b text) (sym s.4.2) whole

    from : (bound : Bound) (text : List ℕ)
        → BoundFields replicas owner bound text
        → Then (IsNumber 0 (suc ALPHA_MAX)) (λ alpha. Made (LoansText owner replicas 0) (λ loans. record { alpha = alpha; loans = loans })) bound text
    from bound text s =
        (bound.alpha, number_bytes bound.alpha, flat_map number_bytes bound.loans, (omega arith, omega (arith, s.0), refl), (bound.loans, (s.1, s.2, refl), refl), s.3)

abbrev BoundText : ℕ → ℕ → Bound → List ℕ → Type 0
BoundText replicas owner bound text = IsBound replicas owner bound × (text ≡ bound_text bound)

not_passed : (alpha total : ℕ) → not (nat_lt alpha total) ≡ true → total ≤ alpha
not_passed alpha total e = grind (arith, nat_tests)

passes_not : (alpha total : ℕ) → total ≤ alpha → not (nat_lt alpha total) ≡ true
passes_not alpha total le = grind (arith, nat_tests)

bound_reader : (replicas owner : ℕ) → Reader (BoundText replicas owner) (λ bytes place. ok_of (bound_at replicas owner bytes place))
unfolding bound_at
bound_reader replicas owner =
    said (kept_reader (λ (b : Bound). not (nat_lt b.alpha (sum b.loans))) (λ bytes place. fault.Bytes place kind.LoansOver) (λ bytes place. part_of (length bytes) (bound_fields_at replicas owner bytes place)) (part_reader (fields_reader replicas owner))) to from
  where
    to : (bound : Bound) (text : List ℕ)
        → BoundFields replicas owner bound text × (not (nat_lt bound.alpha (sum bound.loans)) ≡ true)
        → BoundText replicas owner bound text
    to bound text s = (record { alpha = s.0.0; long = s.0.1; loans = s.0.2; total = not_passed bound.alpha (sum bound.loans) s.1 }, s.0.3)

    from : (bound : Bound) (text : List ℕ)
        → BoundText replicas owner bound text
        → BoundFields replicas owner bound text × (not (nat_lt bound.alpha (sum bound.loans)) ≡ true)
    from bound text s = ((s.0.alpha, s.0.long, s.0.loans, s.1), passes_not bound.alpha (sum bound.loans) s.0.total)

abbrev pub BoundsText : ℕ → ℕ → ℕ → ℕ → List Bound → List ℕ → Type 0
BoundsText replicas conits count row bounds text =
    (length bounds ≡ count) × AreBounds replicas conits row bounds × (text ≡ flat_map bound_text bounds)

-- one more in front of what is read
abbrev before : Bound → Field (List Bound) → Field (List Bound)
before bound read = read >>= λ others. Ok (bound ∷ others.0, others.1)

abbrev part_before : Bound → Part (List Bound) → Part (List Bound)
part_before bound read = then_part read (λ others. Ok (bound ∷ others.0, others.1))

before_part : (bound : Bound) (read : Part (List Bound)) → ok_of (part_before bound read) ≡ before bound (ok_of read)
before_part bound (Ok others) = refl
before_part bound (Err f) = refl

pub bounds_reader : (replicas conits count row : ℕ) → Reader (BoundsText replicas conits count row) (λ bytes place. ok_of (bounds_at replicas conits count row bytes place))
unfolding bounds_at
bounds_reader replicas conits zero row = said (given []) to from
  where
    to : (bounds : List Bound) (text : List ℕ) → (bounds ≡ []) × (text ≡ []) → BoundsText replicas conits 0 row bounds text
    to bounds text s = subst (λ (xs : List Bound). BoundsText replicas conits 0 row xs text) (sym s.0) (refl, tt, s.1)

    from : (bounds : List Bound) (text : List ℕ) → BoundsText replicas conits 0 row bounds text → (bounds ≡ []) × (text ≡ [])
    from [] text s = (refl, s.2)
    from (x ∷ xs) text s = absurd (omega (arith, s.0))
bounds_reader replicas conits (suc count) row =
    let more : Reader (Then (BoundText replicas (row / conits)) (λ b. Made (BoundsText replicas conits count (suc row)) (λ bs. b ∷ bs)))
    (λ bytes place. ok_of (bound_at replicas (row / conits) bytes place) >>= λ bound. before bound.0 (ok_of (bounds_at replicas conits count (suc row) bytes bound.1))) =
    and_then (bound_reader replicas (row / conits)) (λ b. making (bounds_reader replicas conits count (suc row)) (λ bs. b ∷ bs)) in
    said (same_reader more
    (λ bytes place. ok_bind (bound_at replicas (row / conits) bytes place) _ ∙ after bytes (ok_of (bound_at replicas (row / conits) bytes place)))) to from
  where
    after : (bytes : List ℕ) (first : Field Bound)
        → (first >>= λ bound. ok_of (part_before bound.0 (bounds_at replicas conits count (suc row) bytes bound.1)))
        ≡ (first >>= λ bound. before bound.0 (ok_of (bounds_at replicas conits count (suc row) bytes bound.1)))
    after bytes (Ok bound) = before_part bound.0 (bounds_at replicas conits count (suc row) bytes bound.1)
    after bytes (Err f) = refl

    to : (bounds : List Bound) (text : List ℕ)
        → Then (BoundText replicas (row / conits)) (λ b. Made (BoundsText replicas conits count (suc row)) (λ bs. b ∷ bs)) bounds text
        → BoundsText replicas conits (suc count) row bounds text
    to bounds text s =
        let all : BoundsText replicas conits (suc count) row (s.0 ∷ s.4.0) text = (ap suc s.4.1.0, (s.3.0, s.4.1.1), rw (flat_map-cons, s.5, s.3.1, s.4.1.2) refl) in
        subst (λ (xs : List Bound). BoundsText replicas conits (suc count) row xs text) (sym s.4.2) all

    from : (bounds : List Bound) (text : List ℕ)
        → BoundsText replicas conits (suc count) row bounds text
        → Then (BoundText replicas (row / conits)) (λ b. Made (BoundsText replicas conits count (suc row)) (λ bs. b ∷ bs)) bounds text
    from [] text s = absurd (omega (arith, s.0))
    from (x ∷ xs) text s =
        (x, bound_text x, flat_map bound_text xs, (s.1.0, refl), (xs, (omega (arith, s.0), s.1.1, refl), refl), s.2 ∙ rw flat_map-cons refl)

-- ---- the setup

abbrev SetupParts : Setup → List ℕ → Type 0
SetupParts =
    Then (SpelledAs AreCounts counts_bytes) (λ counts. Made (BoundsText counts.replicas counts.conits (counts.replicas * counts.conits) 0) (setup_from counts))

setup_spelled : (counts : Counts) (bounds : List Bound)
    → AreCounts counts
    → length bounds ≡ counts.replicas * counts.conits
    → AreBounds counts.replicas counts.conits 0 bounds
    → counts_bytes counts ++ flat_map bound_text bounds ≡ setup_bytes (setup_from counts bounds)
setup_spelled counts bounds good many are =
    let s = setup_from counts bounds in
    let rows = spelled_bounds s ∙ ap (flat_map bound_text) (bounds_back counts bounds good many are) in
    ap (λ text. counts_bytes counts ++ text) (sym rows)

-- the setup of the bounds that are read
abbrev made : Counts → Field (List Bound) → Field Setup
made counts read = read >>= λ bounds. Ok (setup_from counts bounds.0, bounds.1)

abbrev part_made : Counts → Part (List Bound) → Part Setup
part_made counts read = then_part read (λ bounds. Ok (setup_from counts bounds.0, bounds.1))

made_part : (counts : Counts) (read : Part (List Bound)) → ok_of (part_made counts read) ≡ made counts (ok_of read)
made_part counts (Ok bounds) = refl
made_part counts (Err f) = refl

abbrev bounds_behind : Counts → List ℕ → ℕ → Part (List Bound)
bounds_behind counts = bounds_at counts.replicas counts.conits (counts.replicas * counts.conits) 0

pub setup_reader : Reader (SpelledAs IsSetup setup_bytes) (λ bytes place. ok_of (setup_at bytes place))
unfolding setup_at
setup_reader =
    let parts : Reader SetupParts
    (λ bytes place. ok_of (part_of (length bytes) (counts_at bytes place)) >>= λ counts. made counts.0 (ok_of (bounds_behind counts.0 bytes counts.1))) =
    and_then (part_reader counts_reader) (λ counts. making (bounds_reader counts.replicas counts.conits (counts.replicas * counts.conits) 0) (setup_from counts)) in
    said (same_reader parts
    (λ bytes place. ok_bind (part_of (length bytes) (counts_at bytes place)) _ ∙ after bytes (ok_of (part_of (length bytes) (counts_at bytes place))))) to from
  where
    after : (bytes : List ℕ) (first : Field Counts)
        → (first >>= λ counts. ok_of (part_made counts.0 (bounds_behind counts.0 bytes counts.1)))
        ≡ (first >>= λ counts. made counts.0 (ok_of (bounds_behind counts.0 bytes counts.1)))
    after bytes (Ok counts) = made_part counts.0 (bounds_behind counts.0 bytes counts.1)
    after bytes (Err f) = refl

    to : (s : Setup) (text : List ℕ) → SetupParts s text → SpelledAs IsSetup setup_bytes s text
    to s text p =
        let b = p.4 in
        let is = bounds_are_setup p.0 b.0 p.3.0 b.1.0 b.1.1 in
        let spells : text ≡ setup_bytes (setup_from p.0 b.0) = rw (p.5, p.3.1, b.1.2) (setup_spelled p.0 b.0 p.3.0 b.1.0 b.1.1) in
        subst (λ (k : Setup). SpelledAs IsSetup setup_bytes k text) (sym b.2) (is, spells)

    from : (s : Setup) (text : List ℕ) → SpelledAs IsSetup setup_bytes s text → SetupParts s text
    from s text p =
        let counts = counts_of s in
        let bounds = bounds_of s in
        let spells : text ≡ counts_bytes counts ++ flat_map bound_text bounds = p.1 ∙ ap (λ rows. counts_bytes counts ++ rows) (spelled_bounds s) in (
          counts,
          counts_bytes counts,
          flat_map bound_text bounds,
          (setup_counts s p.0, refl),
          (bounds, (length-bounds_of s p.0, setup_bounds s p.0, refl), sym (setup_back s p.0)),
          spells,
        )
