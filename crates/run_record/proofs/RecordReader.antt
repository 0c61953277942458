-- A record that is read is what the bytes spell, and one that the bytes spell is read.
use Rattle.std.proofs.Common.{◌≡◌, ◌≢◌, ℕ, ◌+◌, ◌^◌, ◌<◌, ◌≤◌, ◌==◌, Bool, true, false, cond, ltb, List, [], ◌∷◌, ◌++◌, length, take, All, Result, Ok, Err, zero-add, refl, sym, ap, subst, ◌∙◌, append_assoc, arith}
use Rattle.std.specs.Prelude.{nat_lt}
use Rattle.std.specs.Result.{IfOk}
use Rattle.std.specs.List.{flat_map}
use Rattle.std.proofs.lemmas.Bool.{eqb-true, eq-eqb, ltb-false, le-ltb}
use Rattle.std.proofs.lemmas.List.{length-append, take_all}
use Rattle.tact_base.specs.Setup.{Setup, IsSetup}
use Rattle.run_model.specs.declared.status.ByteKind.TheVariants as kind
use Rattle.run_model.specs.Bytes.{◌>>=◌, Field, StandsAt, number_bytes, any_number_at}
use Rattle.run_model.proofs.ByteLemmas.{AreBytes, stands_within, ok_is}
use Rattle.run_model.proofs.Readers.{Reader, Then, Made, IsNumber, SpelledAs, any_number, and_then, making, said, found}
use Rattle.run_record.specs.declared.fault.RecordFault.{RecordFault}
use Rattle.run_record.specs.declared.fault.RecordFault.TheVariants as fault
use Rattle.run_record.specs.declared.short.Short.{Short}
use Rattle.run_record.specs.Records.{Held, IsHeld, IsShortOf}
use Rattle.run_record.specs.RecordBytes.{setup_bytes, short_bytes, record_bytes}
use Rattle.run_record.specs.EntriesAt.{shorts_at}
use Rattle.run_record.specs.RecordAt.{Part, Tells, then_part, part_of, setup_at, count_at, body_at, record_at}
use Rattle.run_record.proofs.EntryReaders.{entries_reader}
use Rattle.run_record.proofs.OkParts.{ok_of, ok_bind, is_ok, same_reader, kept_reader, part_reader}
use Rattle.run_record.proofs.BoundReaders.{setup_reader}

-- ---- all entries

abbrev AllEntries : Setup → List Short → List ℕ → Type 0
AllEntries setup shorts text = All (IsShortOf setup) shorts × (text ≡ flat_map short_bytes shorts ++ 255 ∷ [])

entries_long : (shorts : List Short) → length shorts ≤ length (flat_map short_bytes shorts)
entries_long [] = omega arith
entries_long (x ∷ xs) =
    let rest = entries_long xs in
    let both : length (short_bytes x ++ flat_map short_bytes xs) ≡ length (short_bytes x) + length (flat_map short_bytes xs) = length-append (short_bytes x) (flat_map short_bytes xs) in
    let here : 1 ≤ length (short_bytes x) = omega arith in
    let same : length (flat_map short_bytes (x ∷ xs)) ≡ length (short_bytes x ++ flat_map short_bytes xs) = refl in
    omega (arith, rest, both, here, same)

all_entries_reader : (setup : Setup) → Reader (AllEntries setup) (λ bytes place. shorts_at setup.replicas setup.conits (length bytes) bytes place)
all_entries_reader setup = record {
  taken = λ bytes place x next fits e.
      let t = (entries_reader setup (length bytes)).taken bytes place x next fits e in
      (t.0, (t.1.0, t.1.2), t.2);
  again = λ bytes place x text fits within s stands.
      let inside = stands_within text bytes place stands within in
      let long : length text ≡ length (flat_map short_bytes x) + 1 = ap length s.1 ∙ length-append (flat_map short_bytes x) (255 ∷ []) in
      (entries_reader setup (length bytes)).again bytes place x text fits within (s.0, omega (arith, inside, long, entries_long x), s.1) stands;
}

-- entries that were read are in range
pub entries_good : (setup : Setup) (bytes : List ℕ) (place : ℕ) (shorts : List Short) (next : ℕ)
    → AreBytes bytes
    → part_of (length bytes) (shorts_at setup.replicas setup.conits (length bytes) bytes place) ≡ Ok (shorts, next)
    → All (IsShortOf setup) shorts
entries_good setup bytes place shorts next fits e =
    let t = (part_reader (all_entries_reader setup)).taken bytes place shorts next fits (ap ok_of e) in
    t.1.0

-- ---- the count

abbrev IsCount : List Short → ℕ → List ℕ → Type 0
IsCount shorts count text = IsNumber 0 (2 ^ 64) count text × ((count == length shorts) ≡ true)

count_reader : (shorts : List Short) → Reader (IsCount shorts) (λ bytes place. ok_of (count_at shorts bytes place))
unfolding count_at
count_reader shorts =
    kept_reader (λ count. count == length shorts) (λ bytes place. fault.Bytes place kind.WrongCount) (λ bytes place. part_of (length bytes) (any_number_at bytes place)) (part_reader any_number)

-- ---- the whole but for what follows

make_held : Setup → List Short → Held
make_held setup entries = record { setup = setup; entries = entries }

abbrev BodyParts : Held → List ℕ → Type 0
BodyParts =
    Then (SpelledAs IsSetup setup_bytes) (λ setup. Then (AllEntries setup) (λ entries. Made (IsCount entries) (λ count. record { setup = setup; entries = entries })))

-- a record whose entries can be counted
abbrev pub CanBeSpelled : Held → Type 0
CanBeSpelled held = IsHeld held × (length held.entries < 2 ^ 64)

-- the record of what was read, once its count is read
abbrev counted_as : Setup → List Short → Field ℕ → Field Held
counted_as setup entries read = read >>= λ count. Ok (record { setup = setup; entries = entries }, count.1)

abbrev part_counted : Setup → List Short → Part ℕ → Part Held
part_counted setup entries read = then_part read (λ count. Ok (record { setup = setup; entries = entries }, count.1))

counted_part : (setup : Setup) (entries : List Short) (read : Part ℕ) → ok_of (part_counted setup entries read) ≡ counted_as setup entries (ok_of read)
counted_part setup entries (Ok count) = refl
counted_part setup entries (Err f) = refl

-- once its entries are read
abbrev after_entries : List ℕ → Setup → Field (List Short) → Field Held
after_entries bytes setup read = read >>= λ entries. counted_as setup entries.0 (ok_of (count_at entries.0 bytes entries.1))

abbrev part_entries : List ℕ → Setup → Part (List Short) → Part Held
part_entries bytes setup read = then_part read (λ entries. part_counted setup entries.0 (count_at entries.0 bytes entries.1))

entries_part : (bytes : List ℕ) (setup : Setup) (read : Part (List Short)) → ok_of (part_entries bytes setup read) ≡ after_entries bytes setup (ok_of read)
entries_part bytes setup (Ok entries) = counted_part setup entries.0 (count_at entries.0 bytes entries.1)
entries_part bytes setup (Err f) = refl

abbrev entries_behind : List ℕ → Setup × ℕ → Part (List Short)
entries_behind bytes setup = part_of (length bytes) (shorts_at setup.0.replicas setup.0.conits (length bytes) bytes setup.1)

pub body_reader : Reader (SpelledAs CanBeSpelled record_bytes) (λ bytes place. ok_of (body_at bytes place))
unfolding body_at make_held
body_reader =
    let parts : Reader BodyParts (λ bytes place. ok_of (setup_at bytes place) >>= λ setup. after_entries bytes setup.0 (ok_of (entries_behind bytes setup))) =
    and_then setup_reader (λ setup. and_then (part_reader (all_entries_reader setup)) (λ entries. making (count_reader entries) (λ count. make_held setup entries))) in
    said (same_reader parts (λ bytes place. ok_bind (setup_at bytes place) _ ∙ past_setup bytes (ok_of (setup_at bytes place)))) to from
  where
    past_setup : (bytes : List ℕ) (read : Field Setup)
        → (read >>= λ setup. ok_of (part_entries bytes setup.0 (entries_behind bytes setup)))
        ≡ (read >>= λ setup. after_entries bytes setup.0 (ok_of (entries_behind bytes setup)))
    past_setup bytes (Ok setup) = entries_part bytes setup.0 (entries_behind bytes setup)
    past_setup bytes (Err f) = refl

    regroup : (a b c : List ℕ) → a ++ ((b ++ 255 ∷ []) ++ c) ≡ a ++ (b ++ 255 ∷ c)
    regroup a b c = ap (λ text. a ++ text) (append_assoc b (255 ∷ []) c)

    to : (held : Held) (text : List ℕ) → BodyParts held text → SpelledAs CanBeSpelled record_bytes held text
    to held text s =
        let e = s.4 in
        let c = e.4 in
        let counted : c.0 ≡ length e.0 = eqb-true c.0 (length e.0) c.1.1 in
        let is : Held = record { setup = s.0; entries = e.0 } in
        let good : CanBeSpelled is = (record { setup = s.3.0; entries = e.3.0 }, omega (arith, counted, c.1.0.1)) in
        let spells : text ≡ record_bytes is = rw (s.5, s.3.1, e.5, e.3.1, c.1.0.2, counted) (regroup (setup_bytes s.0) (flat_map short_bytes e.0) (number_bytes (length e.0))) in
        subst (λ (h : Held). SpelledAs CanBeSpelled record_bytes h text) (sym c.2) (good, spells)

    from : (held : Held) (text : List ℕ) → SpelledAs CanBeSpelled record_bytes held text → BodyParts held text
    from held text s =
        let entries = flat_map short_bytes held.entries ++ 255 ∷ [] in
        let count = number_bytes (length held.entries) in
        let spells : text ≡ setup_bytes held.setup ++ (entries ++ count) = s.1 ∙ sym (regroup (setup_bytes held.setup) (flat_map short_bytes held.entries) count) in (
          held.setup,
          setup_bytes held.setup,
          entries ++ count,
          (s.0.0.setup, refl),
          (
            held.entries,
            entries,
            count,
            (s.0.0.entries, refl),
            (length held.entries, ((omega arith, s.0.1, refl), eq-eqb (length held.entries) (length held.entries) refl), refl),
            refl,
          ),
          spells,
        )

-- ---- the whole

all_there : (text bytes : List ℕ) → StandsAt text bytes 0 → length bytes ≤ length text → bytes ≡ text
all_there text bytes stands most = sym (take_all (length text) bytes most) ∙ stands

-- a good one
abbrev good_value : {A : Type 0} → A → Result A RecordFault
good_value x = Ok x

ends_there : {A : Type 0} (past : Bool) (x y : A) (f : RecordFault)
    → cond past (Err f) (Ok x) ≡ good_value y
    → (past ≡ false) × (x ≡ y)
ends_there true x y f e = absurd cc
ends_there false x y f e = (refl, cc)

pub whole_taken : (bytes : List ℕ) (held : Held)
    → AreBytes bytes
    → record_at bytes ≡ Ok held
    → CanBeSpelled held × (bytes ≡ record_bytes held)
unfolding record_at
whole_taken bytes held fits e = from_body (body_at bytes 0) refl e
  where
    from_body : (read : Part Held)
        → body_at bytes 0 ≡ read
        → then_part read (λ body. cond (nat_lt body.1 (length bytes)) (Err (fault.Bytes body.1 kind.AfterEnd)) (Ok body.0)) ≡ Ok held
        → CanBeSpelled held × (bytes ≡ record_bytes held)
    from_body (Err f) was e = absurd cc
    from_body (Ok body) was e =
        let c = ends_there (nat_lt body.1 (length bytes)) body.0 held (fault.Bytes body.1 kind.AfterEnd) e in
        let read : Ok (body.0, body.1) ≡ ok_of (body_at bytes 0) = sym (ap ok_of was) in
        let t = found body_reader bytes 0 fits body.0 body.1 read in
        let ends : length bytes ≤ body.1 = ltb-false body.1 (length bytes) c.0 in
        let after : body.1 ≡ length (record_bytes body.0) = t.2 ∙ zero-add (length (record_bytes body.0)) in
        let spells = all_there (record_bytes body.0) bytes t.1 (omega (arith, ends, after)) in
        subst (λ (h : Held). CanBeSpelled h × (bytes ≡ record_bytes h)) c.1 (t.0, spells)

pub whole_again : (bytes : List ℕ) (held : Held)
    → AreBytes bytes
    → CanBeSpelled held
    → bytes ≡ record_bytes held
    → record_at bytes ≡ Ok held
unfolding record_at
whole_again bytes held fits good spells =
    let stands : StandsAt (record_bytes held) bytes 0 = sym (ap (λ n. take n bytes) (ap length spells)) ∙ take_all (length bytes) bytes (omega arith) ∙ spells in
    let read = body_reader.again bytes 0 held (record_bytes held) fits (omega arith) (good, refl) stands in
    let body : body_at bytes 0 ≡ Ok (held, 0 + length (record_bytes held)) = is_ok (body_at bytes 0) (held, 0 + length (record_bytes held)) read in
    let ends : ltb (0 + length (record_bytes held)) (length bytes) ≡ false = le-ltb (0 + length (record_bytes held)) (length bytes) (omega (arith, ap length spells)) in
    rw (body, ends) refl

-- ---- what a call that reads promises

pub read_is_spelled : (bytes : List ℕ) (result : Result Held RecordFault)
    → AreBytes bytes
    → Tells (record_at bytes) result
    → IfOk result (λ held. IsHeld held × (bytes ≡ record_bytes held))
read_is_spelled bytes (Ok held) fits told =
    let t = whole_taken bytes held fits told in
    (t.0.0, t.1)
read_is_spelled bytes (Err f) fits told = tt

-- what is spelled is counted within the bytes
counted : (bytes : List ℕ) (held : Held) → bytes ≡ record_bytes held → length held.entries ≤ length bytes
counted bytes held spells =
    let first = length-append (setup_bytes held.setup) (flat_map short_bytes held.entries ++ 255 ∷ number_bytes (length held.entries)) in
    let second = length-append (flat_map short_bytes held.entries) (255 ∷ number_bytes (length held.entries)) in
    omega (arith, ap length spells, first, second, entries_long held.entries)

pub spelled_is_read : (bytes : List ℕ) (result : Result Held RecordFault)
    → AreBytes bytes
    → length bytes < 2 ^ 64
    → Tells (record_at bytes) result
    → (held : Held)
    → IsHeld held
    → bytes ≡ record_bytes held
    → result ≢ Err fault.NoMemory
    → result ≡ Ok held
spelled_is_read bytes result fits long told held good spells enough =
    let again = whole_again bytes held fits (good, omega (arith, counted bytes held spells, long)) spells in
    told_is result told again enough
  where
    never : (read : Result Held RecordFault) (f : RecordFault) → read ≡ Err f → read ≡ good_value held → ⊥
    never read f p q = cc

    told_is : (result : Result Held RecordFault)
        → Tells (record_at bytes) result
        → record_at bytes ≡ Ok held
        → result ≢ Err fault.NoMemory
        → result ≡ Ok held
    told_is (Ok other) told again enough = sym told ∙ again
    told_is (Err fault.NoMemory) told again enough = absurd (enough refl)
    told_is (Err (fault.Bytes place kind)) told again enough = absurd (never (record_at bytes) (fault.Bytes place kind) told again)
    told_is (Err (fault.Text place kind)) told again enough = absurd (never (record_at bytes) (fault.Text place kind) told again)

-- ---- no two records stand at the front of the same bytes

stands_counted : (bytes : List ℕ) (held : Held)
    → StandsAt (record_bytes held) bytes 0
    → length held.entries ≤ length bytes
stands_counted bytes held stands =
    let within = stands_within (record_bytes held) bytes 0 stands (omega arith) in
    let first = length-append (setup_bytes held.setup) (flat_map short_bytes held.entries ++ 255 ∷ number_bytes (length held.entries)) in
    let second = length-append (flat_map short_bytes held.entries) (255 ∷ number_bytes (length held.entries)) in
    omega (arith, within, first, second, entries_long held.entries)

body_at_front : (bytes : List ℕ) (held : Held)
    → AreBytes bytes
    → length bytes < 2 ^ 64
    → IsHeld held
    → StandsAt (record_bytes held) bytes 0
    → body_at bytes 0 ≡ Ok (held, 0 + length (record_bytes held))
body_at_front bytes held fits long good stands =
    let few : length held.entries < 2 ^ 64 = omega (arith, stands_counted bytes held stands, long) in
    is_ok (body_at bytes 0) (held, 0 + length (record_bytes held)) (body_reader.again bytes 0 held (record_bytes held) fits (omega arith) ((good, few), refl) stands)

same_record : (a b : Held) (m n : ℕ) → ◌≡◌ {A = Part Held} (Ok (a, m)) (Ok (b, n)) → a ≡ b
same_record a b m n e = ap (λ (r : Held × ℕ). r.0) (ok_is (a, m) (b, n) (ap ok_of e))

pub one_record : (bytes : List ℕ)
    → AreBytes bytes
    → length bytes < 2 ^ 64
    → (a b : Held)
    → IsHeld a
    → IsHeld b
    → StandsAt (record_bytes a) bytes 0
    → StandsAt (record_bytes b) bytes 0
    → a ≡ b
one_record bytes fits long a b good_a good_b stands_a stands_b =
    same_record a b (0 + length (record_bytes a)) (0 + length (record_bytes b)) (sym (body_at_front bytes a fits long good_a stands_a) ∙ body_at_front bytes b fits long good_b stands_b)
