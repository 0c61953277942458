-- Readers of the parts of a message before its writes.
use Rattle.std.proofs.Common.{◌≡◌, ◌≢◌, ℕ, zero, suc, ◌-◌, ◌<◌, ◌≤◌, List, [], ◌∷◌, ◌++◌, length, refl, sym, ap, subst, arith}
use Rattle.tact_base.specs.declared.limits.TheConstants.{CONITS_MAX, HISTORY_MAX, MOMENT_MAX, REPLICAS_MAX, REPLICAS_MIN, STAMP_MAX}
use Rattle.run_model.specs.Bytes.{number_bytes}
use Rattle.run_model.proofs.Readers.{Reader, Then, Made, IsByte, IsNumber, IsOther, byte_field, number_field, other_reader, and_then, and_then_if, making, given, said}
use Rattle.tact_msg.specs.declared.parts.Head.{Head}
use Rattle.tact_msg.specs.declared.parts.Told.{Told}
use Rattle.tact_msg.specs.MessageBytes.{head_at, head_bytes, told_at, told_bound, told_bytes, tolds_at}

-- ---- the head

pub record IsHead (head : Head) (text : List ℕ) : Type 0 where
  pub replicas_least : REPLICAS_MIN ≤ head.replicas
  pub replicas_most : head.replicas ≤ REPLICAS_MAX
  pub conits_least : 1 ≤ head.conits
  pub conits_most : head.conits ≤ CONITS_MAX
  pub from : head.from < head.replicas
  pub to : head.to < head.replicas
  pub others : head.to ≢ head.from
  pub number : head.number < HISTORY_MAX
  pub spelled : text ≡ head_bytes head

head_from : ℕ → ℕ → ℕ → ℕ → ℕ → Head
head_from replicas conits from to number = record { replicas = replicas; conits = conits; from = from; to = to; number = number }

abbrev HeadFields : Head → List ℕ → Type 0
HeadFields =
    Then (IsByte 77 78) (λ mark. Then (IsByte 1 2) (λ version.
    Then (IsByte REPLICAS_MIN (suc REPLICAS_MAX)) (λ replicas. Then (IsByte 1 (suc CONITS_MAX)) (λ conits.
    Then (IsByte 0 replicas) (λ from. Then (IsOther from replicas) (λ to.
    Made (IsNumber 0 HISTORY_MAX) (λ number. record { replicas = replicas; conits = conits; from = from; to = to; number = number })))))))

is_one : (mark number : ℕ) → mark ≤ number → number < suc mark → number ≡ mark
is_one mark number low high = omega arith

pub head_reader : Reader IsHead head_at
unfolding head_at head_from
head_reader =
    said (and_then (byte_field 77 78) (λ mark. and_then (byte_field 1 2) (λ version.
    and_then (byte_field REPLICAS_MIN (suc REPLICAS_MAX)) (λ replicas. and_then (byte_field 1 (suc CONITS_MAX)) (λ conits.
    and_then (byte_field 0 replicas) (λ from. and_then (other_reader from replicas) (λ to.
    making (number_field 0 HISTORY_MAX (omega arith)) (head_from replicas conits from to)))))))) to_head from_head
  where
    to_head : (head : Head) (text : List ℕ) → HeadFields head text → IsHead head text
    to_head head text s =
        let v = s.4 in
        let r = v.4 in
        let c = r.4 in
        let f = c.4 in
        let t = f.4 in
        let n = t.4 in
        let mark : s.0 ≡ 77 = omega (arith, s.3.0, s.3.1) in
        let version : v.0 ≡ 1 = omega (arith, v.3.0, v.3.1) in
        let is : Head = head_from r.0 c.0 f.0 t.0 n.0 in
        let spells : text ≡ head_bytes is = rw (s.5, s.3.2, mark, v.5, v.3.2, version, r.5, r.3.2, c.5, c.3.2, f.5, f.3.2, t.5, t.3.2, n.1.2) refl in
        subst (λ (h : Head). IsHead h text) (sym n.2) (record {
          replicas_least = r.3.0;
          replicas_most = omega (arith, r.3.1);
          conits_least = c.3.0;
          conits_most = omega (arith, c.3.1);
          from = f.3.1;
          to = t.3.0;
          others = t.3.1;
          number = n.1.1;
          spelled = spells;
        })

    from_head : (head : Head) (text : List ℕ) → IsHead head text → HeadFields head text
    from_head head text s = (
      77,
      77 ∷ [],
      1 ∷ head.replicas ∷ head.conits ∷ head.from ∷ head.to ∷ number_bytes head.number,
      (omega arith, omega arith, refl),
      (
        1,
        1 ∷ [],
        head.replicas ∷ head.conits ∷ head.from ∷ head.to ∷ number_bytes head.number,
        (omega arith, omega arith, refl),
        (
          head.replicas,
          head.replicas ∷ [],
          head.conits ∷ head.from ∷ head.to ∷ number_bytes head.number,
          (s.replicas_least, omega (arith, s.replicas_most), refl),
          (
            head.conits,
            head.conits ∷ [],
            head.from ∷ head.to ∷ number_bytes head.number,
            (s.conits_least, omega (arith, s.conits_most), refl),
            (
              head.from,
              head.from ∷ [],
              head.to ∷ number_bytes head.number,
              (omega arith, s.from, refl),
              (
                head.to,
                head.to ∷ [],
                number_bytes head.number,
                (s.to, s.others, refl),
                (head.number, (omega arith, s.number, refl), refl),
                refl,
              ),
              refl,
            ),
            refl,
          ),
          refl,
        ),
        refl,
      ),
      s.spelled,
    )

-- ---- what is told of an origin

pub record IsTold (to at room : ℕ) (told : Told) (text : List ℕ) : Type 0 where
  pub origin : told.origin ≡ at
  pub have : told.have ≤ HISTORY_MAX
  pub count : told.cover.count ≤ told.have
  pub stamp : told.cover.stamp ≤ STAMP_MAX
  pub moment : told.cover.moment ≤ MOMENT_MAX
  pub first : told.first ≤ told.have
  pub few : told.count < told_bound to at (told.have - told.first) room
  pub spelled : text ≡ told_bytes told

pub told_from : ℕ → ℕ → ℕ → ℕ → ℕ → ℕ → ℕ → Told
told_from origin have count stamp moment first told = record {
  origin = origin;
  have = have;
  cover = record { count = count; stamp = stamp; moment = moment };
  first = first;
  count = told;
}

abbrev ToldFields : ℕ → ℕ → ℕ → Told → List ℕ → Type 0
ToldFields to origin room =
    Then (IsNumber 0 (suc HISTORY_MAX)) (λ have. Then (IsNumber 0 (suc have)) (λ count.
    Then (IsNumber 0 (suc STAMP_MAX)) (λ stamp. Then (IsNumber 0 (suc MOMENT_MAX)) (λ moment.
    Then (IsNumber 0 (suc have)) (λ first. Made (IsByte 0 (told_bound to origin (have - first) room)) (λ told.
    record { origin = origin; have = have; cover = record { count = count; stamp = stamp; moment = moment }; first = first; count = told }))))))

pub told_reader : (to origin room : ℕ) → Reader (IsTold to origin room) (told_at to origin room)
unfolding told_at told_from
told_reader to origin room =
    said (and_then_if (number_field 0 (suc HISTORY_MAX) (omega arith)) (λ have text is. and_then (number_field 0 (suc have) (omega (arith, is.1))) (λ count.
    and_then (number_field 0 (suc STAMP_MAX) (omega arith)) (λ stamp. and_then (number_field 0 (suc MOMENT_MAX) (omega arith)) (λ moment.
    and_then (number_field 0 (suc have) (omega (arith, is.1))) (λ first.
    making (byte_field 0 (told_bound to origin (have - first) room)) (told_from origin have count stamp moment first))))))) to_told from_told
  where
    to_told : (told : Told) (text : List ℕ) → ToldFields to origin room told text → IsTold to origin room told text
    to_told told text s =
        let c = s.4 in
        let t = c.4 in
        let m = t.4 in
        let f = m.4 in
        let n = f.4 in
        let is : Told = told_from origin s.0 c.0 t.0 m.0 f.0 n.0 in
        let spells : text ≡ told_bytes is = rw (s.5, s.3.2, c.5, c.3.2, t.5, t.3.2, m.5, m.3.2, f.5, f.3.2, n.1.2) refl in
        subst (λ (x : Told). IsTold to origin room x text) (sym n.2) (record {
          origin = refl;
          have = omega (arith, s.3.1);
          count = omega (arith, c.3.1);
          stamp = omega (arith, t.3.1);
          moment = omega (arith, m.3.1);
          first = omega (arith, f.3.1);
          few = n.1.1;
          spelled = spells;
        })

    from_told : (told : Told) (text : List ℕ) → IsTold to origin room told text → ToldFields to origin room told text
    from_told told text s =
        let b5 = told.count ∷ [] in
        let b4 = number_bytes told.first ++ b5 in
        let b3 = number_bytes told.cover.moment ++ b4 in
        let b2 = number_bytes told.cover.stamp ++ b3 in
        let b1 = number_bytes told.cover.count ++ b2 in (
          told.have,
          number_bytes told.have,
          b1,
          (omega arith, omega (arith, s.have), refl),
          (
            told.cover.count,
            number_bytes told.cover.count,
            b2,
            (omega arith, omega (arith, s.count), refl),
            (
              told.cover.stamp,
              number_bytes told.cover.stamp,
              b3,
              (omega arith, omega (arith, s.stamp), refl),
              (
                told.cover.moment,
                number_bytes told.cover.moment,
                b4,
                (omega arith, omega (arith, s.moment), refl),
                (
                  told.first,
                  number_bytes told.first,
                  b5,
                  (omega arith, omega (arith, s.first), refl),
                  (told.count, (omega arith, s.few, refl), ap (λ o. told_from o told.have told.cover.count told.cover.stamp told.cover.moment told.first told.count) s.origin),
                  refl,
                ),
                refl,
              ),
              refl,
            ),
            refl,
          ),
          s.spelled,
        )

-- of the origins from one on, with room for so many writes
abbrev pub Tolds : ℕ → ℕ → ℕ → List Told → List ℕ → Type 0
Tolds to origin room [] text = text ≡ []
Tolds to origin room (told ∷ tolds) text =
    (a : List ℕ) × (b : List ℕ) × IsTold to origin room told a × Tolds to (suc origin) (room - told.count) tolds b × (text ≡ a ++ b)

abbrev pub CountedTolds : ℕ → ℕ → ℕ → ℕ → List Told → List ℕ → Type 0
CountedTolds to count origin room tolds text = (length tolds ≡ count) × Tolds to origin room tolds text

pub tolds_reader : (to count origin room : ℕ) → Reader (CountedTolds to count origin room) (tolds_at to count origin room)
unfolding tolds_at
tolds_reader to zero origin room = said (given []) to_none from_none
  where
    to_none : (tolds : List Told) (text : List ℕ) → (tolds ≡ []) × (text ≡ []) → CountedTolds to 0 origin room tolds text
    to_none tolds text s = subst (λ (ts : List Told). CountedTolds to 0 origin room ts text) (sym s.0) (refl, s.1)

    from_none : (tolds : List Told) (text : List ℕ) → CountedTolds to 0 origin room tolds text → (tolds ≡ []) × (text ≡ [])
    from_none [] text s = (refl, s.1)
    from_none (told ∷ tolds) text s = absurd (omega (arith, s.0))
tolds_reader to (suc count) origin room =
    said (and_then (told_reader to origin room) (λ told. making (tolds_reader to count (suc origin) (room - told.count)) (λ tolds. told ∷ tolds))) to_more from_more
  where
    to_more : (tolds : List Told) (text : List ℕ)
        → Then (IsTold to origin room) (λ told. Made (CountedTolds to count (suc origin) (room - told.count)) (λ others. told ∷ others)) tolds text
        → CountedTolds to (suc count) origin room tolds text
    to_more tolds text s =
        let whole : CountedTolds to (suc count) origin room (s.0 ∷ s.4.0) text = (ap suc s.4.1.0, (s.1, s.2, s.3, s.4.1.1, s.5)) in
        subst (λ (ts : List Told). CountedTolds to (suc count) origin room ts text) (sym s.4.2) whole

    from_more : (tolds : List Told) (text : List ℕ)
        → CountedTolds to (suc count) origin room tolds text
        → Then (IsTold to origin room) (λ told. Made (CountedTolds to count (suc origin) (room - told.count)) (λ others. told ∷ others)) tolds text
    from_more [] text s = absurd (omega (arith, s.0))
    from_more (told ∷ tolds) text s = (told, s.1.0, s.1.1, s.1.2, (tolds, (omega (arith, s.0), s.1.3), refl), s.1.4)
