-- The entries that are read stand where they were read, and those that stand there are read.
use Rattle.std.proofs.Common.{◌≡◌, ℕ, zero, suc, ◌<◌, ◌≤◌, ◌==◌, true, false, cond, List, [], ◌∷◌, ◌++◌, length, All, Ok, ◌⊎◌, inl, inr, refl, sym, ap, subst, ◌∙◌, append_assoc, arith}
use Rattle.std.specs.List.{flat_map}
use Rattle.std.proofs.lemmas.Bool.{eqb-true}
use Rattle.std.proofs.lemmas.Bool.Decides.{nat_tests}
use Rattle.std.proofs.lemmas.List.Elements.{All-cons, All-nil, All-head, All-tail}
use Rattle.tact_base.specs.declared.limits.TheConstants.{MOMENT_MAX}
use Rattle.tact_base.specs.Setup.{Setup}
use Rattle.run_model.specs.Bytes.{◌>>=◌, Field, number_bytes}
use Rattle.run_model.proofs.Readers.{Reader, Then, Made, IsByte, IsNumber, byte_field, number_field, and_then, and_then_if, making, given, said}
use Rattle.run_record.specs.declared.short.Short.{Short}
use Rattle.run_record.specs.declared.short.ShortAct.{ShortAct}
use Rattle.run_record.specs.declared.short.ShortAct.TheVariants.{Call, Send, Take, Lend, Back, Restart}
use Rattle.run_record.specs.Records.{IsShortOf}
use Rattle.run_record.specs.RecordBytes.{act_tag, act_bytes, short_bytes}
use Rattle.run_record.specs.EntriesAt.{tag_at, short_at, shorts_at}
use Rattle.run_record.proofs.FieldReaders.{IsTag, tag_reader, by_test}
use Rattle.run_record.proofs.ActReaders.{IsAct, act_reader}

pub tag_low : (act : ShortAct) → act_tag act < 7
tag_low (Call client number request reply) = omega arith
tag_low (Send to number firsts) = omega arith
tag_low (Take from number) = omega arith
tag_low (Lend to conit amount) = omega arith
tag_low (Back owner conit amount) = omega arith
tag_low Restart = omega arith

pub tag_least : (act : ShortAct) → 1 ≤ act_tag act
tag_least (Call client number request reply) = omega arith
tag_least (Send to number firsts) = omega arith
tag_least (Take from number) = omega arith
tag_least (Lend to conit amount) = omega arith
tag_least (Back owner conit amount) = omega arith
tag_least Restart = omega arith

entry : ℕ → ℕ → ShortAct → Short
entry replica moment act = record { replica = replica; moment = moment; act = act }

module _ (setup : Setup) where
  -- an entry of a kind, behind its tag
  abbrev pub IsEntry : ℕ → Short → List ℕ → Type 0
  IsEntry tag short text =
      IsShortOf setup short × (act_tag short.act ≡ tag) × (text ≡ short.replica ∷ number_bytes short.moment ++ act_bytes short.act)

  abbrev EntryFields : ℕ → Short → List ℕ → Type 0
  EntryFields tag =
      Then (IsByte 0 setup.replicas) (λ replica. Then (IsNumber 0 (suc MOMENT_MAX)) (λ moment. Made (IsAct setup tag replica) (λ act. record { replica = replica; moment = moment; act = act })))

  pub entry_reader : (tag : ℕ)
      → 1 ≤ tag
      → tag < 7
      → Reader (IsEntry tag) (short_at setup.replicas setup.conits tag)
  unfolding short_at entry
  entry_reader tag low high =
      said (and_then (byte_field 0 setup.replicas) (λ replica. and_then (number_field 0 (suc MOMENT_MAX) (omega arith)) (λ moment. making (act_reader setup tag replica low high) (entry replica moment)))) to from
    where
      to : (short : Short) (text : List ℕ) → EntryFields tag short text → IsEntry tag short text
      to short text s =
          let m = s.4 in
          let a = m.4 in
          let is : Short = record { replica = s.0; moment = m.0; act = a.0 } in
          let spells : text ≡ is.replica ∷ number_bytes is.moment ++ act_bytes is.act = rw (s.5, s.3.2, m.5, m.3.2, a.1.2) refl in
          let good : IsShortOf setup is = record { replica = s.3.1; moment = omega (arith, m.3.1); act = a.1.0 } in
          subst (λ (e : Short). IsEntry tag e text) (sym a.2) (good, a.1.1, spells)

      from : (short : Short) (text : List ℕ) → IsEntry tag short text → EntryFields tag short text
      from short text s = (
        short.replica,
        short.replica ∷ [],
        number_bytes short.moment ++ act_bytes short.act,
        (omega arith, s.0.replica, refl),
        (
          short.moment,
          number_bytes short.moment,
          act_bytes short.act,
          (omega arith, omega (arith, s.0.moment), refl),
          (short.act, (s.0.act, s.1, refl), refl),
          refl,
        ),
        s.2,
      )

  -- ---- entries, and the byte that ends them

  abbrev pub AreEntries : ℕ → List Short → List ℕ → Type 0
  AreEntries most shorts text =
      All (IsShortOf setup) shorts × (length shorts < most) × (text ≡ flat_map short_bytes shorts ++ 255 ∷ [])

  -- the same, behind the first tag
  abbrev AreBehind : ℕ → ℕ → List Short → List ℕ → Type 0
  AreBehind most tag [] text = (tag ≡ 255) × (text ≡ [])
  AreBehind most tag (x ∷ xs) text =
      (a : List ℕ) × (b : List ℕ) × IsEntry tag x a × AreEntries most xs b × (text ≡ a ++ b)

  -- reading behind a tag
  abbrev behind_tag : ℕ → ℕ → List ℕ → ℕ → Field (List Short)
  behind_tag most tag bytes place =
      cond (tag == 255) (Ok ([], place))
      (short_at setup.replicas setup.conits tag bytes place >>= λ short. shorts_at setup.replicas setup.conits most bytes short.1 >>= λ others. Ok (short.0 ∷ others.0, others.1))

  no_entry : (most tag : ℕ)
      → (tag == 255) ≡ true
      → Reader (AreBehind most tag) (λ bytes place. Ok ([], place))
  no_entry most tag is = said (given []) to from
    where
      end : tag ≡ 255
      end = eqb-true tag 255 is

      to : (shorts : List Short) (text : List ℕ) → (shorts ≡ []) × (text ≡ []) → AreBehind most tag shorts text
      to shorts text s = subst (λ (xs : List Short). AreBehind most tag xs text) (sym s.0) (end, s.1)

      from : (shorts : List Short) (text : List ℕ) → AreBehind most tag shorts text → (shorts ≡ []) × (text ≡ [])
      from [] text s = (refl, s.1)
      from (x ∷ xs) text s = absurd (omega (arith, end, s.2.1, tag_low x.act))

  some_entry : (most tag : ℕ)
      → 1 ≤ tag
      → tag < 7
      → Reader (AreEntries most) (shorts_at setup.replicas setup.conits most)
      → Reader (AreBehind most tag) (λ bytes place. short_at setup.replicas setup.conits tag bytes place >>= λ short. shorts_at setup.replicas setup.conits most bytes short.1 >>= λ others. Ok (short.0 ∷ others.0, others.1))
  some_entry most tag low high others =
      said (and_then (entry_reader tag low high) (λ x. making others (λ xs. x ∷ xs))) to from
    where
      to : (shorts : List Short) (text : List ℕ)
          → Then (IsEntry tag) (λ x. Made (AreEntries most) (λ xs. x ∷ xs)) shorts text
          → AreBehind most tag shorts text
      to shorts text s =
          let whole : AreBehind most tag (s.0 ∷ s.4.0) text = (s.1, s.2, s.3, s.4.1, s.5) in
          subst (λ (xs : List Short). AreBehind most tag xs text) (sym s.4.2) whole

      from : (shorts : List Short) (text : List ℕ)
          → AreBehind most tag shorts text
          → Then (IsEntry tag) (λ x. Made (AreEntries most) (λ xs. x ∷ xs)) shorts text
      from [] text s = absurd (omega (arith, s.0))
      from (x ∷ xs) text s = (x, s.0, s.1, s.2, (xs, s.3, refl), s.4)

  not_end : (tag : ℕ) → (tag ≡ 255) ⊎ ((1 ≤ tag) × (tag < 7)) → (tag == 255) ≡ false → (1 ≤ tag) × (tag < 7)
  not_end tag kind isnt = elim kind [ inl end ↦ absurd (grind (arith, nat_tests)) | inr few ↦ few ]

  behind_reader : (most tag : ℕ)
      → (tag ≡ 255) ⊎ ((1 ≤ tag) × (tag < 7))
      → Reader (AreEntries most) (shorts_at setup.replicas setup.conits most)
      → Reader (AreBehind most tag) (behind_tag most tag)
  behind_reader most tag kind others =
      by_test (tag == 255) (λ is. no_entry most tag is) (λ isnt. let few = not_end tag kind isnt in some_entry most tag few.0 few.1 others)

  regroup : (tag : ℕ) (x : Short) (a b c : List ℕ)
      → act_tag x.act ≡ tag
      → a ≡ x.replica ∷ number_bytes x.moment ++ act_bytes x.act
      → tag ∷ (a ++ (b ++ c)) ≡ (short_bytes x ++ b) ++ c
  regroup tag x a b c is spells = rw (← is, spells) (sym (append_assoc (short_bytes x) b c))

  one_more : (x : Short) (xs : List Short) → flat_map short_bytes (x ∷ xs) ≡ short_bytes x ++ flat_map short_bytes xs
  one_more x xs = refl

  pub entries_reader : (most : ℕ) → Reader (AreEntries most) (shorts_at setup.replicas setup.conits most)
  unfolding shorts_at
  entries_reader zero = record {
    taken = λ bytes place x next fits e. absurd cc;
    again = λ bytes place x text fits within s stands. absurd (omega (arith, s.1));
  }
  entries_reader (suc most) =
      let tagged : Reader (Then IsTag (AreBehind most)) (λ bytes place. tag_at bytes place >>= λ tag. behind_tag most tag.0 bytes tag.1) =
      and_then_if tag_reader (λ tag text is. behind_reader most tag is.0 (entries_reader most)) in
      said tagged to from
    where
      to : (shorts : List Short) (text : List ℕ) → Then IsTag (AreBehind most) shorts text → AreEntries (suc most) shorts text
      to [] text s =
          let spells : text ≡ 255 ∷ [] = rw (s.5, s.3.1, s.4.1, s.4.0) refl in
          (All-nil (IsShortOf setup), omega arith, spells)
      to (x ∷ xs) text s =
          let b = s.4 in
          let spells : text ≡ flat_map short_bytes (x ∷ xs) ++ 255 ∷ [] =
          rw (s.5, s.3.1, b.4, b.3.2) (regroup s.0 x b.0 (flat_map short_bytes xs) (255 ∷ []) b.2.1 b.2.2 ∙ ap (λ text. text ++ 255 ∷ []) (sym (one_more x xs))) in
          (All-cons (IsShortOf setup) x xs b.2.0 b.3.0, omega (arith, b.3.1), spells)

      from : (shorts : List Short) (text : List ℕ) → AreEntries (suc most) shorts text → Then IsTag (AreBehind most) shorts text
      from [] text s = (255, 255 ∷ [], [], (inl refl, refl), (refl, refl), s.2)
      from (x ∷ xs) text s =
          let a = x.replica ∷ number_bytes x.moment ++ act_bytes x.act in
          let b = flat_map short_bytes xs ++ 255 ∷ [] in
          let spells : text ≡ act_tag x.act ∷ (a ++ b) = s.2 ∙ ap (λ text. text ++ 255 ∷ []) (one_more x xs) ∙ (sym (regroup (act_tag x.act) x a (flat_map short_bytes xs) (255 ∷ []) refl refl)) in (
            act_tag x.act,
            act_tag x.act ∷ [],
            a ++ b,
            (inr (tag_least x.act, tag_low x.act), refl),
            (
              a,
              b,
              (All-head (IsShortOf setup) x xs s.0, refl, refl),
              (All-tail (IsShortOf setup) x xs s.0, omega (arith, s.1), refl),
              refl,
            ),
            spells,
          )
