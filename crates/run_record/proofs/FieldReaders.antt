-- Further readers that read just what is spelled: by cases, and of the tag of an entry.
use Rattle.std.proofs.Common.{◌≡◌, ℕ, ◌<◌, ◌≤◌, ◌==◌, Bool, true, false, cond, List, [], ◌∷◌, ◌⊎◌, inl, inr, refl, arith}
use Rattle.std.specs.Prelude.{◌||◌}
use Rattle.std.proofs.lemmas.Bool.{eqb-true}
use Rattle.std.proofs.lemmas.Bool.Decides.{nat_tests}
use Rattle.run_model.specs.Bytes.{Field, is_from_to}
use Rattle.run_model.proofs.Readers.{Reader, byte_by_rule, said}
use Rattle.run_record.specs.EntriesAt.{tag_at}

-- one of two readers, by a test
pub by_test : {A : Type 0} {Spells : A → List ℕ → Type 0} {yes no : List ℕ → ℕ → Field A} (test : Bool)
    → (test ≡ true → Reader Spells yes)
    → (test ≡ false → Reader Spells no)
    → Reader Spells (λ bytes place. cond test (yes bytes place) (no bytes place))
by_test true first second = first refl
by_test false first second = second refl

-- ---- a tag of an entry, or the end

abbrev pub IsTag : ℕ → List ℕ → Type 0
IsTag tag text = ((tag ≡ 255) ⊎ ((1 ≤ tag) × (tag < 7))) × (text ≡ tag ∷ [])

abbrev is_tag : ℕ → Bool
is_tag tag = is_from_to 1 7 tag || (tag == 255)

tag_cases : (few end : Bool)
    → (few || end) ≡ true
    → (end ≡ true) ⊎ (few ≡ true)
tag_cases true end e = inr refl
tag_cases false end e = inl e

tag_kind : (tag : ℕ) → is_tag tag ≡ true → (tag ≡ 255) ⊎ ((1 ≤ tag) × (tag < 7))
tag_kind tag is =
    elim (tag_cases (is_from_to 1 7 tag) (tag == 255) is) [
      | inl end ↦ inl (eqb-true tag 255 end)
      | inr few ↦ inr (from_seven tag few)
    ]
  where
    from_seven : (tag : ℕ) → is_from_to 1 7 tag ≡ true → (1 ≤ tag) × (tag < 7)
    from_seven tag e = (grind (arith, nat_tests), grind (arith, nat_tests))

kind_tag : (tag : ℕ) → (tag ≡ 255) ⊎ ((1 ≤ tag) × (tag < 7)) → is_tag tag ≡ true
kind_tag tag kind =
    elim kind [
      | inl end ↦ grind (arith, nat_tests)
      | inr few ↦ grind (arith, nat_tests)
    ]

pub tag_reader : Reader IsTag tag_at
unfolding tag_at
tag_reader =
    said (byte_by_rule is_tag)
    (λ tag text s. (tag_kind tag s.0, s.1))
    (λ tag text s. (kind_tag tag s.0, s.1))
