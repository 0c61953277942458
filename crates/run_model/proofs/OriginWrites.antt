-- The writes of one origin among writes, and what a test answers.
use Rattle.std.proofs.Common.{◌≡◌, ◌≢◌, ℕ, ◌==◌, true, false, List, [], ◌∷◌, length, map, filter, All, refl, ◌↔◌, IsTrue}
use Rattle.std.specs.List.{range_with_len}
use Rattle.std.proofs.lemmas.Bool.{eqb-true, eq-eqb, ne_eqb, false≢true}
use Rattle.std.proofs.lemmas.List.Elements.{All-weaker, filter_passes}
use Rattle.tact_base.proofs.ListLemmas.{filter_all, filter_none}
use Rattle.tact_base.specs.declared.write.Write.{Write}

-- what a test answers where the fact holds, and where it doesn't
pub yes : {P : Type 0} → P → IsTrue true ↔ P
yes p = (λ _. p, λ _. refl)

pub no : {P : Type 0} → (P → ⊥) → IsTrue false ↔ P
no isnt = (λ t. absurd (false≢true t), λ p. absurd (isnt p))

pub iff_trans : {P Q R : Type 0} → (P ↔ Q) → (Q ↔ R) → P ↔ R
iff_trans (to, from) (on, back) = (λ p. on (to p), λ r. from (back r))

-- the writes of an origin
abbrev pub from_one : ℕ → List Write → List Write
from_one origin writes = filter (λ (write : Write). write.origin == origin) writes

pub from_one-here : (origin : ℕ) (write : Write) (writes : List Write)
    → write.origin ≡ origin
    → from_one origin (write ∷ writes) ≡ write ∷ from_one origin writes
from_one-here origin write writes is = rw (eq-eqb write.origin origin is) refl

pub from_one-other : (origin : ℕ) (write : Write) (writes : List Write)
    → write.origin ≢ origin
    → from_one origin (write ∷ writes) ≡ from_one origin writes
from_one-other origin write writes isnt = rw (ne_eqb write.origin origin isnt) refl

pub from_one-origins : (origin : ℕ) (writes : List Write)
    → All (λ (write : Write). write.origin ≡ origin) (from_one origin writes)
from_one-origins origin writes =
    All-weaker (λ (write : Write). (write.origin == origin) ≡ true) (λ (write : Write). write.origin ≡ origin) (λ write passes. eqb-true write.origin origin passes) (from_one origin writes)
    (filter_passes (λ (write : Write). write.origin == origin) writes)

pub from_one-all : (origin : ℕ) (writes : List Write)
    → All (λ (write : Write). write.origin ≡ origin) writes
    → from_one origin writes ≡ writes
from_one-all origin writes each =
    filter_all (λ (write : Write). write.origin == origin) writes
    (All-weaker (λ (write : Write). write.origin ≡ origin) (λ (write : Write). (write.origin == origin) ≡ true) (λ write is. eq-eqb write.origin origin is) writes each)

pub from_one-none : (origin : ℕ) (writes : List Write)
    → All (λ (write : Write). write.origin ≢ origin) writes
    → from_one origin writes ≡ []
from_one-none origin writes each =
    filter_none (λ (write : Write). write.origin == origin) writes
    (All-weaker (λ (write : Write). write.origin ≢ origin) (λ (write : Write). (write.origin == origin) ≡ false) (λ write isnt. ne_eqb write.origin origin isnt) writes each)

-- the writes of an origin have the indices from a first one on
abbrev pub CountsUp : ℕ → ℕ → List Write → Type 0
CountsUp origin first writes = map (λ (write : Write). write.index) (from_one origin writes) ≡ range_with_len first (length (from_one origin writes))
