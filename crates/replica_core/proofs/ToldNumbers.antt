-- Numbers by replica and then by origin or conit, raised one after another by what a message tells of its sender.
use Rattle.std.proofs.Common.{◌≡◌, ℕ, ◌+◌, ◌*◌, ◌<◌, ◌≤◌, ◌==◌, max, cond, List, length, map, get_or, set, refl, sym, ap, ◌∙◌, ⊎_elim, arith, get_or-set_same, get_or-set_other}
use Rattle.std.proofs.lemmas.Bool.{cases_eq, eq-eqb, ne_eqb}
use Rattle.std.proofs.lemmas.List.{length-set}
use Rattle.std.proofs.lemmas.Nat.{mul-add-lt, same_from_place}
use Rattle.std.specs.List.{range_with_len}
use Rattle.tact_base.proofs.ListLemmas.{get_or-map_range}

-- the number of a replica at a place, raised by what is told where the replica is the sender
abbrev pub raised : ℕ → ℕ → ℕ → ℕ → ℕ
raised from peer before told = cond (peer == from) (max before told) before

-- Numbers of some replicas at so many places each: those of the sender are raised at the places before one, all others
-- are as they were.
pub record IsLearned (replicas width from : ℕ) (told start : List ℕ) (at : ℕ) (now : List ℕ) : Type 0 where
  pub sized : length now ≡ length start
  pub learned : (peer place : ℕ)
      → peer < replicas
      → place < width
      → place < at
      → get_or now (peer * width + place) 0 ≡ raised from peer (get_or start (peer * width + place) 0) (get_or told place 0)
  pub later : (peer place : ℕ)
      → peer < replicas
      → place < width
      → at ≤ place
      → get_or now (peer * width + place) 0 ≡ get_or start (peer * width + place) 0

pub learned_none : (replicas width from : ℕ) (told start : List ℕ) → IsLearned replicas width from told start 0 start
learned_none replicas width from told start = record {
  sized = refl;
  learned = λ peer place peer_in place_in before. absurd (omega arith);
  later = λ peer place peer_in place_in from. refl;
}

pub learned_more : (replicas width from : ℕ) (told start : List ℕ) (at : ℕ) (now : List ℕ)
    → IsLearned replicas width from told start at now
    → from < replicas
    → at < width
    → length start ≡ replicas * width
    → IsLearned replicas width from told start (at + 1) (set now (from * width + at) (max (get_or now (from * width + at) 0) (get_or told at 0)))
learned_more replicas width from told start at now was from_in at_in size =
    let here = from * width + at in
    let value = max (get_or now here 0) (get_or told at 0) in
    let within : here < length now = omega (arith, mul-add-lt from width at replicas from_in at_in, size, was.sized) in
    let elsewhere : (peer place : ℕ) → place < width → ((peer ≡ from) × (place ≡ at) → ⊥) → get_or (set now here value) (peer * width + place) 0 ≡ get_or now (peer * width + place) 0 =
    λ peer place place_in other. get_or-set_other now here (peer * width + place) value 0 (λ same. other (same_from_place peer place from at width place_in at_in same)) in
    record {
      sized = length-set now here value ∙ was.sized;
      learned = λ peer place peer_in place_in before.
          ⊎_elim
          (λ (last : place ≡ at).
          ⊎_elim
          (λ (same : peer ≡ from).
          ap (λ (p : ℕ). get_or (set now here value) (p * width + place) 0) same ∙ ap (λ (p : ℕ). get_or (set now here value) (from * width + p) 0) last
          ∙ get_or-set_same now here value 0 within
          ∙ ap (λ (n : ℕ). max n (get_or told at 0)) (was.later from at from_in at_in (omega arith))
          ∙ sym (rw (eq-eqb peer from same, same, last) refl))
          (λ (other : peer ≡ from → ⊥).
          elsewhere peer place place_in (λ both. other both.0)
          ∙ was.later peer place peer_in place_in (omega (arith, last))
          ∙ sym (rw (ne_eqb peer from other) refl))
          (cases_eq peer from))
          (λ (not_last : place ≡ at → ⊥).
          elsewhere peer place place_in (λ both. not_last both.1) ∙ was.learned peer place peer_in place_in (omega (arith, before, not_last)))
          (cases_eq place at);
      later = λ peer place peer_in place_in above.
          elsewhere peer place place_in (λ both. absurd (omega (arith, both.1, above))) ∙ was.later peer place peer_in place_in (omega (arith, above));
    }

pub learned_all : (replicas width from : ℕ) (told start now : List ℕ)
    → IsLearned replicas width from told start width now
    → (peer place : ℕ)
    → peer < replicas
    → place < width
    → get_or now (peer * width + place) 0 ≡ raised from peer (get_or start (peer * width + place) 0) (get_or told place 0)
learned_all replicas width from told start now all peer place peer_in place_in = all.learned peer place peer_in place_in place_in

-- a number that is told as it is stays
raised_same : (from peer before told : ℕ) → (peer ≡ from → told ≡ before) → before ≡ raised from peer before told
raised_same from peer before told same =
    ⊎_elim (λ (is : peer ≡ from). rw (eq-eqb peer from is) (omega (arith, same is))) (λ (other : peer ≡ from → ⊥). rw (ne_eqb peer from other) refl)
    (cases_eq peer from)

-- where the sender's are told as they are, all numbers stay
pub told_again : (width from : ℕ) (told now : List ℕ)
    → told ≡ map (λ place. get_or now (from * width + place) 0) (range_with_len 0 width)
    → (peer place : ℕ)
    → place < width
    → get_or now (peer * width + place) 0 ≡ raised from peer (get_or now (peer * width + place) 0) (get_or told place 0)
told_again width from told now same peer place place_in =
    let as_told : get_or told place 0 ≡ get_or now (from * width + place) 0 =
    ap (λ (ns : List ℕ). get_or ns place 0) same ∙ get_or-map_range (λ (at : ℕ). get_or now (from * width + at) 0) width place 0 place_in in
    raised_same from peer (get_or now (peer * width + place) 0) (get_or told place 0)
    (λ is. as_told ∙ ap (λ (p : ℕ). get_or now (p * width + place) 0) (sym is))
