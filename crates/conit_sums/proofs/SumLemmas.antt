-- Sums by conit: over the first weights of a write, and over the weights of several writes.
use Rattle.std.proofs.Common.{◌≡◌, ◌≢◌, ℕ, ◌+◌, ◌-◌, ◌*◌, ◌<◌, ◌≤◌, List, [], ◌∷◌, ◌++◌, zero, suc, pos, All, length}
use Rattle.std.proofs.Common.{get_or, set, take, drop, map, sum_by, true, nat_le, unsigned_abs, refl, sym, ap, ◌∙◌}
use Rattle.std.proofs.Common.{arith, inl, inr}
use Rattle.std.proofs.lemmas.Bool.{cases_eq, and_parts, leb-true}
use Rattle.std.proofs.lemmas.List.{length-append, take-append-drop, get_or-set_same, get_or-set_other}
use Rattle.std.proofs.lemmas.List.Elements.{filter-append, All-append, All-cons, All-tail}
use Rattle.std.proofs.lemmas.List.Sums.{sum_by-append, sum_by-cons, sum_by-le}
use Rattle.tact_base.proofs.ConitListLemmas.{IsWeights, weight_in_limits}
use Rattle.tact_base.proofs.FilterSums.{above_zero-le, below_zero-le}
use Rattle.tact_base.proofs.ListLemmas.{All-append_left, All-append_right}
use Rattle.tact_base.proofs.OrderSums.{sum_by-weights_on}
use Rattle.tact_base.proofs.SumsLemmas.{sum_on_conit-yes, sum_on_conit-no, sum_on_conit-le}
use Rattle.tact_base.specs.Sums.{on_conit, weights_on}
use Rattle.tact_base.specs.declared.conit_list.Weight.{Weight}
use Rattle.tact_base.specs.declared.write.Write.{Write}
use Rattle.tact_base.specs.declared.limits.TheConstants.{WEIGHT_MAX}
use Rattle.conit_sums.specs.declared.Summed.{Summed}
use Rattle.conit_sums.specs.declared.Summed.TheVariants.{Plus, Minus, Order}
use Rattle.conit_sums.specs.ConitSums.{SumsState, AreSumsOf, number_of, write_sum, sum_of}

-- what a read past the end would give
abbrev pub no_weight : Weight
no_weight = record { conit = 0; nweight = pos 0; oweight = 0 }

-- what was read of a place
pub read_at : (sums : List ℕ) (at read : ℕ)
    → at < length sums
    → read ≡ get_or sums at read
    → read ≡ get_or sums at 0
read_at [] at read within is = absurd (omega arith)
read_at (s ∷ sums) zero read within is = is
read_at (s ∷ sums) (suc at) read within is = read_at sums at read (omega arith) is

-- a number of a weight within its limits
number_of-le : (summed : Summed) (weight : Weight)
    → weight_in_limits weight ≡ true
    → number_of summed weight ≤ WEIGHT_MAX
number_of-le Plus weight within =
    omega (
      arith,
      above_zero-le weight.nweight,
      leb-true (unsigned_abs weight.nweight) WEIGHT_MAX
          (and_parts (nat_le (unsigned_abs weight.nweight) WEIGHT_MAX) (nat_le weight.oweight WEIGHT_MAX) within).0,
    )
number_of-le Minus weight within =
    omega (
      arith,
      below_zero-le weight.nweight,
      leb-true (unsigned_abs weight.nweight) WEIGHT_MAX
          (and_parts (nat_le (unsigned_abs weight.nweight) WEIGHT_MAX) (nat_le weight.oweight WEIGHT_MAX) within).0,
    )
number_of-le Order weight within = leb-true weight.oweight WEIGHT_MAX (and_parts (nat_le (unsigned_abs weight.nweight) WEIGHT_MAX) (nat_le weight.oweight WEIGHT_MAX) within).1

pub write_sum-le : (summed : Summed) (weights : List Weight) (conit : ℕ)
    → IsWeights weights
    → write_sum summed weights conit ≤ WEIGHT_MAX
write_sum-le summed weights conit good = sum_on_conit-le (number_of summed) WEIGHT_MAX (number_of-le summed) conit weights good

-- the first of the weights, and all of them
pub write_sum-take : (summed : Summed) (weights : List Weight) (i conit : ℕ)
    → write_sum summed (take i weights) conit ≤ write_sum summed weights conit
write_sum-take summed weights i conit =
    let kept : on_conit conit weights ≡ on_conit conit (take i weights) ++ on_conit conit (drop i weights) =
    ap (on_conit conit) (sym (take-append-drop i weights)) ∙ filter-append _ (take i weights) (drop i weights) in
    let both = ap (sum_by (number_of summed)) kept ∙ sum_by-append (number_of summed) (on_conit conit (take i weights)) (on_conit conit (drop i weights)) in
    omega (arith, both)

module _ (summed : Summed) (weights : List Weight) (i : ℕ) (d : Weight) (within : i < length weights) where
  -- one more weight, on its own conit and on the others
  pub write_sum-more : write_sum summed (take (i + 1) weights) (get_or weights i d).conit
      ≡ write_sum summed (take i weights) (get_or weights i d).conit + number_of summed (get_or weights i d)
  write_sum-more = sum_on_conit-yes (number_of summed) (get_or weights i d).conit weights i d within refl

  -- on its conit, those before it and it are no more than all
  pub write_sum-next : write_sum summed (take i weights) (get_or weights i d).conit + number_of summed (get_or weights i d)
      ≤ write_sum summed weights (get_or weights i d).conit
  write_sum-next = omega (arith, write_sum-more, write_sum-take summed weights (i + 1) (get_or weights i d).conit)

  pub write_sum-other : (conit : ℕ)
      → (get_or weights i d).conit ≢ conit
      → write_sum summed (take (i + 1) weights) conit ≡ write_sum summed (take i weights) conit
  write_sum-other conit other = sum_on_conit-no (number_of summed) conit weights i d within other

  -- sums that one more weight was added to
  pub added-one : (sums old : List ℕ) (conit : ℕ)
      → (get_or weights i d).conit < length sums
      → ((c : ℕ) → get_or sums c 0 ≡ get_or old c 0 + write_sum summed (take i weights) c)
      → get_or (set sums (get_or weights i d).conit (get_or sums (get_or weights i d).conit 0 + number_of summed (get_or weights i d))) conit 0
      ≡ get_or old conit 0 + write_sum summed (take (i + 1) weights) conit
  added-one sums old conit held so_far =
      elim (cases_eq (get_or weights i d).conit conit) as
      (λ _. get_or (set sums (get_or weights i d).conit (get_or sums (get_or weights i d).conit 0 + number_of summed (get_or weights i d))) conit 0
      ≡ get_or old conit 0 + write_sum summed (take (i + 1) weights) conit) [
        | inl same ↦ rw (
          ← same,
          get_or-set_same sums (get_or weights i d).conit (get_or sums (get_or weights i d).conit 0 + number_of summed (get_or weights i d)) 0
              held,
          write_sum-more,
        ) (omega (arith, so_far (get_or weights i d).conit))
        | inr other ↦ rw (get_or-set_other sums (get_or weights i d).conit conit _ 0 (λ e. other (sym e)), write_sum-other conit other) (so_far conit)
      ]

  -- and that it was taken off
  pub removed-one : (sums old : List ℕ) (conit : ℕ)
      → (get_or weights i d).conit < length sums
      → number_of summed (get_or weights i d) ≤ get_or sums (get_or weights i d).conit 0
      → ((c : ℕ) → get_or sums c 0 + write_sum summed (take i weights) c ≡ get_or old c 0)
      → get_or (set sums (get_or weights i d).conit (get_or sums (get_or weights i d).conit 0 - number_of summed (get_or weights i d))) conit 0
      + write_sum summed (take (i + 1) weights) conit ≡ get_or old conit 0
  removed-one sums old conit held enough so_far =
      elim (cases_eq (get_or weights i d).conit conit) as
      (λ _. get_or (set sums (get_or weights i d).conit (get_or sums (get_or weights i d).conit 0 - number_of summed (get_or weights i d))) conit 0 + write_sum summed
      (take (i + 1) weights) conit ≡ get_or old conit 0) [
        | inl same ↦ rw (
          ← same,
          get_or-set_same sums (get_or weights i d).conit (get_or sums (get_or weights i d).conit 0 - number_of summed (get_or weights i d)) 0
              held,
          write_sum-more,
        ) (omega (arith, so_far (get_or weights i d).conit))
        | inr other ↦ rw (get_or-set_other sums (get_or weights i d).conit conit _ 0 (λ e. other (sym e)), write_sum-other conit other) (so_far conit)
      ]

-- with the weights of one more write
pub sum_of-one : (summed : Summed) (front rest : List (List Weight)) (weights : List Weight) (conit : ℕ)
    → sum_of summed (front ++ weights ∷ rest) conit ≡ sum_of summed (front ++ rest) conit + write_sum summed weights conit
sum_of-one summed front rest weights conit =
    let of_write : List Weight → ℕ = λ ws. write_sum summed ws conit in
    omega (arith, sum_by-append of_write front (weights ∷ rest), sum_by-cons of_write weights rest, sum_by-append of_write front rest)

module _ (state new : SumsState) (front rest : List (List Weight)) (weights : List Weight) (same : new.summed ≡ state.summed) where
  pub AreSumsOf-added : new.held ≡ state.held + 1
      → ((conit : ℕ) → get_or new.sums conit 0 ≡ get_or state.sums conit 0 + write_sum state.summed weights conit)
      → ((conit : ℕ) → write_sum state.summed weights conit ≤ WEIGHT_MAX)
      → AreSumsOf state (front ++ rest)
      → AreSumsOf new (front ++ weights ∷ rest)
  AreSumsOf-added more sums small of = record {
    held = omega (arith, of.held, length-append front rest, length-append front (weights ∷ rest));
    sums = λ conit. rw same (sums conit ∙ rw (of.sums conit) (sym (sum_of-one state.summed front rest weights conit)));
    small =
        let P : List Weight → Type 0 = λ ws. (conit : ℕ) → write_sum state.summed ws conit ≤ WEIGHT_MAX in
        rw same (All-append P front (weights ∷ rest) (All-append_left P front rest of.small) (All-cons P weights rest small (All-append_right P front rest of.small)));
  }

  pub AreSumsOf-removed : new.held ≡ state.held - 1
      → ((conit : ℕ) → get_or new.sums conit 0 + write_sum state.summed weights conit ≡ get_or state.sums conit 0)
      → AreSumsOf state (front ++ weights ∷ rest)
      → AreSumsOf new (front ++ rest)
  AreSumsOf-removed less sums of = record {
    held = omega (arith, of.held, length-append front rest, length-append front (weights ∷ rest));
    sums = λ conit. rw same (omega (arith, sums conit, of.sums conit, sum_of-one state.summed front rest weights conit));
    small =
        let P : List Weight → Type 0 = λ ws. (conit : ℕ) → write_sum state.summed ws conit ≤ WEIGHT_MAX in
        rw same (All-append P front rest (All-append_left P front (weights ∷ rest) of.small) (All-tail P weights rest (All-append_right P front (weights ∷ rest) of.small)));
  }

-- sums over few writes are small
pub sum_of-le : (summed : Summed) (held : List (List Weight)) (conit : ℕ)
    → All (λ weights. (conit : ℕ) → write_sum summed weights conit ≤ WEIGHT_MAX) held
    → sum_of summed held conit ≤ length held * WEIGHT_MAX
sum_of-le summed held conit small = sum_by-le (λ weights. write_sum summed weights conit) WEIGHT_MAX held (λ k d within. small k d within conit)

-- the plain sums over writes are those over their weights
pub sum_of-writes : (summed : Summed) (writes : List Write) (conit : ℕ)
    → sum_of summed (map (λ write. write.weights) writes) conit ≡ sum_by (number_of summed) (weights_on writes conit)
sum_of-writes summed writes conit = by writes ∙ sym (sum_by-weights_on (number_of summed) writes conit)
  where
    by : (writes : List Write)
        → sum_of summed (map (λ write. write.weights) writes) conit ≡ sum_by (λ (write : Write). write_sum summed write.weights conit) writes
    by [] = refl
    by (write ∷ writes) =
        omega (
          arith,
          by writes,
          sum_by-cons (λ (write : Write). write_sum summed write.weights conit) write writes,
          sum_by-cons (λ weights. write_sum summed weights conit) write.weights (map (λ (write : Write). write.weights) writes),
        )
