-- How a cell begins, what its end finds, and what a tally's seat is.
use Rattle.std.proofs.Common.{◌≡◌, ◌≢◌, ℕ, ◌+◌, ◌≤◌, List, [], ◌∷◌, length, get_or, sym, refl, ap, subst, ◌∙◌, ⊎_elim, arith, Option, Some}
use Rattle.std.proofs.lemmas.List.{length-drop}
use mathlib.Core.Option.{some, some-ne-none}
use lib.ListN.{get_elem?}
use Rattle.atomic_table.specs.Table.{State, Final, Seen, opening}
use Rattle.atomic_table.proofs.Lists.{at_snoc}
use Rattle.weight_ledger.specs.Amounts.{zeros}
use Rattle.weight_ledger.specs.declared.view.View.{View}
use Rattle.weight_ledger.specs.Keeping.{total, one_if, amount, founder, Idle, amounts_of, owns_of, Knows, Kept}
use Rattle.weight_ledger.proofs.Sums.{term_le}
use Rattle.weight_ledger.proofs.Words.{past}
use Rattle.weight_ledger.proofs.Places.{get_or-zeros, length-zeros, drop_zeros, owned_once, shared_free}

-- what a value's totals say of amounts and owned places
pub record Agrees (sums amounts owns : List ℕ) (places : ℕ) : Type 0 where
  pub size : length sums ≡ places
  pub owned : (p : ℕ) → get_or owns p 0 ≢ 0 → get_or sums p 0 ≡ get_or amounts p 0
  pub least : (p : ℕ) → get_or amounts p 0 ≤ get_or sums p 0

-- the same of other numbers that are equal
pub agrees_too : (s₁ s₂ a₁ a₂ o₁ o₂ : List ℕ) (n₁ n₂ : ℕ)
    → s₁ ≡ s₂
    → a₁ ≡ a₂
    → o₁ ≡ o₂
    → n₁ ≡ n₂
    → Agrees s₁ a₁ o₁ n₁
    → Agrees s₂ a₂ o₂ n₂
agrees_too s₁ s₂ a₁ a₂ o₁ o₂ n₁ n₂ es ea eo en h =
    subst (λ (s : List ℕ). Agrees s a₂ o₂ n₂) es (subst (λ (a : List ℕ). Agrees s₁ a o₂ n₂) ea
    (subst (λ (o : List ℕ). Agrees s₁ a₁ o n₂) eo (subst (λ (n : ℕ). Agrees s₁ a₁ o₁ n) en h)))

-- what is known of the seat of a tally
pub idle_of : {L : Type 0} (words : ℕ) (views : List (View L)) (u : View L)
    → Idle words views
    → views ≡ u ∷ []
    → (u.phase ≡ 0) × (length u.amounts + 1 ≡ words) × (amounts_of views ≡ u.amounts) × (owns_of views ≡ u.owns)
idle_of {L} words views u i e =
    let same : i.0 ≡ u = cc (i.1, e) in (
      ap (λ (x : View L). x.phase) (sym same) ∙ i.2,
      ap (λ (x : View L). length x.amounts + 1) (sym same) ∙ i.3,
      ap (λ (xs : List (View L)). amounts_of xs) e,
      ap (λ (xs : List (View L)). owns_of xs) e,
    )

module _ {T L : Type 0} (label : T → L) (totals : T → List ℕ) (name : L) (shared owned : ℕ) where
  -- a table that is closed by a seat that claims has the value, and the seat's amounts agree with its totals
  pub ends : (id : ℕ) (v : View L) (ws : List ℕ) (xs : List (Option T))
      → v.phase ≡ 1
      → Final (Seen (Kept label totals name shared owned) id v) ws xs
      → (x : T) × (get_elem? xs 0 ≡ some (Some x)) × (label x ≡ name) × Agrees (totals x) v.amounts v.owns (shared + owned)
  ends id v ws xs one f =
      let s : State (Option T) (View L) = f.0 in
      let k : Kept label totals name shared owned s = f.1.0 in
      let at : get_elem? s.views id ≡ some v = f.1.1 in
      let up : v.phase ≢ 0 = λ e. omega (arith, e, one) in
      let kn : Knows s.words v = k.known id v at up in
      let h = k.home (omega (arith, kn.phase, one)) in
      let is : (p : ℕ) → get_or (totals h.0) p 0 ≡ total (amount p) s.views
      = λ p. ap (λ (l : List ℕ). get_or l p 0) h.3 ∙ (past s.words p ∙ k.sums p) in (
        h.0,
        f.4 0 (Some h.0) h.1,
        h.2,
        record {
          size = omega (arith, ap length h.3, length-drop 1 s.words, k.wide);
          owned = λ p m. is p ∙ k.sole p id v at m;
          least = λ p. omega (arith, is p, term_le (amount p) s.views id v at);
        },
      )

  begins : (value : T)
      → label value ≡ name
      → totals value ≡ zeros (shared + owned)
      → Kept label totals name shared owned (opening (zeros (shared + owned + 1)) (Some value ∷ []) (founder name shared owned))
  begins value named none =
      let n : ℕ = shared + owned in
      let v : View L = founder name shared owned in
      record {
        wide = length-zeros (n + 1);
        lock = omega (arith, get_or-zeros (n + 1) 0);
        single = ap one_if (sym (get_or-zeros (n + 1) 0));
        known = λ i u at up. ⊎_elim (λ h. absurd (some-ne-none u (sym h))) (λ e. absurd (up (ap (λ (x : View L). x.phase) (sym e)))) (at_snoc [] v u i at);
        home = λ _. (value, refl, named, none ∙ sym (drop_zeros n));
        sums = λ p. omega (arith, get_or-zeros (n + 1) (p + 1), get_or-zeros n p);
        once = λ p. omega (arith, owned_once shared owned p);
        common = λ p lt. omega (arith, shared_free shared owned p lt);
        sole = λ p i u at own. ⊎_elim (λ h. absurd (some-ne-none u (sym h)))
            (λ e. let same : amount p v ≡ amount p u = ap (amount p) e in omega (arith, same)) (at_snoc [] v u i at);
      }

-- a new table keeps the rule
pub opens : {T L : Type 0} (label : T → L) (totals : T → List ℕ) (first value : T) (shared owned : ℕ) (words : List ℕ) (items : List (Option T))
    → first ≡ value
    → totals value ≡ zeros (shared + owned)
    → words ≡ zeros (shared + owned + 1)
    → items ≡ Some value ∷ []
    → Kept label totals (label first) shared owned (opening words items (founder (label first) shared owned))
opens {T} {L} label totals first value shared owned words items ef none ew ei =
    let K : List ℕ → List (Option T) → Type 0 = λ ws xs. Kept label totals (label first) shared owned (opening ws xs (founder (label first) shared owned)) in
    subst (λ ws. K ws items) (sym ew) (subst (λ xs. K (zeros (shared + owned + 1)) xs) (sym ei)
    (begins label totals (label first) shared owned value (sym (ap label ef)) none))
