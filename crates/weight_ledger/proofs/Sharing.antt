-- Joins and splits of seats keep the rule.
use Rattle.std.proofs.Common.{◌≡◌, ◌≢◌, ℕ, ◌+◌, ◌-◌, ◌≤◌, List, [], ◌∷◌, ◌++◌, get_or, set, sym, refl, ap, subst, ◌∙◌, ⊎_elim, arith, Option}
use mathlib.Core.Option.{some}
use mathlib.Core.Logic.{dite}
use native.Mathlib.Decide.{ℕ_discrete, dec_le}
use lib.ListN.{get_elem?}
use Rattle.atomic_table.specs.Table.{State, Joins, Splits}
use Rattle.atomic_table.proofs.Lists.{at_set, at_snoc, set_else}
use Rattle.weight_ledger.specs.declared.view.View.{View}
use Rattle.weight_ledger.specs.Seen.{TallyView}
use Rattle.weight_ledger.specs.Amounts.{IsPartOf}
use Rattle.weight_ledger.specs.Keeping.{total, one_if, amount, owner, busy, both, spent, emptied, token, less, piece, Knows, Kept}
use Rattle.weight_ledger.proofs.Sums.{term_le, terms_le, total_joined, total_cut}
use Rattle.weight_ledger.proofs.Places.{get_or-added, get_or-lessened}

module _ {T L : Type 0} (label : T → L) (totals : T → List ℕ) (name : L) (shared owned : ℕ) where
  abbrev K : State (Option T) (View L) → Type 0
  K = Kept label totals name shared owned

  -- of two seats one of which owns a place, that one has all of it
  joint_sole : (s : State (Option T) (View L)) (p i j : ℕ) (v w : View L)
      → K s
      → j ≢ i
      → get_elem? s.views i ≡ some v
      → get_elem? s.views j ≡ some w
      → owner p v + owner p w ≢ 0
      → total (amount p) s.views ≡ amount p v + amount p w
  joint_sole s p i j v w k ne at at' own =
      let two : amount p v + amount p w ≤ total (amount p) s.views = terms_le (amount p) s.views i j v w ne at at' in
      dite (ℕ_discrete (owner p v) 0)
      (λ e. let all : total (amount p) s.views ≡ amount p w = k.sole p j w at' (λ z. own (omega (arith, e, z))) in omega (arith, two, all))
      (λ n. let all : total (amount p) s.views ≡ amount p v = k.sole p i v at n in omega (arith, two, all))

  pub joins : (id other : ℕ) (v w : View L) → w.phase ≡ 0 → Joins K id v other w (both v w) spent
  joins id other v w idle s k at ne at' =
      let b : View L = both v w in
      let z : View L = spent in
      let vs : List (View L) = set (set s.views id b) other z in
      let there : get_elem? s.views other ≡ some w = sym (set_else s.views id other b ne) ∙ at' in
      let sum : (p : ℕ) → total (amount p) vs ≡ total (amount p) s.views
      = λ p. total_joined (amount p) s.views id other v w b z at at' (get_or-added v.amounts w.amounts p) refl in
      let own : (p : ℕ) → total (owner p) vs ≡ total (owner p) s.views
      = λ p. total_joined (owner p) s.views id other v w b z at at' (get_or-added v.owns w.owns p) refl in
      let calm : one_if w.phase ≡ 0 = ap one_if idle in
      let sum_busy : one_if v.phase ≡ one_if v.phase + one_if w.phase = omega (arith, calm) in
      record {
        wide = k.wide;
        lock = k.lock;
        single = total_joined busy s.views id other v w b z at at' sum_busy refl ∙ k.single;
        known = λ j u here up. ⊎_elim
            (λ h. absurd (up (ap (λ (x : View L). x.phase) (sym h.1))))
            (λ h. ⊎_elim
            (λ g. let P : View L → Type 0 = λ x. x.phase ≢ 0 → Knows s.words x in
            let know : b.phase ≢ 0 → Knows s.words b = λ up'. (let kn = k.known id v at up' in record { phase = kn.phase; book = kn.book; short = kn.short; whole = kn.whole }) in
            subst P g.1 know up)
            (λ g. k.known j u g.1 up)
            (at_set s.views id j b u h.1))
            (at_set (set s.views id b) other j z u here);
        home = k.home;
        sums = λ p. k.sums p ∙ sym (sum p);
        once = λ p. omega (arith, k.once p, own p);
        common = λ p lt. own p ∙ k.common p lt;
        sole = λ p j u here mine. ⊎_elim
            (λ h. absurd (mine (ap (owner p) (sym h.1))))
            (λ h. ⊎_elim
            (λ g. let P : View L → Type 0 = λ x. owner p x ≢ 0 in
            let m : owner p b ≢ 0 = subst P (sym g.1) mine in
            let m' : owner p v + owner p w ≢ 0 = λ e. m (get_or-added v.owns w.owns p ∙ e) in
            sum p ∙ (joint_sole s p id other v w k ne at there m' ∙ (sym (get_or-added v.amounts w.amounts p) ∙ ap (amount p) g.1)))
            (λ g. sum p ∙ k.sole p j u g.1 mine)
            (at_set s.views id j b u h.1))
            (at_set (set s.views id b) other j z u here);
      }

  -- a view becomes two, which have together what it had, and whichever of them owns a place has all of it
  pub cuts : (id : ℕ) (v : View L) (al ol ar ow : List ℕ)
      → ((p : ℕ) → get_or al p 0 + get_or ar p 0 ≡ amount p v)
      → ((p : ℕ) → get_or ol p 0 + get_or ow p 0 ≡ owner p v)
      → ((p : ℕ) → shared ≤ p → get_or ol p 0 ≢ 0 → get_or al p 0 ≡ amount p v)
      → ((p : ℕ) → shared ≤ p → get_or ow p 0 ≢ 0 → get_or ar p 0 ≡ amount p v)
      → Splits K id v (record v { amounts = al; owns = ol }) (record { label = v.label; phase = 0; book = []; amounts = ar; owns = ow })
  cuts id v al ol ar ow have owns left right s k at =
      let l : View L = record v { amounts = al; owns = ol } in
      let r : View L = record { label = v.label; phase = 0; book = []; amounts = ar; owns = ow } in
      let vs : List (View L) = set s.views id l ++ r ∷ [] in
      let sum : (p : ℕ) → total (amount p) vs ≡ total (amount p) s.views = λ p. total_cut (amount p) s.views id v l r at (have p) in
      let own : (p : ℕ) → total (owner p) vs ≡ total (owner p) s.views = λ p. total_cut (owner p) s.views id v l r at (owns p) in
      let far : (p : ℕ) → owner p v ≢ 0 → shared ≤ p = λ p m. dite (dec_le shared p) (λ e. e)
      (λ n. absurd (m (omega (arith, term_le (owner p) s.views id v at, k.common p (omega (arith, n)))))) in
      let sum_busy : one_if v.phase + 0 ≡ one_if v.phase = omega arith in
      record {
        wide = k.wide;
        lock = k.lock;
        single = total_cut busy s.views id v l r at sum_busy ∙ k.single;
        known = λ j u here up. ⊎_elim
            (λ h. ⊎_elim
            (λ g. let P : View L → Type 0 = λ x. x.phase ≢ 0 → Knows s.words x in
            let know : l.phase ≢ 0 → Knows s.words l = λ up'. (let kn = k.known id v at up' in record { phase = kn.phase; book = kn.book; short = kn.short; whole = kn.whole }) in
            subst P g.1 know up)
            (λ g. k.known j u g.1 up)
            (at_set s.views id j l u h))
            (λ h. absurd (up (ap (λ (x : View L). x.phase) (sym h))))
            (at_snoc (set s.views id l) r u j here);
        home = k.home;
        sums = λ p. k.sums p ∙ sym (sum p);
        once = λ p. omega (arith, k.once p, own p);
        common = λ p lt. own p ∙ k.common p lt;
        sole = λ p j u here mine. ⊎_elim
            (λ h. ⊎_elim
            (λ g. let P : View L → Type 0 = λ x. owner p x ≢ 0 in
            let m : get_or ol p 0 ≢ 0 = subst P (sym g.1) mine in
            let mv : owner p v ≢ 0 = λ e. m (omega (arith, owns p, e)) in
            sum p ∙ (k.sole p id v at mv ∙ (sym (left p (far p mv) m) ∙ ap (amount p) g.1)))
            (λ g. sum p ∙ k.sole p j u g.1 mine)
            (at_set s.views id j l u h))
            (λ h. let P : View L → Type 0 = λ x. owner p x ≢ 0 in
            let m : get_or ow p 0 ≢ 0 = subst P (sym h) mine in
            let mv : owner p v ≢ 0 = λ e. m (omega (arith, owns p, e)) in
            sum p ∙ (k.sole p id v at mv ∙ (sym (right p (far p mv) m) ∙ ap (amount p) h)))
            (at_snoc (set s.views id l) r u j here);
      }

  -- all that a seat has goes to a new one
  pub comes_off : (id : ℕ) (v : View L) → Splits K id v (emptied v) (token v)
  comes_off id v = cuts id v [] [] v.amounts v.owns (λ p. omega arith) (λ p. omega arith) (λ p _ h. absurd (h refl)) (λ p _ _. refl)

  -- a part of what a tally has goes to a new one
  pub cuts_part : (id : ℕ) (v : View L) (t : TallyView) (amounts owns : List ℕ)
      → t.amounts ≡ v.amounts
      → t.owns ≡ v.owns
      → IsPartOf shared t amounts owns
      → Splits K id v (less v amounts owns) (piece v amounts owns)
  cuts_part id v t amounts owns ea eo part =
      let av : (p : ℕ) → get_or t.amounts p 0 ≡ amount p v = λ p. ap (λ (l : List ℕ). get_or l p 0) ea in
      let ov : (p : ℕ) → get_or t.owns p 0 ≡ owner p v = λ p. ap (λ (l : List ℕ). get_or l p 0) eo in
      let la : (p : ℕ) → get_or (less v amounts owns).amounts p 0 ≡ amount p v - get_or amounts p 0 = λ p. get_or-lessened v.amounts amounts p in
      let lo : (p : ℕ) → get_or (less v amounts owns).owns p 0 ≡ owner p v - get_or owns p 0 = λ p. get_or-lessened v.owns owns p in
      cuts id v (less v amounts owns).amounts (less v amounts owns).owns amounts owns
      (λ p. omega (arith, la p, av p, part.some p))
      (λ p. omega (arith, lo p, ov p, part.owned p))
      (λ p far m. let none : get_or amounts p 0 ≡ 0 = part.kept p far (λ e. m (omega (arith, lo p, ov p, e))) (λ e. m (omega (arith, lo p, ov p, e))) in
      omega (arith, la p, none))
      (λ p far m. part.whole p m ∙ av p)
