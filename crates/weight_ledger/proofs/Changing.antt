-- The steps of the holder keep the rule: it raises, lowers and compares.
use Rattle.std.proofs.Common.{◌≡◌, ◌≢◌, ℕ, ◌+◌, ◌-◌, ◌%◌, ◌^◌, ◌<◌, ◌≤◌, List, length, get_or, drop, set, sym, refl, ap, subst, ◌∙◌, ⊎_elim, arith, Option, get_or-set_same, get_or-set_other}
use Rattle.std.proofs.Math.ListN.{length-set}
use Rattle.std.proofs.lemmas.List.{take_all, length-drop}
use mathlib.Core.Option.{none, some}
use mathlib.Core.Logic.{dite}
use native.Mathlib.Decide.{ℕ_discrete, dec_le}
use lib.ListN.{get_elem?}
use Rattle.atomic_table.specs.Table.{State, Me, step, keeps, Allows}
use Rattle.atomic_table.proofs.Lists.{at_set}
use Rattle.weight_ledger.specs.declared.view.View.{View}
use Rattle.weight_ledger.specs.Keeping.{total, one_if, amount, owner, busy, changed, Knows, Kept}
use Rattle.weight_ledger.specs.Telling.{raised, lowered, agreed, bounded}
use Rattle.weight_ledger.proofs.Sums.{term_le, terms_le, total-set, total_kept}
use Rattle.weight_ledger.proofs.Words.{past, drop_place, lock_kept, full}
use Rattle.weight_ledger.proofs.Locking.{one_busy, unmoved}

module _ {T L : Type 0} (label : T → L) (totals : T → List ℕ) (name : L) (shared owned : ℕ) where
  abbrev K : State (Option T) (View L) → Type 0
  K = Kept label totals name shared owned

  -- what the holder knows: its book is all words
  pub knows_all : (s : State (Option T) (View L)) (id : ℕ) (v : View L)
      → K s
      → get_elem? s.views id ≡ some v
      → v.phase ≡ 3
      → (3 ≡ get_or s.words 0 0) × (v.book ≡ drop 1 s.words)
  knows_all s id v k at three =
      let up : v.phase ≢ 0 = λ e. omega (arith, e, three) in
      let kn : Knows s.words v = k.known id v at up in
      (sym three ∙ kn.phase, full v.book s.words kn.book (kn.whole three))

  -- the number at a place of the book is the place's word
  book_at : (s : State (Option T) (View L)) (v : View L) (p : ℕ)
      → v.book ≡ drop 1 s.words
      → get_or v.book p 0 ≡ get_or s.words (p + 1) 0
  book_at s v p e = ap (λ (l : List ℕ). get_or l p 0) e ∙ past s.words p

  pub agrees : (slots id : ℕ) (me : Me (Option T) (View L)) → me.0.phase ≡ 3
      → Allows K slots id me 0 (λ n. n) (agreed (step slots 0 0 0 none) me)
  agrees slots id me three s k len at low =
      let v : View L = me.0 in
      let all = knows_all s id v k at three in
      let is : (p : ℕ) → get_or v.book p 0 ≡ total (amount p) s.views = λ p. book_at s v p all.1 ∙ k.sums p in (
        v,
        keeps,
        tt,
        unmoved label totals name shared owned s id 0 v k at,
        (refl, (λ p. omega (arith, is p, term_le (amount p) s.views id v at)), (λ p m. is p ∙ k.sole p id v at m)),
      )

  -- a seat's amount at a place is within the place's word
  pub bounds : (slots id p : ℕ) (me : Me (Option T) (View L))
      → Allows K slots id me (p + 1) (λ n. n) (bounded (step slots (p + 1) 0 0 none) me)
  bounds slots id p me s k len at low =
      let v : View L = me.0 in
      let q : (p + 1) - 1 ≡ p = omega arith in
      let most : amount p v ≤ get_or s.words (p + 1) 0 = omega (arith, k.sums p, term_le (amount p) s.views id v at) in (
        v,
        keeps,
        tt,
        unmoved label totals name shared owned s id (p + 1) v k at,
        (refl, subst (λ (r : ℕ). amount r v ≤ get_or s.words (p + 1) 0) (sym q) most),
      )

  -- the holder's book and its amount at a place change alike
  pub changes : (s : State (Option T) (View L)) (id : ℕ) (v : View L) (p there mine : ℕ)
      → K s
      → get_elem? s.views id ≡ some v
      → v.phase ≡ 3
      → p < shared + owned
      → p < length v.amounts
      → (shared ≤ p → owner p v ≢ 0)
      → there + amount p v ≡ get_or s.words (p + 1) 0 + mine
      → K record { words = set s.words (p + 1) there; homes = s.homes; views = set s.views id (changed v p there mine) }
  changes s id v p there mine k at three lt here own alike =
      let w : View L = changed v p there mine in
      let ws : List ℕ = set s.words (p + 1) there in
      let vs : List (View L) = set s.views id w in
      let all = knows_all s id v k at three in
      let free : one_if v.phase ≡ one_if (get_or s.words 0 0) = ap one_if (three ∙ all.0) in
      let lock' : get_or ws 0 0 ≡ get_or s.words 0 0 = lock_kept s.words p there in
      let len : length ws ≡ length s.words = length-set s.words (p + 1) there in
      let size : length w.book ≡ length v.book = length-set v.book p there in
      let book_size : length v.book + 1 ≡ length s.words = omega (arith, ap length all.1, length-drop 1 s.words, k.wide) in
      let book : w.book ≡ drop 1 ws = ap (λ (l : List ℕ). set l p there) all.1 ∙ sym (drop_place s.words p there) in
      let here' : amount p w ≡ mine = get_or-set_same v.amounts p mine 0 here in
      let sum : total (amount p) vs + amount p v ≡ total (amount p) s.views + amount p w = total-set (amount p) s.views id v w at in
      let now : total (amount p) s.views ≡ get_or s.words (p + 1) 0 = sym (k.sums p) in
      let sum_else : (q : ℕ) → q ≢ p → total (amount q) vs ≡ total (amount q) s.views
      = λ q ne. total_kept (amount q) s.views id v w at (get_or-set_other v.amounts p q mine 0 ne) in
      let owns : (q : ℕ) → total (owner q) vs ≡ total (owner q) s.views = λ q. total_kept (owner q) s.views id v w at refl in
      let alone : (j : ℕ) (u : View L) → j ≢ id → get_elem? s.views j ≡ some u → owner p u ≢ 0 → ⊥
      = λ j u ne at' m. dite (dec_le shared p)
      (λ far. own far (omega (arith, terms_le (owner p) s.views id j v u ne at at', k.once p, m)))
      (λ n. m (omega (arith, term_le (owner p) s.views j u at', k.common p (omega (arith, n))))) in
      record {
        wide = len ∙ k.wide;
        lock = omega (arith, lock', k.lock);
        single = total_kept busy s.views id v w at refl ∙ (k.single ∙ ap one_if (sym lock'));
        known = λ j u at' up. ⊎_elim
            (λ h. let P : View L → Type 0 = λ x. Knows ws x in
            subst P h.1 record {
              phase = three ∙ (all.0 ∙ sym lock');
              book = book ∙ sym (take_all (length w.book) (drop 1 ws) (omega (arith, length-drop 1 ws, len, size, book_size)));
              short = omega (arith, size, len, book_size);
              whole = λ _. omega (arith, size, len, book_size);
            })
            (λ h. absurd (one_busy label totals name shared owned s id j v u k at free h.0 h.1 up)) (at_set s.views id j w u at');
        home = λ less. absurd (omega (arith, less, lock', all.0));
        sums = λ q. dite (ℕ_discrete q p)
            (λ e. let P : ℕ → Type 0 = λ r. get_or ws (r + 1) 0 ≡ total (amount r) vs in
            let word : get_or ws (p + 1) 0 ≡ there = get_or-set_same s.words (p + 1) there 0 (omega (arith, k.wide, lt)) in
            subst P (sym e) (omega (arith, word, sum, now, here', alike)))
            (λ ne. get_or-set_other s.words (p + 1) (q + 1) there 0 (λ e. ne (omega (arith, e))) ∙ (k.sums q ∙ sym (sum_else q ne)));
        once = λ q. omega (arith, k.once q, owns q);
        common = λ q less. owns q ∙ k.common q less;
        sole = λ q j u at' m. ⊎_elim
            (λ h. let P : View L → Type 0 = λ x. owner q x ≢ 0 in
            let mv : owner q v ≢ 0 = subst P (sym h.1) m in
            let whole : total (amount q) s.views ≡ amount q v = k.sole q id v at mv in
            let mine' : total (amount q) vs ≡ amount q w = dite (ℕ_discrete q p)
            (λ e. let Q : ℕ → Type 0 = λ r. total (amount r) s.views ≡ amount r v → total (amount r) vs ≡ amount r w in
            let at_p : total (amount p) s.views ≡ amount p v → total (amount p) vs ≡ amount p w = λ t. omega (arith, t, sum) in
            subst Q (sym e) at_p whole)
            (λ ne. sum_else q ne ∙ (whole ∙ sym (get_or-set_other v.amounts p q mine 0 ne))) in
            mine' ∙ ap (amount q) h.1)
            (λ h. dite (ℕ_discrete q p)
            (λ e. let Q : ℕ → Type 0 = λ r. owner r u ≢ 0 in absurd (alone j u h.0 h.1 (subst Q e m)))
            (λ ne. sum_else q ne ∙ k.sole q j u h.1 m))
            (at_set s.views id j w u at');
      }

  pub raises : (slots id p x : ℕ) (me : Me (Option T) (View L))
      → me.0.phase ≡ 3
      → p < shared + owned
      → p < length me.0.amounts
      → (shared ≤ p → owner p me.0 ≢ 0)
      → get_or me.0.book p 0 + x < 2 ^ 64
      → Allows K slots id me (p + 1) (λ n. (n + x) % 2 ^ 64) (raised (step slots (p + 1) x 0 none) me)
  raises slots id p x me three lt here own room s k len at low =
      let v : View L = me.0 in
      let all = knows_all s id v k at three in
      let word : get_or v.book p 0 ≡ get_or s.words (p + 1) 0 = book_at s v p all.1 in
      let n : ℕ = get_or v.book p 0 + x in
      let a : ℕ = amount p v + x in
      let is : (get_or s.words (p + 1) 0 + x) % 2 ^ 64 ≡ n = omega (arith, word, room) in
      let q : (p + 1) - 1 ≡ p = omega arith in
      let P : ℕ → Type 0 = λ m. K record { words = set s.words (p + 1) m; homes = s.homes; views = set s.views id (changed v p n a) } in (
        changed v p n a,
        keeps,
        tt,
        subst P (sym is) (changes s id v p n a k at three lt here own (omega (arith, word))),
        ap (λ (r : ℕ). (changed v r (get_or v.book r 0 + x) (amount r v + x), me.1)) (sym q),
      )

  pub lowers : (slots id p x : ℕ) (me : Me (Option T) (View L))
      → me.0.phase ≡ 3
      → p < shared + owned
      → p < length me.0.amounts
      → (shared ≤ p → owner p me.0 ≢ 0)
      → x ≤ amount p me.0
      → Allows K slots id me (p + 1) (λ n. (n + (2 ^ 64 - x)) % 2 ^ 64) (lowered (step slots (p + 1) x 0 none) me)
  lowers slots id p x me three lt here own has s k len at low =
      let v : View L = me.0 in
      let all = knows_all s id v k at three in
      let word : get_or v.book p 0 ≡ get_or s.words (p + 1) 0 = book_at s v p all.1 in
      let enough : amount p v ≤ get_or s.words (p + 1) 0 = omega (arith, term_le (amount p) s.views id v at, k.sums p) in
      let n : ℕ = get_or v.book p 0 - x in
      let a : ℕ = amount p v - x in
      let is : (get_or s.words (p + 1) 0 + (2 ^ 64 - x)) % 2 ^ 64 ≡ n = omega (arith, word, has, enough, low) in
      let q : (p + 1) - 1 ≡ p = omega arith in
      let P : ℕ → Type 0 = λ m. K record { words = set s.words (p + 1) m; homes = s.homes; views = set s.views id (changed v p n a) } in (
        changed v p n a,
        keeps,
        tt,
        subst P (sym is) (changes s id v p n a k at three lt here own (omega (arith, word, has, enough))),
        ap (λ (r : ℕ). (changed v r (get_or v.book r 0 - x) (amount r v - x), me.1)) (sym q),
      )
