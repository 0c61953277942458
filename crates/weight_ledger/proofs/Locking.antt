-- The steps of the lock keep the rule.
use Rattle.std.proofs.Common.{◌≡◌, ◌≢◌, ℕ, ◌+◌, ◌==◌, ◌<◌, ◌≤◌, List, [], ◌∷◌, ◌++◌, length, get_or, take, drop, set}
use Rattle.std.proofs.Common.{sym, refl, ap, subst, ◌∙◌, ⊎_elim, arith, length-append, Option, Some, get_or-set_same}
use Rattle.std.proofs.Math.ListN.{length-set}
use Rattle.std.proofs.lemmas.List.{set-get_or, length-drop}
use mathlib.Core.Option.{Option as Maybe, none, some}
use lib.ListN.{get_elem?}
use prog.Atomic.{either}
use Rattle.atomic_table.specs.Table.{State, Me, Act, keeps, takes, gives, step, stepped, put_back, carried_after, Valid, Allows, Enters}
use Rattle.atomic_table.proofs.Lists.{at_set, at_snoc, set_again, set_here, exchanged}
use Rattle.weight_ledger.specs.declared.view.View.{View}
use Rattle.weight_ledger.specs.Keeping.{total, one_if, amount, owner, busy, newcomer, in_phase, Knows, Kept}
use Rattle.weight_ledger.specs.Telling.{came, claimed, read, gave, went_out}
use Rattle.weight_ledger.proofs.Sums.{one_of, total-append, total-set, terms_le, total_kept}
use Rattle.weight_ledger.proofs.Words.{past, drop_lock, longer, full}

module _ {T L : Type 0} (label : T → L) (totals : T → List ℕ) (name : L) (shared owned : ℕ) where
  abbrev K : State (Option T) (View L) → Type 0
  K = Kept label totals name shared owned

  -- the value is at home
  abbrev Home : List (Maybe (Option T)) → List ℕ → Type 0
  Home hs ws = (x : T) × (get_elem? hs 0 ≡ some (some (Some x))) × (label x ≡ name) × (totals x ≡ drop 1 ws)

  home_still : (hs : List (Maybe (Option T))) (ws vs : List ℕ)
      → drop 1 vs ≡ drop 1 ws
      → Home hs ws
      → Home hs vs
  home_still hs ws vs e h = (h.0, h.1, h.2, h.3 ∙ sym e)

  -- where one seat is busy no other is
  pub one_busy : (s : State (Option T) (View L)) (i j : ℕ) (v u : View L)
      → K s
      → get_elem? s.views i ≡ some v
      → one_if v.phase ≡ one_if (get_or s.words 0 0)
      → j ≢ i
      → get_elem? s.views j ≡ some u
      → u.phase ≢ 0
      → ⊥
  one_busy s i j v u k at free ne at' up =
      let two : one_if v.phase + one_if u.phase ≤ total busy s.views = terms_le busy s.views i j v u ne at at' in
      let one : one_if u.phase ≡ 1 = one_of u.phase up in
      let all : total busy s.views ≡ one_if (get_or s.words 0 0) = k.single in
      omega (arith, two, one, all, free)

  -- the busy seat, or an idle one where none is busy, gets another phase and another book
  pub phased : (s : State (Option T) (View L)) (i : ℕ) (v : View L) (n : ℕ) (b ws : List ℕ) (hs : List (Maybe (Option T)))
      → K s
      → get_elem? s.views i ≡ some v
      → one_if v.phase ≡ one_if (get_or s.words 0 0)
      → length ws ≡ length s.words
      → drop 1 ws ≡ drop 1 s.words
      → get_or ws 0 0 ≡ n
      → n ≤ 3
      → (n ≢ 0 → Knows ws (in_phase v n b))
      → (n < 3 → Home hs ws)
      → K record { words = ws; homes = hs; views = set s.views i (in_phase v n b) }
  phased s i v n b ws hs k at free len same word low knows home =
      let w : View L = in_phase v n b in
      let single' : total busy (set s.views i w) + one_if v.phase ≡ total busy s.views + one_if n = total-set busy s.views i v w at in
      let all : total busy s.views ≡ one_if (get_or s.words 0 0) = k.single in
      let sum : (p : ℕ) → total (amount p) (set s.views i w) ≡ total (amount p) s.views = λ p. total_kept (amount p) s.views i v w at refl in
      let own : (p : ℕ) → total (owner p) (set s.views i w) ≡ total (owner p) s.views = λ p. total_kept (owner p) s.views i v w at refl in
      record {
        wide = len ∙ k.wide;
        lock = omega (arith, word, low);
        single = rw word (omega (arith, single', all, free));
        known = λ j u at' up. ⊎_elim (λ h. let P : View L → Type 0 = λ x. x.phase ≢ 0 → Knows ws x in subst P h.1 knows up)
            (λ h. absurd (one_busy s i j v u k at free h.0 h.1 up)) (at_set s.views i j w u at');
        home = λ lt. home (omega (arith, word, lt));
        sums = λ p. sym (past ws p) ∙ (ap (λ (l : List ℕ). get_or l p 0) same ∙ (past s.words p ∙ (k.sums p ∙ sym (sum p))));
        once = λ p. omega (arith, k.once p, own p);
        common = λ p lt. own p ∙ k.common p lt;
        sole = λ p j u at' mine. ⊎_elim
            (λ h. let P : View L → Type 0 = λ x. owner p x ≢ 0 in
            let m : owner p w ≢ 0 = subst P (sym h.1) mine in sum p ∙ (k.sole p i v at m ∙ ap (amount p) h.1))
            (λ h. sum p ∙ k.sole p j u h.1 mine) (at_set s.views i j w u at');
      }

  -- nothing changes
  pub unmoved : (s : State (Option T) (View L)) (i j : ℕ) (v : View L)
      → K s
      → get_elem? s.views i ≡ some v
      → K record { words = set s.words j (get_or s.words j 0); homes = s.homes; views = set s.views i v }
  unmoved s i j v k at =
      let P : List ℕ → List (View L) → Type 0 = λ ws vs. K record { words = ws; homes = s.homes; views = vs } in
      subst (λ ws. P ws (set s.views i v)) (sym (set-get_or s.words j 0)) (subst (λ vs. P s.words vs) (sym (set_again s.views i v at)) k)

  -- a seat comes
  pub sits : (slots : ℕ) (me : Me (Option T) (View L))
      → Enters K slots 0 (λ n w. came (step slots 0 0 0 none) me n (w, []))
  sits slots me s k len low =
      let w : View L = newcomer me.0.label in
      let sum : (f : View L → ℕ) → f w ≡ 0 → total f (s.views ++ w ∷ []) ≡ total f s.views = λ f e. omega (arith, total-append f s.views (w ∷ []), e) in (
        w,
        record {
          wide = k.wide;
          lock = k.lock;
          single = sum busy refl ∙ k.single;
          known = λ j u at up. ⊎_elim (λ h. k.known j u h up) (λ h. absurd (up (ap (λ (x : View L). x.phase) (sym h)))) (at_snoc s.views w u j at);
          home = k.home;
          sums = λ p. k.sums p ∙ sym (sum (amount p) refl);
          once = λ p. omega (arith, k.once p, sum (owner p) refl);
          common = λ p lt. sum (owner p) refl ∙ k.common p lt;
          sole = λ p j u at mine. ⊎_elim (λ h. sum (amount p) refl ∙ k.sole p j u h mine)
              (λ h. absurd (mine (ap (owner p) (sym h)))) (at_snoc s.views w u j at);
        },
        refl,
      )

  -- an idle seat claims where the word is 0
  pub claims : (slots id : ℕ) (me : Me (Option T) (View L)) → me.0.phase ≡ 0
      → Allows K slots id me 0 (λ n. either (n == 0) 1 n) (claimed (step slots 0 0 1 none) me)
  claims slots id me idle s k len at low =
      let old : ℕ = get_or s.words 0 0 in
      let F : ℕ → Type 0 = λ m. (w : View L) × (a : Act (Option T)) × Valid s.homes me.1 a × K (stepped s 0 m id me.1 w a) × claimed (step slots 0 0 1 none) me old (w, carried_after me.1 a) in
      let wide : 0 < length s.words = omega (arith, k.wide) in
      let ws : List ℕ = set s.words 0 1 in
      let word : get_or ws 0 0 ≡ 1 = get_or-set_same s.words 0 1 0 wide in
      let len' : length ws ≡ length s.words = length-set s.words 0 1 in
      exchanged old 0 1 F
      (λ e. (
        in_phase me.0 1 [],
        keeps,
        tt,
        phased s id me.0 1 [] ws s.homes k at (ap one_if (idle ∙ sym e)) len' (drop_lock s.words 1) word (omega arith)
            (λ _. record { phase = sym word; book = refl; short = omega (arith, len', wide); whole = λ h. absurd (omega (arith, h)) })
            (λ _. home_still s.homes s.words ws (drop_lock s.words 1) (k.home (omega (arith, e)))),
        ((λ _. refl), (λ ne. absurd (ne e))),
      ))
      (λ ne. (me.0, keeps, tt, unmoved s id 0 me.0 k at, ((λ e. absurd (ne e)), (λ _. refl))))

  -- a seat that claims reads the next place
  pub reads : (slots id word : ℕ) (me : Me (Option T) (View L))
      → me.0.phase ≡ 1
      → length me.0.book + 1 ≡ word
      → word < shared + owned + 1
      → Allows K slots id me word (λ n. n) (read (step slots word 0 0 none) me)
  reads slots id word me one len lt s k _ at _ =
      let v : View L = me.0 in
      let up : v.phase ≢ 0 = λ e. omega (arith, e, one) in
      let kn : Knows s.words v = k.known id v at up in
      let x : ℕ = get_or s.words word 0 in
      let b : List ℕ = v.book ++ x ∷ [] in
      let here : length v.book < length (drop 1 s.words) = omega (arith, length-drop 1 s.words, k.wide, len, lt) in
      let is : x ≡ get_or (drop 1 s.words) (length v.book) 0 = ap (λ (i : ℕ). get_or s.words i 0) (sym len) ∙ sym (past s.words (length v.book)) in
      let size : length b ≡ length v.book + 1 = omega (arith, length-append v.book (x ∷ [])) in
      let P : List ℕ → Type 0 = λ ws. K record { words = ws; homes = s.homes; views = set s.views id (in_phase v v.phase b) } in
      let kept : P s.words = phased s id v v.phase b s.words s.homes k at (ap one_if kn.phase) refl refl (sym kn.phase) (omega (arith, one))
      (λ _. record { phase = kn.phase; book = longer v.book (drop 1 s.words) x kn.book here is; short = omega (arith, size, len, lt, k.wide); whole = λ h. absurd (omega (arith, h, one)) })
      (λ _. k.home (omega (arith, kn.phase, one))) in (
        in_phase v v.phase b,
        keeps,
        tt,
        subst P (sym (set-get_or s.words word 0)) kept,
        refl,
      )

  -- a seat that has read all places takes the value out
  pub goes_out : (slots id : ℕ) (me : Me (Option T) (View L))
      → me.0.phase ≡ 1
      → length me.0.book ≡ shared + owned
      → me.0.label ≡ Some name
      → Allows K slots id me 0 (λ _. 3) (went_out label totals (step slots 0 3 0 none) me)
  goes_out slots id me one size named s k len at low =
      let v : View L = me.0 in
      let up : v.phase ≢ 0 = λ e. omega (arith, e, one) in
      let kn : Knows s.words v = k.known id v at up in
      let h : Home s.homes s.words = k.home (omega (arith, kn.phase, one)) in
      let wide : 0 < length s.words = omega (arith, k.wide) in
      let ws : List ℕ = set s.words 0 3 in
      let word : get_or ws 0 0 ≡ 3 = get_or-set_same s.words 0 3 0 wide in
      let len' : length ws ≡ length s.words = length-set s.words 0 3 in
      let same : drop 1 ws ≡ drop 1 s.words = drop_lock s.words 3 in
      let book : v.book ≡ take (length v.book) (drop 1 ws) = kn.book ∙ ap (λ (l : List ℕ). take (length v.book) l) (sym same) in (
        in_phase v 3 v.book,
        takes 0 (Some h.0),
        h.1,
        phased s id v 3 v.book ws (set s.homes 0 none) k at (ap one_if kn.phase) len' same word (omega arith)
            (λ _. record { phase = sym word; book = book; short = omega (arith, len', kn.short); whole = λ _. omega (arith, len', k.wide, size) })
            (λ lt. absurd (omega (arith, lt))),
        (h.0, refl, ap Some h.2 ∙ sym named, h.3 ∙ sym (full v.book s.words kn.book (omega (arith, k.wide, size)))),
      )

  -- the holder gives a value back
  pub gives_back : (slots id : ℕ) (me : Me (Option T) (View L)) (value : T)
      → slots ≡ 1
      → me.0.phase ≡ 3
      → me.1 ≡ (0, Some value) ∷ []
      → label value ≡ name
      → totals value ≡ me.0.book
      → Allows K slots id me 0 (λ _. 0) (gave (step slots 0 0 0 none) me)
  gives_back slots id me value one three has named sum s k len at low =
      let v : View L = me.0 in
      let up : v.phase ≢ 0 = λ e. omega (arith, e, three) in
      let kn : Knows s.words v = k.known id v at up in
      let wide : 0 < length s.words = omega (arith, k.wide) in
      let ws : List ℕ = set s.words 0 0 in
      let word : get_or ws 0 0 ≡ 0 = get_or-set_same s.words 0 0 0 wide in
      let same : drop 1 ws ≡ drop 1 s.words = drop_lock s.words 0 in
      let there : get_elem? (put_back s.homes me.1) 0 ≡ some (some (Some value))
      = ap (λ (c : List (ℕ × Option T)). get_elem? (put_back s.homes c) 0) has ∙ set_here s.homes 0 (some (Some value)) (omega (arith, len, one)) in (
        in_phase v 0 [],
        gives,
        tt,
        phased s id v 0 [] ws (put_back s.homes me.1) k at (ap one_if kn.phase) (length-set s.words 0 0) same word (omega arith)
            (λ h. absurd (h refl))
            (λ _. (value, there, named, sum ∙ (full v.book s.words kn.book (kn.whole three) ∙ sym same))),
        refl,
      )
