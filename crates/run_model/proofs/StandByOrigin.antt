-- Writes stand by origin exactly where their origins don't fall and each is below the count of replicas.
use Rattle.std.proofs.Common.{◌≡◌, ◌≢◌, ℕ, zero, suc, ◌+◌, ◌-◌, ◌<◌, ◌≤◌, List, [], ◌∷◌, ◌++◌, length, get_or, drop, flat_map, All, refl, sym, ap, ap₂, ◌∙◌, subst, ⊎_elim, ◌↔◌, arith}
use Rattle.std.specs.List.{range_with_len}
use Rattle.std.proofs.lemmas.Bool.{cases_eq}
use Rattle.std.proofs.lemmas.List.{drop_more, drop_all}
use Rattle.std.proofs.lemmas.List.Elements.{All-head, All-cons, All-weaker}
use Rattle.tact_base.proofs.ListLemmas.{All-flat_map, All-range, flat_map_agree, flat_map_none}
use Rattle.tact_base.specs.declared.write.Write.{Write}
use Rattle.run_model.proofs.OriginWrites.{from_one, from_one-here, from_one-other, from_one-origins, from_one-none}

-- writes joined by origin, from one origin on
abbrev joined : List Write → ℕ → ℕ → List Write
joined writes start len = flat_map (λ origin. from_one origin writes) (range_with_len start len)

-- their origins are those
abbrev IsOf : ℕ → ℕ → Write → Type 0
IsOf start len write = (start ≤ write.origin) × (write.origin < start + len)

joined-origins : (writes : List Write) (start len : ℕ)
    → All (IsOf start len) (joined writes start len)
joined-origins writes start len =
    All-flat_map (IsOf start len) (λ origin. from_one origin writes) (range_with_len start len)
    (All-range (λ origin. All (IsOf start len) (from_one origin writes)) start len
    (λ origin low high.
    All-weaker (λ (write : Write). write.origin ≡ origin) (IsOf start len) (λ write is. (omega (arith, is), omega (arith, is))) (from_one origin writes) (from_one-origins origin writes)))

placed-origins : (writes : List Write) (start len : ℕ)
    → writes ≡ joined writes start len
    → All (IsOf start len) writes
placed-origins writes start len placed = subst (λ (xs : List Write). All (IsOf start len) xs) (sym placed) (joined-origins writes start len)

-- a write of an earlier origin changes nothing of the later ones
joined-past : (write : Write) (writes : List Write) (start len : ℕ)
    → write.origin < start
    → joined (write ∷ writes) start len ≡ joined writes start len
joined-past write writes start len before =
    flat_map_agree (λ origin. from_one origin (write ∷ writes)) (λ origin. from_one origin writes) (range_with_len start len)
    (All-range (λ origin. from_one origin (write ∷ writes) ≡ from_one origin writes) start len
    (λ origin low high. from_one-other origin write writes (λ same. absurd (omega (arith, same)))))

-- a write of the first origin is the first
joined-here : (write : Write) (writes : List Write) (start len : ℕ)
    → write.origin ≡ start
    → joined (write ∷ writes) start (suc len) ≡ write ∷ joined writes start (suc len)
joined-here write writes start len is =
    rw (from_one-here start write writes is, joined-past write writes (start + 1) len (omega (arith, is))) refl

-- what stands before a write of another origin is nothing
none_before : (start : ℕ) (write : Write) (writes front rest : List Write)
    → write.origin ≢ start
    → All (λ (w : Write). w.origin ≡ start) front
    → write ∷ writes ≡ front ++ rest
    → front ≡ []
none_before start write writes [] rest isnt each e = refl
none_before start write writes (first ∷ front) rest isnt each e =
    let same : write ≡ first = cc in
    absurd (isnt (ap (λ (w : Write). w.origin) same ∙ All-head (λ (w : Write). w.origin ≡ start) first front each))

-- A first write, and those after it.
module _ (write : Write) (writes : List Write) where
  -- the same of the writes after it, from its origin on
  abbrev SameAfter : ℕ → ℕ → Type 0
  SameAfter start len = (write ∷ writes ≡ joined (write ∷ writes) start len) ↔ (writes ≡ joined writes write.origin (start + len - write.origin))

  placed_here : (start len : ℕ) → write.origin ≡ start → SameAfter start (suc len)
  placed_here start len is =
      let left : start + suc len - write.origin ≡ suc len = omega (arith, is) in
      let rest : joined writes start (suc len) ≡ joined writes write.origin (start + suc len - write.origin) = ap₂ (λ (from n : ℕ). joined writes from n) (sym is) (sym left) in
      let first = joined-here write writes start len is in
      (λ placed. same_rest (placed ∙ first) ∙ rest, λ placed. ap (λ (xs : List Write). write ∷ xs) (placed ∙ sym rest) ∙ sym first)
    where
      same_rest : {xs ys : List Write} → write ∷ xs ≡ write ∷ ys → xs ≡ ys
      same_rest e = cc

  placed_later : (start len : ℕ)
      → start ≤ write.origin
      → (write.origin ≡ start → ⊥)
      → SameAfter (start + 1) len
      → SameAfter start (suc len)
  placed_later start len low isnt inner =
      let front = from_one start (write ∷ writes) in
      let rest = joined (write ∷ writes) (start + 1) len in
      let left : start + 1 + len - write.origin ≡ start + suc len - write.origin = omega arith in (
        λ placed.
            let none = none_before start write writes front rest isnt (from_one-origins start (write ∷ writes)) placed in
            subst (λ n. writes ≡ joined writes write.origin n) left (inner.0 (placed ∙ ap (λ (xs : List Write). xs ++ rest) none)),
        λ placed.
            let none : front ≡ [] =
            from_one-none start (write ∷ writes)
            (All-cons (λ (w : Write). w.origin ≢ start) write writes isnt
            (All-weaker (IsOf write.origin (start + suc len - write.origin)) (λ (w : Write). w.origin ≢ start) (λ w is same. absurd (omega (arith, is.0, same, isnt, low))) writes
            (placed-origins writes write.origin (start + suc len - write.origin) placed))) in
            inner.1 (subst (λ n. writes ≡ joined writes write.origin n) (sym left) placed) ∙ sym (ap (λ (xs : List Write). xs ++ rest) none),
      )

  first_placed : (len start : ℕ)
      → start ≤ write.origin
      → write.origin < start + len
      → SameAfter start len
  first_placed zero start low high = absurd (omega arith)
  first_placed (suc len) start low high = ⊎_elim
      (λ (is : write.origin ≡ start). placed_here start len is)
      (λ (isnt : write.origin ≡ start → ⊥). placed_later start len low isnt (first_placed len (start + 1) (omega arith) (omega arith)))
      (cases_eq write.origin start)

-- The writes stand by origin, from one origin on and below another.
abbrev pub Placed : ℕ → ℕ → List Write → Type 0
Placed start stop writes = writes ≡ flat_map (λ origin. from_one origin writes) (range_with_len start (stop - start))

-- one write on, in a list that is gone through
module _ (writes : List Write) (at : ℕ) (write : Write) (within : at < length writes) (is : write ≡ get_or writes at write) where
  next_is : drop at writes ≡ write ∷ drop (at + 1) writes
  next_is = drop_more writes at write within ∙ ap (λ (x : Write). x ∷ drop (at + 1) writes) (sym is)

  pub Placed-more : (start stop : ℕ)
      → start ≤ write.origin
      → write.origin < stop
      → Placed start stop (drop at writes) ↔ Placed write.origin stop (drop (at + 1) writes)
  Placed-more start stop low high =
      let left : start + (stop - start) - write.origin ≡ stop - write.origin = omega arith in
      rw (next_is, ← left) (first_placed write (drop (at + 1) writes) (stop - start) start low (omega arith))

  pub Placed-origin : (start stop : ℕ)
      → Placed start stop (drop at writes)
      → (start ≤ write.origin) × (write.origin < start + (stop - start))
  Placed-origin start stop placed =
      All-head (IsOf start (stop - start)) write (drop (at + 1) writes)
      (placed-origins (write ∷ drop (at + 1) writes) start (stop - start) (subst (Placed start stop) next_is placed))

pub Placed-all : (start stop : ℕ) (writes : List Write) (at : ℕ)
    → length writes ≤ at
    → Placed start stop (drop at writes)
Placed-all start stop writes at past =
    rw (drop_all at writes past)
    (sym (flat_map_none (λ origin. from_one origin []) (range_with_len start (stop - start)) (All-range (λ origin. from_one origin [] ≡ []) start (stop - start) (λ origin low high. refl))))

-- from the first origin on
pub Placed-whole : (stop : ℕ) (writes : List Write)
    → Placed 0 stop writes ↔ (writes ≡ flat_map (λ origin. from_one origin writes) (range_with_len 0 stop))
Placed-whole stop writes =
    let all : stop - 0 ≡ stop = omega arith in
    rw all (λ placed. placed, λ placed. placed)
