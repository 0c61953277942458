-- The peers that are below a number, as they grow, and sums over them.
use Rattle.std.proofs.Common.{◌≡◌, ◌==◌, ℕ, zero, suc, ◌+◌, ◌-◌, ◌<◌, ◌≤◌, not, cond, List, [], ◌∷◌, ◌++◌, map, filter, sum, sum_by, refl, ap, ◌∙◌, append_assoc, arith}
use Rattle.std.specs.List.{range_with_len}
use Rattle.std.proofs.lemmas.Bool.{ne_eqb, eq-eqb}
use Rattle.std.proofs.lemmas.List.{append-nil}
use Rattle.std.proofs.lemmas.List.Elements.{filter-append}
use Rattle.std.proofs.lemmas.List.Sums.{sum_by-append, sum_by-cons, sum_by_push, sum-map}
use Rattle.tact_base.proofs.RangeLists.{range_more}

-- the replicas below a number other than one
abbrev pub peers_below : ℕ → ℕ → List ℕ
peers_below replica n = filter (λ peer. not (peer == replica)) (range_with_len 0 n)

-- one number more
peers_below-more : (replica n : ℕ)
    → peers_below replica (n + 1) ≡ peers_below replica n ++ cond (not (n == replica)) (n ∷ []) []
peers_below-more replica n =
    let e : 0 + n ≡ n = omega arith in
    ap (filter (λ peer. not (peer == replica))) (range_more 0 n)
    ∙ filter-append (λ peer. not (peer == replica)) (range_with_len 0 n) ((0 + n) ∷ [])
    ∙ ap (λ k. peers_below replica n ++ cond (not (k == replica)) (k ∷ []) []) e

-- which is the replica itself, or a peer
pub peers_below-own : (replica n : ℕ)
    → n ≡ replica
    → peers_below replica (n + 1) ≡ peers_below replica n
peers_below-own replica n same =
    peers_below-more replica n ∙ ap (λ b. peers_below replica n ++ cond (not b) (n ∷ []) []) (eq-eqb n replica same)
    ∙ append-nil (peers_below replica n)

pub peers_below-peer : (replica n : ℕ)
    → (n ≡ replica → ⊥)
    → peers_below replica (n + 1) ≡ peers_below replica n ++ n ∷ []
peers_below-peer replica n other =
    peers_below-more replica n ∙ ap (λ b. peers_below replica n ++ cond (not b) (n ∷ []) []) (ne_eqb n replica other)

-- a range, in two parts
range_split : (a n k : ℕ)
    → range_with_len a (n + k) ≡ range_with_len a n ++ range_with_len (a + n) k
range_split a zero k =
    let e : 0 + k ≡ k = omega arith in
    let f : a + 0 ≡ a = omega arith in
    rw (e, f) refl
range_split a (suc n) k =
    let e : suc n + k ≡ suc (n + k) = omega arith in
    let f : a + suc n ≡ a + 1 + n = omega arith in
    rw (e, f) (ap (λ xs. a ∷ xs) (range_split (a + 1) n k))

-- the peers after a number
abbrev pub peers_after : ℕ → ℕ → ℕ → List ℕ
peers_after replica n replicas = filter (λ peer. not (peer == replica)) (range_with_len (n + 1) (replicas - (n + 1)))

-- a peer stands between those below it and those after it
pub peers_below-split : (replica n replicas : ℕ)
    → n < replicas
    → (n ≡ replica → ⊥)
    → peers_below replica replicas ≡ peers_below replica n ++ n ∷ peers_after replica n replicas
peers_below-split replica n replicas within other =
    let all : replicas ≡ n + 1 + (replicas - (n + 1)) = omega arith in
    let start : 0 + (n + 1) ≡ n + 1 = omega arith in
    ap (peers_below replica) all
    ∙ ap (filter (λ peer. not (peer == replica))) (range_split 0 (n + 1) (replicas - (n + 1)))
    ∙ filter-append (λ peer. not (peer == replica)) (range_with_len 0 (n + 1)) (range_with_len (0 + (n + 1)) (replicas - (n + 1)))
    ∙ ap (λ k. peers_below replica (n + 1) ++ filter (λ peer. not (peer == replica)) (range_with_len k (replicas - (n + 1)))) start
    ∙ ap (λ front. front ++ peers_after replica n replicas) (peers_below-peer replica n other)
    ∙ append_assoc (peers_below replica n) (n ∷ []) (peers_after replica n replicas)

-- Of a sum over the peers: what a peer has, where what those before it have is taken away already, and what is left
-- after it.
module _ (f : ℕ → ℕ) (replica replicas alpha left peer : ℕ) (so_far : left + sum_by f (peers_below replica peer) ≡ alpha) where
  pub peer-within : peer < replicas
      → (peer ≡ replica → ⊥)
      → sum (map f (peers_below replica replicas)) ≤ alpha
      → f peer ≤ left
  peer-within within other all =
      let split = ap (sum_by f) (peers_below-split replica peer replicas within other) in
      omega (
        arith,
        split,
        sum_by-append f (peers_below replica peer) (peer ∷ peers_after replica peer replicas),
        sum_by-cons f peer (peers_after replica peer replicas),
        sum-map f (peers_below replica replicas),
      )

  pub left-peer : (peer ≡ replica → ⊥)
      → f peer ≤ left
      → left - f peer + sum_by f (peers_below replica (peer + 1)) ≡ alpha
  left-peer other less =
      let more = ap (sum_by f) (peers_below-peer replica peer other) in
      omega (arith, more, sum_by_push f (peers_below replica peer) peer)

  pub left-own : peer ≡ replica
      → left + sum_by f (peers_below replica (peer + 1)) ≡ alpha
  left-own same = omega (arith, ap (sum_by f) (peers_below-own replica peer same))
