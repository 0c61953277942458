-- What holds of each replica other than one.
use Rattle.std.proofs.Common.{◌≡◌, ℕ, ◌<◌, ◌==◌, Bool, true, false, not, cond, List, [], ◌∷◌, filter, All, refl, ap, arith}
use Rattle.std.proofs.lemmas.Bool.{ne_eqb, eq-eqb}
use Rattle.std.proofs.lemmas.List.Elements.{All-nil, All-cons, All-head, All-tail}
use Rattle.tact_base.proofs.ListLemmas.{All-range, All-from_range}
use Rattle.tact_base.specs.Setup.{Setup, replicas_of, peers_of}

-- each element that passes a test, of those that a filter keeps
pub All-kept : {X : Type 0} (P : X → Type 0) (p : X → Bool) (xs : List X)
    → All (λ x. p x ≡ true → P x) xs
    → All P (filter p xs)
All-kept P p [] all = All-nil P
All-kept {X} P p (x ∷ xs) all =
    go (p x) (All-head (λ x. p x ≡ true → P x) x xs all) (All-kept P p xs (All-tail (λ x. p x ≡ true → P x) x xs all))
  where
    go : (yes : Bool)
        → (yes ≡ true → P x)
        → All P (filter p xs)
        → All P (cond yes (x ∷ filter p xs) (filter p xs))
    go true here rest = All-cons P x (filter p xs) (here refl) rest
    go false here rest = rest

-- and back
pub All-from_kept : {X : Type 0} (P : X → Type 0) (p : X → Bool) (xs : List X)
    → All P (filter p xs)
    → All (λ x. p x ≡ true → P x) xs
All-from_kept P p [] all = All-nil (λ x. p x ≡ true → P x)
All-from_kept {X} P p (x ∷ xs) all = go (p x) refl all (All-from_kept P p xs)
  where
    go : (yes : Bool)
        → p x ≡ yes
        → All P (cond yes (x ∷ filter p xs) (filter p xs))
        → (All P (filter p xs) → All (λ x. p x ≡ true → P x) xs)
        → All (λ x. p x ≡ true → P x) (x ∷ xs)
    go true is all rest =
        All-cons (λ x. p x ≡ true → P x) x xs (λ passes. All-head P x (filter p xs) all) (rest (All-tail P x (filter p xs) all))
    go false is all rest = All-cons (λ x. p x ≡ true → P x) x xs (λ passes. cc) (rest all)

module _ (setup : Setup) (replica : ℕ) (P : ℕ → Type 0) where
  pub All-peers : ((peer : ℕ) → peer < setup.replicas → (peer ≡ replica → ⊥) → P peer)
      → All P (peers_of setup replica)
  All-peers each =
      All-kept P (λ peer. not (peer == replica)) (replicas_of setup)
      (All-range (λ peer. not (peer == replica) ≡ true → P peer) 0 setup.replicas (λ peer low high passes.
      each peer (omega arith) (λ (same : peer ≡ replica).
      let on : (peer == replica) ≡ true = eq-eqb peer replica same in
      let off : not (peer == replica) ≡ false = ap not on in cc)))

  pub All-from_peers : All P (peers_of setup replica)
      → (peer : ℕ)
      → peer < setup.replicas
      → (peer ≡ replica → ⊥)
      → P peer
  All-from_peers all peer within other =
      All-from_range (λ peer. not (peer == replica) ≡ true → P peer) setup.replicas peer
      (All-from_kept P (λ peer. not (peer == replica)) (replicas_of setup) all) within (ap not (ne_eqb peer replica other))
