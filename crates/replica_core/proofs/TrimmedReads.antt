-- How many writes of an origin each replica is known to have, as it is read peer by peer.
use Rattle.std.proofs.Common.{◌≡◌, ℕ, ◌+◌, ◌==◌, min, not, cond, List, [], ◌∷◌, ◌++◌, map, fold, filter, refl, sym, ap, ◌∙◌, arith}
use Rattle.std.specs.List.{range_with_len}
use Rattle.std.proofs.lemmas.Bool.{eq-eqb, ne_eqb}
use Rattle.std.proofs.lemmas.List.{append-nil, map-append, map-id}
use Rattle.std.proofs.lemmas.List.Elements.{filter-append}
use Rattle.std.proofs.lemmas.List.FromFn.{map-range_with_len_more}
use Rattle.tact_base.proofs.ListLemmas.{fold-push}
use Rattle.tact_base.specs.Covers.{least_of}

-- of the replicas below a bound, those other than two
abbrev pub lacking_below : ℕ → ℕ → ℕ → List ℕ
lacking_below replica origin bound = filter (λ peer. not (peer == origin)) (filter (λ peer. not (peer == replica)) (range_with_len 0 bound))

module _ (replica origin : ℕ) where
  range_more : (n : ℕ) → range_with_len 0 (n + 1) ≡ range_with_len 0 n ++ n ∷ []
  range_more n =
      sym (map-id (range_with_len 0 (n + 1))) ∙ map-range_with_len_more (λ k. k) 0 n n (omega arith)
      ∙ ap (λ (xs : List ℕ). xs ++ n ∷ []) (map-id (range_with_len 0 n))

  lacking-more : (n : ℕ)
      → lacking_below replica origin (n + 1) ≡ lacking_below replica origin n ++ filter (λ peer. not (peer == origin)) (cond (not (n == replica)) (n ∷ []) [])
  lacking-more n =
      let apart = λ (peer : ℕ). not (peer == origin) in
      let other = λ (peer : ℕ). not (peer == replica) in
      ap (λ (xs : List ℕ). filter apart (filter other xs)) (range_more n)
      ∙ ap (filter apart) (filter-append other (range_with_len 0 n) (n ∷ []))
      ∙ filter-append apart (filter other (range_with_len 0 n)) (cond (not (n == replica)) (n ∷ []) [])

  -- one more of them
  lacking-one : (n : ℕ)
      → (n ≡ replica → ⊥)
      → (n ≡ origin → ⊥)
      → lacking_below replica origin (n + 1) ≡ lacking_below replica origin n ++ n ∷ []
  lacking-one n other apart =
      lacking-more n ∙ (rw (ne_eqb n replica other, ne_eqb n origin apart) refl)

  lacking-own : (n : ℕ) → n ≡ replica → lacking_below replica origin (n + 1) ≡ lacking_below replica origin n
  lacking-own n same = lacking-more n ∙ (rw (eq-eqb n replica same) (append-nil (lacking_below replica origin n)))

  lacking-origin : (n : ℕ)
      → (n ≡ replica → ⊥)
      → n ≡ origin
      → lacking_below replica origin (n + 1) ≡ lacking_below replica origin n
  lacking-origin n other same =
      lacking-more n ∙ (rw (ne_eqb n replica other, eq-eqb n origin same) (append-nil (lacking_below replica origin n)))

  -- the least of a number and of those that these have
  module _ (have : ℕ) (number : ℕ → ℕ) where
    abbrev pub least_below : ℕ → ℕ
    least_below bound = least_of (have ∷ map number (lacking_below replica origin bound))

    pub least_below-one : (n : ℕ)
        → (n ≡ replica → ⊥)
        → (n ≡ origin → ⊥)
        → least_below (n + 1) ≡ min (least_below n) (number n)
    least_below-one n other apart =
        ap (λ (peers : List ℕ). fold min have (map number peers)) (lacking-one n other apart)
        ∙ ap (fold min have) (map-append number (lacking_below replica origin n) (n ∷ []))
        ∙ fold-push min have (map number (lacking_below replica origin n)) (number n)

    pub least_below-own : (n : ℕ) → n ≡ replica → least_below (n + 1) ≡ least_below n
    least_below-own n same = ap (λ (peers : List ℕ). fold min have (map number peers)) (lacking-own n same)

    pub least_below-origin : (n : ℕ)
        → (n ≡ replica → ⊥)
        → n ≡ origin
        → least_below (n + 1) ≡ least_below n
    least_below-origin n other same = ap (λ (peers : List ℕ). fold min have (map number peers)) (lacking-origin n other same)
