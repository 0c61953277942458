-- The sums of what other replicas may miss, as writes are added, taken off and given up.
use Rattle.std.proofs.Common.{◌≡◌, ℕ, ◌+◌, ◌-◌, ◌<◌, ◌≤◌, min, List, [], ◌∷◌, ◌++◌, length, get_or, take, drop, map, fold, All, not, ◌==◌, true, sym, ap, ◌∙◌, arith}
use Rattle.std.specs.List.{range_with_len}
use Rattle.std.proofs.lemmas.Bool.{ne_eqb}
use Rattle.std.proofs.lemmas.List.{map-append, drop-append-le, drop_all, drop_min, drop-drop, take-append-drop, length_push}
use Rattle.std.proofs.lemmas.List.Elements.{All-head, All-tail}
use Rattle.tact_base.proofs.CoversLemmas.{least_of-is_least}
use Rattle.tact_base.proofs.ListLemmas.{fold-push, All-from_map, All-from_range}
use Rattle.tact_base.proofs.Peers.{All-from_kept}
use Rattle.tact_base.specs.Sums.{above_zero, below_zero}
use Rattle.tact_base.specs.declared.conit_list.Weight.{Weight}
use Rattle.split_budget.specs.Budgets.{part_sum, part_on}
use Rattle.split_budget.specs.Missed.{MissedState, conits_of, AreMissed}
use Rattle.split_budget.proofs.Parts.{part_on-append, part_on-one}
use Rattle.split_budget.proofs.PeersBelow.{peers_below, peers_below-own, peers_below-peer}

-- Of one peer's sums, before and after.
module _ (conits : ℕ) (old new : MissedState) (on : conits_of new ≡ conits_of old) where
  -- one more write is added
  pub AreMissed-added : (writes : List (List Weight)) (weights : List Weight)
      → ((conit : ℕ) → get_or new.plus conit 0 ≡ get_or old.plus conit 0 + part_sum above_zero conit weights)
      → ((conit : ℕ) → get_or new.minus conit 0 ≡ get_or old.minus conit 0 + part_sum below_zero conit weights)
      → AreMissed conits writes old
      → AreMissed conits (writes ++ weights ∷ []) new
  AreMissed-added writes weights plus minus of = record {
    on = on ∙ of.on;
    plus = λ conit. omega (arith, plus conit, of.plus conit, part_on-append above_zero conit writes (weights ∷ []), part_on-one above_zero conit weights);
    minus = λ conit. omega (arith, minus conit, of.minus conit, part_on-append below_zero conit writes (weights ∷ []), part_on-one below_zero conit weights);
  }

  -- the first writes are taken off
  pub AreMissed-taken : (first rest : List (List Weight))
      → ((conit : ℕ) → get_or new.plus conit 0 + part_on above_zero conit first ≡ get_or old.plus conit 0)
      → ((conit : ℕ) → get_or new.minus conit 0 + part_on below_zero conit first ≡ get_or old.minus conit 0)
      → AreMissed conits (first ++ rest) old
      → AreMissed conits rest new
  AreMissed-taken first rest plus minus of = record {
    on = on ∙ of.on;
    plus = λ conit. omega (arith, plus conit, of.plus conit, part_on-append above_zero conit first rest);
    minus = λ conit. omega (arith, minus conit, of.minus conit, part_on-append below_zero conit first rest);
  }

module _ {T : Type 0} where
  -- a list without its first items, with one more item: it is among what is left, or not
  pub drop-push : (k : ℕ) (xs : List T) (x : T)
      → k ≤ length xs
      → drop k (xs ++ x ∷ []) ≡ drop k xs ++ x ∷ []
  drop-push k xs x within = drop-append-le k xs (x ∷ []) within

  pub drop-push_past : (k : ℕ) (xs : List T) (x : T)
      → length xs < k
      → drop k (xs ++ x ∷ []) ≡ drop k xs
  drop-push_past k xs x past =
      drop_all k (xs ++ x ∷ []) (omega (arith, length_push xs x, past)) ∙ sym (drop_all k xs (omega (arith, past)))

  -- the items from one place to another, each at most the end, and those from there on
  pub between : (k m from to : ℕ) (xs : List T)
      → k ≤ m
      → from ≡ min k (length xs)
      → to ≡ min m (length xs)
      → drop k xs ≡ take (to - from) (drop from xs) ++ drop m xs
  between k m from to xs more is_from is_to =
      let start : drop from xs ≡ drop k xs = ap (λ n. drop n xs) is_from ∙ drop_min k xs in
      let end : drop (to - from) (drop from xs) ≡ drop m xs =
      drop-drop (to - from) from xs ∙ ap (λ n. drop n xs) (omega (arith, is_from, is_to)) ∙ drop_min m xs in
      sym start ∙ sym (take-append-drop (to - from) (drop from xs)) ∙ ap (λ rest. take (to - from) (drop from xs) ++ rest) end

  -- and without those at the front that are given up
  pub drop-given_up : (known given_up spare : ℕ) (xs : List T)
      → spare ≤ known - given_up
      → drop (known - (given_up + spare)) (drop spare xs) ≡ drop (known - given_up) xs
  drop-given_up known given_up spare xs within =
      drop-drop (known - (given_up + spare)) spare xs ∙ ap (λ n. drop n xs) (omega (arith, within))

-- The least of a count and of numbers that the replicas other than one have.
module _ (count replica : ℕ) (number : ℕ → ℕ) where
  abbrev pub least_below : ℕ → ℕ
  least_below n = fold min count (map number (peers_below replica n))

  pub least_below-peer : (n : ℕ)
      → (n ≡ replica → ⊥)
      → least_below (n + 1) ≡ min (least_below n) (number n)
  least_below-peer n other =
      ap (λ peers. fold min count (map number peers)) (peers_below-peer replica n other)
      ∙ ap (fold min count) (map-append number (peers_below replica n) (n ∷ []))
      ∙ fold-push min count (map number (peers_below replica n)) (number n)

  pub least_below-own : (n : ℕ)
      → n ≡ replica
      → least_below (n + 1) ≡ least_below n
  least_below-own n same = ap (λ peers. fold min count (map number peers)) (peers_below-own replica n same)

  least_below-all : (n : ℕ) → All (λ x. least_below n ≤ x) (count ∷ map number (peers_below replica n))
  least_below-all n = least_of-is_least (count ∷ map number (peers_below replica n))

  pub least_below-count : (n : ℕ) → least_below n ≤ count
  least_below-count n = All-head (λ x. least_below n ≤ x) count (map number (peers_below replica n)) (least_below-all n)

  pub least_below-number : (n peer : ℕ)
      → peer < n
      → (peer ≡ replica → ⊥)
      → least_below n ≤ number peer
  least_below-number n peer within other =
      let each = All-from_map (λ x. least_below n ≤ x) number (peers_below replica n)
      (All-tail (λ x. least_below n ≤ x) count (map number (peers_below replica n)) (least_below-all n)) in
      All-from_range (λ peer. not (peer == replica) ≡ true → least_below n ≤ number peer) n peer
      (All-from_kept (λ peer. least_below n ≤ number peer) (λ peer. not (peer == replica)) (range_with_len 0 n) each) within (ap not (ne_eqb peer replica other))
