-- Writes in order: a write that is put in its place, and what is committed.
use Rattle.std.proofs.Common.{◌≡◌, ◌≢◌, ℕ, ◌<◌, ◌≤◌, Bool, true, false, nat_le, nat_lt, List, [], ◌∷◌, ◌++◌, length, get_or, take, drop, inl, inr, refl, sym, ap, ◌∙◌, arith}
use Rattle.std.specs.declared.cmp.Ordering.{Ordering}
use Rattle.std.specs.declared.cmp.Ordering.TheVariants.{Less, Equal, Greater}
use Rattle.std.specs.Ordering.{is_lt, ordering_reverse}
use Rattle.std.specs.List.{All, AllByRecursion, filter}
use Rattle.std.specs.List.Sorted.{IsSorted, IsStrictlySortedBy, IsPartitionedBy}
use Rattle.std.proofs.lemmas.Map.Keys.{Less-from_sorted}
use Rattle.std.proofs.lemmas.Bool.{cond_both, cases_eq, leb-true, le-leb, le-ltb, lt-leb}
use Rattle.std.proofs.lemmas.List.{append-nil, drop-append-le}
use Rattle.std.proofs.lemmas.List.Elements.{All-nil, All-cons, All-head, All-tail, All-drop, All-weaker, filter-append, filter_passes}
use Rattle.std.proofs.lemmas.List.Sums.{length-filter, count_by-le-length}
use Rattle.std.proofs.Math.Seq.{take-append_seam, drop-append_seam}
use Rattle.tact_base.proofs.CompareLemmas.{write_total, less_from_before, before_one_way, before_trans, stamp-le_not_before}
use Rattle.tact_base.proofs.CommitLemmas.{All-committed_to, All-tentative_past, committed_to-committed_to, committed_to-tentative_past}
use Rattle.tact_base.proofs.ListLemmas.{filter_all, filter_none}
use Rattle.tact_base.proofs.OrderLemmas.{IsSortedByPlace, IsSorted-from_ordered}
use Rattle.tact_base.specs.declared.write.Write.{Write}
use Rattle.tact_base.specs.WriteOrder.{write_cmp, comes_before, with_write, committed_to, tentative_past}

-- the order as a test
pub before-from_Less : (a b : Write) → write_cmp a b ≡ Less → comes_before a b ≡ true
before-from_Less a b less = ap is_lt less

not_before-from_Less : (a b : Write) → write_cmp a b ≡ Less → comes_before b a ≡ false
not_before-from_Less a b less = before_one_way a b (before-from_Less a b less)

-- of two writes that don't compare equal one comes before the other
pub Less-from_not_before : (a b : Write)
    → write_cmp a b ≢ Equal
    → comes_before b a ≡ false
    → write_cmp a b ≡ Less
Less-from_not_before a b apart later =
    let turned : is_lt (ordering_reverse (write_cmp a b)) ≡ false = sym (ap is_lt (write_total.antisymm b a)) ∙ later in
    by (write_cmp a b) apart turned
  where
    by : (o : Ordering) → o ≢ Equal → is_lt (ordering_reverse o) ≡ false → o ≡ Less
    by Less ne e = refl
    by Equal ne e = absurd (ne refl)
    by Greater ne e = cc

-- writes in order, as the ground says it
each_later : (P Q : Write → Type 0) (writes : List Write)
    → ((w : Write) → P w → Q w)
    → AllByRecursion P writes
    → All Q writes
each_later P Q [] weaker all = All-nil Q
each_later P Q (w ∷ writes) weaker all = All-cons Q w writes (weaker w all.0) (each_later P Q writes weaker all.1)

pub by_place : (writes : List Write)
    → IsStrictlySortedBy write_cmp writes
    → IsSortedByPlace writes
unfolding IsStrictlySortedBy
by_place [] sorted = tt
by_place (w ∷ writes) sorted = (
  each_later (λ later. write_cmp w later ≡ Less) (λ later. comes_before later w ≡ false) writes
      (λ later less. not_before-from_Less w later less) sorted.0,
  by_place writes sorted.1,
)

-- what holds of a write and of each of the others
all-with_write : (P : Write → Type 0) (write : Write) (writes : List Write)
    → P write
    → AllByRecursion P writes
    → AllByRecursion P (with_write write writes)
all-with_write P write [] here rest = (here, tt)
all-with_write P write (w ∷ writes) here rest =
    cond_both (comes_before write w) (write ∷ w ∷ writes) (w ∷ with_write write writes) (AllByRecursion P)
    (λ _. (here, rest)) (λ _. (rest.0, all-with_write P write writes here rest.1))

-- a test that the write fails
pub filter-with_write : (p : Write → Bool) (write : Write) (writes : List Write)
    → p write ≡ false
    → filter p (with_write write writes) ≡ filter p writes
filter-with_write p write [] fails = rw fails refl
filter-with_write p write (w ∷ writes) fails =
    cond_both (comes_before write w) (write ∷ w ∷ writes) (w ∷ with_write write writes) (λ ws. filter p ws ≡ filter p (w ∷ writes))
    (λ _. rw fails refl) (λ _. rw (filter-with_write p write writes fails) refl)

-- writes in order stay so when one is put in its place
pub sorted-with_write : (write : Write) (writes : List Write)
    → All (λ held. write_cmp held write ≢ Equal) writes
    → IsStrictlySortedBy write_cmp writes
    → IsStrictlySortedBy write_cmp (with_write write writes)
unfolding IsStrictlySortedBy
sorted-with_write write [] apart sorted = (tt, tt)
sorted-with_write write (w ∷ writes) apart sorted =
    cond_both (comes_before write w) (write ∷ w ∷ writes) (w ∷ with_write write writes) (IsStrictlySortedBy write_cmp)
    (λ first.
    let less = less_from_before write w first in
    ((less, weaken writes (λ other less_w. write_total.trans write w other less less_w) sorted.0), sorted))
    (λ later.
    let less = Less-from_not_before w write (All-head (λ held. write_cmp held write ≢ Equal) w writes apart) later in
    let rest = sorted-with_write write writes (All-tail (λ held. write_cmp held write ≢ Equal) w writes apart) sorted.1 in
    (all-with_write (λ other. write_cmp w other ≡ Less) write writes less sorted.0, rest))
  where
    weaken : {P Q : Write → Type 0} (ws : List Write)
        → ((x : Write) → P x → Q x)
        → AllByRecursion P ws
        → AllByRecursion Q ws
    weaken [] f all = tt
    weaken (x ∷ ws) f all = (f x all.0, weaken ws f all.1)

-- of writes in order those before a write come first, and those with a stamp of at most a point
pub before_first : (write : Write) (writes : List Write)
    → IsStrictlySortedBy write_cmp writes
    → IsPartitionedBy (λ w. comes_before w write) writes
before_first write writes sorted i j d order within passes =
    elim (cases_eq i j) [
      | inl same ↦ rw same passes
      | inr apart ↦
          let less = Less-from_sorted write_cmp writes i j d sorted (omega arith) within in
          before_trans (get_or writes i d) (get_or writes j d) write (before-from_Less (get_or writes i d) (get_or writes j d) less) passes
    ]

pub stamps_first : (point : ℕ) (writes : List Write)
    → IsStrictlySortedBy write_cmp writes
    → IsPartitionedBy (λ w. nat_le w.stamp point) writes
stamps_first point writes sorted i j d order within passes =
    elim (cases_eq i j) [
      | inl same ↦ rw same passes
      | inr apart ↦
          let less = Less-from_sorted write_cmp writes i j d sorted (omega arith) within in
          let rises = stamp-le_not_before (get_or writes i d) (get_or writes j d) (not_before-from_Less (get_or writes i d) (get_or writes j d) less) in
          le-leb (get_or writes i d).stamp point (omega (arith, rises, leb-true (get_or writes j d).stamp point passes))
    ]

-- what is committed is a front of them, and what is tentative the rest
module _ (point : ℕ) (writes : List Write) (sorted : IsStrictlySortedBy write_cmp writes) where
  parts : committed_to point writes ++ tentative_past point writes ≡ writes
  parts = committed_to-tentative_past point writes (IsSorted-from_ordered writes (by_place writes sorted))

  pub committed-front : committed_to point writes ≡ take (length (committed_to point writes)) writes
  committed-front =
      let committed = committed_to point writes in
      sym (take-append_seam committed (tentative_past point writes)) ∙ ap (take (length committed)) parts

  pub tentative-rest : tentative_past point writes ≡ drop (length (committed_to point writes)) writes
  tentative-rest =
      let committed = committed_to point writes in
      sym (drop-append_seam committed (tentative_past point writes)) ∙ ap (drop (length committed)) parts

pub committed-few : (point : ℕ) (writes : List Write)
    → length (committed_to point writes) ≤ length writes
committed-few point writes =
    let kept = length-filter (λ w. nat_le w.stamp point) writes in
    omega (arith, count_by-le-length (λ w. nat_le w.stamp point) writes)

-- a later point commits as many
pub committed-rises : (point later : ℕ) (writes : List Write)
    → point ≤ later
    → length (committed_to point writes) ≤ length (committed_to later writes)
committed-rises point later writes rises =
    omega (arith, ap length (committed_to-committed_to point later writes rises), committed-few point (committed_to later writes))

-- Of writes in order the first ones are given up, all of them committed: the others stay committed, and tentative.
module _ (point : ℕ) (writes : List Write) (sorted : IsSorted write_cmp writes) (k : ℕ) (within : k ≤ length (committed_to point writes)) where
  abbrev front : List Write
  front = drop k (committed_to point writes)

  left : drop k writes ≡ front ++ tentative_past point writes
  left =
      ap (drop k) (sym (committed_to-tentative_past point writes sorted))
      ∙ drop-append-le k (committed_to point writes) (tentative_past point writes) within

  pub committed_to-drop : committed_to point (drop k writes) ≡ drop k (committed_to point writes)
  committed_to-drop =
      let p : Write → Bool = λ write. nat_le write.stamp point in
      let late = All-weaker (λ (write : Write). point < write.stamp) (λ (write : Write). p write ≡ false) (λ write h. lt-leb write.stamp point h)
      (tentative_past point writes) (All-tentative_past point writes) in
      let early = All-drop (λ (write : Write). p write ≡ true) k (committed_to point writes) (filter_passes p writes) in
      ap (filter p) left ∙ filter-append p front (tentative_past point writes)
      ∙ rw (filter_all p front early, filter_none p (tentative_past point writes) late) (append-nil front)

  pub tentative_past-drop : tentative_past point (drop k writes) ≡ tentative_past point writes
  tentative_past-drop =
      let p : Write → Bool = λ write. nat_lt point write.stamp in
      let early = All-drop (λ (write : Write). write.stamp ≤ point) k (committed_to point writes) (All-committed_to point writes) in
      let fails = All-weaker (λ (write : Write). write.stamp ≤ point) (λ (write : Write). p write ≡ false) (λ write h. le-ltb point write.stamp h) front early in
      ap (filter p) left ∙ filter-append p front (tentative_past point writes)
      ∙ rw (filter_none p front fails) (filter_all p (tentative_past point writes) (filter_passes p writes))
