-- Writes in order that are put into others in order: what is made stays in order, and what comes before the first
-- stays.
use Rattle.std.proofs.Common.{◌≡◌, ◌≢◌, ℕ, ◌+◌, ◌<◌, ◌≤◌, nat_le, Bool, true, false, if◌then◌else◌, List, [], ◌∷◌, ◌++◌, length, get_or, take, drop, insert, filter, All, refl, sym, ap, ◌∙◌, arith}
use Rattle.std.specs.declared.cmp.Ordering.{Ordering}
use Rattle.std.specs.declared.cmp.Ordering.TheVariants.{Less, Equal, Greater}
use Rattle.std.specs.Ordering.{ordering_reverse}
use Rattle.std.specs.List.Sorted.{IsStrictlySortedBy}
use Rattle.std.proofs.lemmas.Bool.{leb-true}
use Rattle.std.proofs.lemmas.List.{take-append-drop, take_all, take_at, drop_all, length-take-le}
use Rattle.std.proofs.lemmas.List.Elements.{All-nil, All-cons, All-head, All-tail, All-drop, All-weaker}
use Rattle.std.proofs.lemmas.List.Sums.{length-filter, count_by-le-length}
use Rattle.std.proofs.lemmas.List.Sorted.{All-permutation, length_permutation}
use Rattle.std.proofs.lemmas.Map.Keys.{sorted_tail}
use Rattle.std.proofs.lemmas.Map.Views.{All-after_first}
use Rattle.tact_base.proofs.CompareLemmas.{write_total, before_one_way, before_trans, not_before_trans, stamp-le_not_before}
use Rattle.tact_base.proofs.ListLemmas.{filter_none, All-one}
use Rattle.tact_base.proofs.OrderLemmas.{IsPermutation-with_write, IsSortedByPlace, with_write_behind, with_write_first}
use Rattle.tact_base.specs.WriteOrder.{write_cmp, write_place, comes_before, with_write, in_order, committed_to}
use Rattle.tact_base.specs.declared.write.Write.{Write}
use Rattle.commit_order.specs.Batches.{with_writes, first_place}
use Rattle.commit_order.specs.Places.{place_in}
use Rattle.commit_order.proofs.WriteOrderLemmas.{before-from_Less, by_place, Less-from_not_before, sorted-with_write, filter-with_write, committed-few}

-- the writes have other places than those held
abbrev pub AreNew : List Write → List Write → Type 0
AreNew writes held = All (λ write. All (λ other. write_cmp other write ≢ Equal) held) writes

differ : (o : Ordering) → o ≡ Less → o ≢ Equal
differ Less less same = cc
differ Equal less same = cc
differ Greater less same = cc

-- the others are new also where the first is held
still_new : (first : Write) (writes held : List Write)
    → IsStrictlySortedBy write_cmp (first ∷ writes)
    → AreNew (first ∷ writes) held
    → AreNew writes (with_write first held)
still_new first writes held sorted new k d within =
    let write = get_or writes k d in
    All-permutation (λ other. write_cmp other write ≢ Equal) (first ∷ held) (with_write first held) (IsPermutation-with_write first held)
    (All-cons (λ other. write_cmp other write ≢ Equal) first held
    (differ (write_cmp first write) (All-after_first write_cmp first writes sorted k d within))
    (All-tail (λ write. All (λ other. write_cmp other write ≢ Equal) held) first writes new k d within))

-- what is made is in order
pub sorted-with_writes : (writes held : List Write)
    → IsStrictlySortedBy write_cmp writes
    → AreNew writes held
    → IsStrictlySortedBy write_cmp held
    → IsStrictlySortedBy write_cmp (with_writes writes held)
sorted-with_writes [] held sorted new before = before
sorted-with_writes (write ∷ writes) held sorted new before =
    sorted-with_writes writes (with_write write held) (sorted_tail write_cmp write writes sorted) (still_new write writes held sorted new)
    (sorted-with_write write held (All-head (λ write. All (λ other. write_cmp other write ≢ Equal) held) write writes new) before)

-- and longer by their number
pub length-with_writes : (writes held : List Write) → length (with_writes writes held) ≡ length held + length writes
length-with_writes [] held = omega arith
length-with_writes (write ∷ writes) held =
    omega (arith, length-with_writes writes (with_write write held), length_permutation (write ∷ held) (with_write write held) (IsPermutation-with_write write held))

-- a test that all of them fail
pub filter-with_writes : (p : Write → Bool) (writes held : List Write)
    → All (λ write. p write ≡ false) writes
    → filter p (with_writes writes held) ≡ filter p held
filter-with_writes p [] held fail = refl
filter-with_writes p (write ∷ writes) held fail =
    filter-with_writes p writes (with_write write held) (All-tail (λ write. p write ≡ false) write writes fail)
    ∙ filter-with_write p write held (All-head (λ write. p write ≡ false) write writes fail)

-- a front of which none comes after a write stays in front of it
pub with_write-past : (write : Write) (front rest : List Write)
    → All (λ other. comes_before write other ≡ false) front
    → with_write write (front ++ rest) ≡ front ++ with_write write rest
with_write-past write [] rest behind = refl
with_write-past write (first ∷ front) rest behind =
    with_write_behind write first (front ++ rest) (All-head (λ other. comes_before write other ≡ false) first front behind)
    ∙ ap (λ (l : List Write). first ∷ l) (with_write-past write front rest (All-tail (λ other. comes_before write other ≡ false) first front behind))

-- and so of several writes
abbrev pub AreBehind : List Write → List Write → Type 0
AreBehind writes front = All (λ write. All (λ other. comes_before write other ≡ false) front) writes

pub with_writes-past : (writes front rest : List Write)
    → AreBehind writes front
    → with_writes writes (front ++ rest) ≡ front ++ with_writes writes rest
with_writes-past [] front rest behind = refl
with_writes-past (write ∷ writes) front rest behind =
    ap (with_writes writes) (with_write-past write front rest (All-head (λ write. All (λ other. comes_before write other ≡ false) front) write writes behind))
    ∙ with_writes-past writes front (with_write write rest) (All-tail (λ write. All (λ other. comes_before write other ≡ false) front) write writes behind)

-- where the first comes after a front, all do
behind_front : (first : Write) (writes front : List Write)
    → IsStrictlySortedBy write_cmp (first ∷ writes)
    → All (λ other. comes_before other first ≡ true) front
    → AreBehind (first ∷ writes) front
behind_front first writes front sorted before =
    All-cons (λ write. All (λ other. comes_before write other ≡ false) front) first writes
    (All-weaker (λ other. comes_before other first ≡ true) (λ other. comes_before first other ≡ false) (λ other h. before_one_way other first h) front before)
    (All-weaker (λ later. write_cmp first later ≡ Less) (λ write. All (λ other. comes_before write other ≡ false) front)
    (λ later less. All-weaker (λ other. comes_before other first ≡ true) (λ other. comes_before later other ≡ false)
    (λ other h. before_one_way other later (before_trans other first later h (before-from_Less first later less))) front before)
    writes (All-after_first write_cmp first writes sorted))

behind_itself : (first : Write) (writes : List Write)
    → IsStrictlySortedBy write_cmp (first ∷ writes)
    → AreBehind writes (first ∷ [])
behind_itself first writes sorted =
    All-weaker (λ later. write_cmp first later ≡ Less) (λ later. All (λ other. comes_before later other ≡ false) (first ∷ []))
    (λ later less. All-one (λ other. comes_before later other ≡ false) first (before_one_way first later (before-from_Less first later less)))
    writes (All-after_first write_cmp first writes sorted)

-- put into none they are as they were
pub with_writes-none : (writes : List Write)
    → IsStrictlySortedBy write_cmp writes
    → with_writes writes [] ≡ writes
with_writes-none [] sorted = refl
with_writes-none (write ∷ writes) sorted =
    with_writes-past writes (write ∷ []) [] (behind_itself write writes sorted) ∙ ap (λ (l : List Write). write ∷ l) (with_writes-none writes (sorted_tail write_cmp write writes sorted))

-- and in order they are so too
in_order_sorted : (writes : List Write)
    → IsStrictlySortedBy write_cmp writes
    → in_order writes ≡ writes
in_order_sorted [] sorted = refl
in_order_sorted (write ∷ writes) sorted =
    ap (with_write write) (in_order_sorted writes (sorted_tail write_cmp write writes sorted))
    ∙ with_write_first write writes (All-weaker (λ later. write_cmp write later ≡ Less) (λ later. comes_before write later ≡ true)
    (λ later less. before-from_Less write later less) writes (All-after_first write_cmp write writes sorted))

-- of those held the ones that come before a write are a front
before_place : (write : Write) (held : List Write)
    → IsSortedByPlace held
    → All (λ other. comes_before other write ≡ true) (take (length (filter (λ other. comes_before other write) held)) held)
before_place write [] ordered = All-nil (λ other. comes_before other write ≡ true)
before_place write (first ∷ held) ordered = go (before_place write held ordered.1) (comes_before first write) refl
  where
    P : Write → Type 0
    P other = comes_before other write ≡ true

    go : All P (take (length (filter (λ other. comes_before other write) held)) held)
        → (is : Bool)
        → comes_before first write ≡ is
        → All P (take (length (filter (λ other. comes_before other write) (first ∷ held))) (first ∷ held))
    go others true is = rw is (All-cons P first (take (length (filter (λ other. comes_before other write) held)) held) is others)
    go others false is =
        let none : filter (λ other. comes_before other write) held ≡ [] =
        filter_none (λ other. comes_before other write) held
        (All-weaker (λ later. comes_before later first ≡ false) (λ later. comes_before later write ≡ false) (λ later h. not_before_trans write first later is h) held ordered.0) in
        rw (is, none) (All-nil P)

-- and the others are the rest
after_place : (write : Write) (held : List Write)
    → IsSortedByPlace held
    → All (λ other. comes_before other write ≡ false) (drop (length (filter (λ other. comes_before other write) held)) held)
after_place write [] ordered = All-nil (λ other. comes_before other write ≡ false)
after_place write (first ∷ held) ordered = go (after_place write held ordered.1) (comes_before first write) refl
  where
    P : Write → Type 0
    P other = comes_before other write ≡ false

    go : All P (drop (length (filter (λ other. comes_before other write) held)) held)
        → (is : Bool)
        → comes_before first write ≡ is
        → All P (drop (length (filter (λ other. comes_before other write) (first ∷ held))) (first ∷ held))
    go others true is = rw is others
    go others false is =
        let later : All P held =
        All-weaker (λ later. comes_before later first ≡ false) P (λ later h. not_before_trans write first later is h) held ordered.0 in
        rw (is, filter_none (λ other. comes_before other write) held later) (All-cons P first held is later)

-- Writes in order, and others in order.
module _ (writes held : List Write) (sorted : IsStrictlySortedBy write_cmp writes) (held_sorted : IsStrictlySortedBy write_cmp held) where
  -- the writes come after all in front of the place of their first
  behind_place : AreBehind writes (take (first_place held writes) held)
  behind_place = go writes sorted
    where
      go : (writes : List Write) → IsStrictlySortedBy write_cmp writes → AreBehind writes (take (first_place held writes) held)
      go [] sorted = All-nil (λ write. All (λ other. comes_before write other ≡ false) (take (length held) held))
      go (first ∷ writes) sorted =
          let front = before_place first held (by_place held held_sorted) in
          behind_front first writes (take (place_in held (write_place first)) held) sorted
          (rw (length-filter (λ other. comes_before other first) held) at front)

  split : with_writes writes held ≡ take (first_place held writes) held ++ with_writes writes (drop (first_place held writes) held)
  split =
      ap (with_writes writes) (sym (take-append-drop (first_place held writes) held))
      ∙ with_writes-past writes (take (first_place held writes) held) (drop (first_place held writes) held) behind_place

  pub first_place-few : first_place held writes ≤ length held
  first_place-few = go writes
    where
      go : (writes : List Write) → first_place held writes ≤ length held
      go [] = omega arith
      go (first ∷ writes) = count_by-le-length (λ other. comes_before other first) held

  -- nothing in front of that place moves
  pub stays : take (first_place held writes) (with_writes writes held) ≡ take (first_place held writes) held
  stays =
      let place = first_place held writes in
      ap (take place) split ∙ take_at (take place held) (with_writes writes (drop place held)) place (length-take-le place held first_place-few)

  -- and where it is the end, they follow those held
  pub at_end : length held ≤ first_place held writes → with_writes writes held ≡ held ++ writes
  at_end last =
      let place = first_place held writes in
      split ∙ rw (take_all place held last, drop_all place held last) (ap (λ (l : List Write). held ++ l) (with_writes-none writes sorted))

-- one write alone, which ties with no other, is put in at its place, and nothing else moves
pub one_write : (write : Write) (held : List Write)
    → IsStrictlySortedBy write_cmp held
    → All (λ other. write_cmp other write ≢ Equal) held
    → with_write write held ≡ insert held (place_in held (write_place write)) write
one_write write held sorted new =
    let place = place_in held (write_place write) in
    let count = length-filter (λ other. comes_before other write) held in
    let ordered = by_place held sorted in
    let ahead : All (λ other. comes_before write other ≡ false) (take place held) =
    All-weaker (λ other. comes_before other write ≡ true) (λ other. comes_before write other ≡ false) (λ other h. before_one_way other write h)
    (take place held) (rw count at (before_place write held ordered)) in
    let behind : All (λ other. comes_before other write ≡ false) (drop place held) = rw count at (after_place write held ordered) in
    let others : All (λ other. write_cmp other write ≢ Equal) (drop place held) = All-drop (λ other. write_cmp other write ≢ Equal) place held new in
    let before : All (λ other. comes_before write other ≡ true) (drop place held) =
    λ k d within. before-from_not (get_or (drop place held) k d) (others k d within) (behind k d within) in
    ap (with_write write) (sym (take-append-drop place held))
    ∙ with_write-past write (take place held) (drop place held) ahead
    ∙ ap (λ (rest : List Write). take place held ++ rest) (with_write_first write (drop place held) before)
  where
    before-from_not : (other : Write)
        → write_cmp other write ≢ Equal
        → comes_before other write ≡ false
        → comes_before write other ≡ true
    before-from_not other apart not_before = before-from_Less write other (Less-from_not_before write other (apart_turned other apart) not_before)
      where
        apart_turned : (other : Write) → write_cmp other write ≢ Equal → write_cmp write other ≢ Equal
        apart_turned other apart same = apart (write_total.antisymm other write ∙ ap ordering_reverse same)

-- A write before all of a list can be put in after others.
with_writes-swap : (writes : List Write) (write : Write) (held : List Write)
    → IsStrictlySortedBy write_cmp writes
    → All (λ other. write_cmp write other ≢ Equal) writes
    → All (λ other. comes_before write other ≡ true) held
    → with_write write (with_writes writes held) ≡ with_writes writes (write ∷ held)
with_writes-swap [] write held sorted new before = with_write_first write held before
with_writes-swap (first ∷ writes) write held sorted new before =
    go (λ others. with_writes-swap writes write others (sorted_tail write_cmp first writes sorted) (All-tail (λ other. write_cmp write other ≢ Equal) first writes new))
    (comes_before first write) refl
  where
    go : ((others : List Write) → All (λ other. comes_before write other ≡ true) others → with_write write (with_writes writes others) ≡ with_writes writes (write ∷ others))
        → (is : Bool)
        → comes_before first write ≡ is
        → with_write write (with_writes writes (with_write first held)) ≡ with_writes writes (if is then first ∷ write ∷ held else write ∷ with_write first held)
    go swap true is =
        let first_before : All (λ other. comes_before first other ≡ true) held =
        All-weaker (λ other. comes_before write other ≡ true) (λ other. comes_before first other ≡ true) (λ other h. before_trans first write other is h) held before in
        let past = λ (l : List Write). with_writes-past writes (first ∷ []) l
        (behind_itself first writes sorted) in
        ap (λ (l : List Write). with_write write (with_writes writes l)) (with_write_first first held first_before)
        ∙ (ap (with_write write) (past held)
        ∙ (with_write_behind write first (with_writes writes held) (before_one_way first write is)
        ∙ (ap (λ (l : List Write). first ∷ l) (swap held before)
        ∙ sym (past (write ∷ held)))))
    go swap false is =
        let write_before : comes_before write first ≡ true =
        before-from_Less write first (Less-from_not_before write first (All-head (λ other. write_cmp write other ≢ Equal) first writes new) is) in
        swap (with_write first held)
        (All-permutation (λ other. comes_before write other ≡ true) (first ∷ held) (with_write first held) (IsPermutation-with_write first held)
        (All-cons (λ other. comes_before write other ≡ true) first held write_before before))

-- what is made are the writes held and the others, in order
pub in_order-with_writes : (writes held : List Write)
    → IsStrictlySortedBy write_cmp writes
    → AreNew writes held
    → IsStrictlySortedBy write_cmp held
    → with_writes writes held ≡ in_order (held ++ writes)
in_order-with_writes writes [] sorted new held_sorted =
    with_writes-none writes sorted ∙ sym (in_order_sorted writes sorted)
in_order-with_writes writes (first ∷ held) sorted new held_sorted =
    let apart : All (λ other. write_cmp first other ≢ Equal) writes =
    λ k d within. All-head (λ other. write_cmp other (get_or writes k d) ≢ Equal) first held (new k d within) in
    let fewer : AreNew writes held = λ k d within. All-tail (λ other. write_cmp other (get_or writes k d) ≢ Equal) first held (new k d within) in
    sym (with_writes-swap writes first held sorted apart
    (All-weaker (λ later. write_cmp first later ≡ Less) (λ later. comes_before first later ≡ true) (λ later less. before-from_Less first later less) held
    (All-after_first write_cmp first held held_sorted)))
    ∙ ap (with_write first) (in_order-with_writes writes held sorted fewer (sorted_tail write_cmp first held held_sorted))

-- what is committed comes before a write past the point
committed-before : (point : ℕ) (write : Write) (held : List Write)
    → point < write.stamp
    → length (committed_to point held) ≤ length (filter (λ other. comes_before other write) held)
committed-before point write [] past = omega arith
committed-before point write (first ∷ held) past = go (nat_le first.stamp point) (comes_before first write) refl refl (committed-before point write held past)
  where
    go : (early before : Bool)
        → nat_le first.stamp point ≡ early
        → comes_before first write ≡ before
        → length (committed_to point held) ≤ length (filter (λ other. comes_before other write) held)
        → length (if early then first ∷ committed_to point held else committed_to point held)
        ≤ length (if before then first ∷ filter (λ other. comes_before other write) held else filter (λ other. comes_before other write) held)
    go true true early before rest = omega (arith, rest)
    go true false early before rest = absurd (omega (arith, leb-true first.stamp point early, stamp-le_not_before write first before, past))
    go false true early before rest = omega (arith, rest)
    go false false early before rest = rest

pub committed-first_place : (point : ℕ) (writes held : List Write)
    → All (λ write. point < write.stamp) writes
    → length (committed_to point held) ≤ first_place held writes
committed-first_place point [] held past = committed-few point held
committed-first_place point (write ∷ writes) held past =
    omega (arith, committed-before point write held (All-head (λ write. point < write.stamp) write writes past), length-filter (λ other. comes_before other write) held)

pub first_place-within : (writes held : List Write) → first_place held writes ≤ length held
first_place-within [] held = omega arith
first_place-within (write ∷ writes) held = count_by-le-length (λ other. comes_before other write) held
