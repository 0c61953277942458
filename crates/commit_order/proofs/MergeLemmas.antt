-- One step of a merge from the back: of the writes that are left the last one goes to its place, and those held behind
-- it have moved up.
use Rattle.std.proofs.Common.{◌≡◌, ℕ, zero, suc, ◌+◌, ◌<◌, ◌≤◌, true, false, List, [], ◌∷◌, ◌++◌, length, get_or, take, drop, slice_set, All, refl, sym, ap, ap₂, ◌∙◌, subst, arith}
use Rattle.std.specs.declared.cmp.Ordering.TheVariants.{Less}
use Rattle.std.specs.List.Sorted.{IsStrictlySortedBy}
use Rattle.std.proofs.lemmas.List.{append_assoc, drop-set, drop_more, get_or-take, get_or_default, length-take-le, take-append-drop, take-set-le, take-take, take_more}
use Rattle.std.proofs.lemmas.List.Elements.{All-cons, All-take, All-from_recursion, recursion_from_All}
use Rattle.std.proofs.lemmas.Map.Keys.{Less-from_sorted}
use Rattle.tact_base.proofs.CompareLemmas.{before_one_way}
use Rattle.tact_base.specs.WriteOrder.{write_cmp, comes_before}
use Rattle.tact_base.specs.declared.write.Write.{Write}
use Rattle.commit_order.specs.Batches.{with_writes}
use Rattle.commit_order.proofs.BatchLemmas.{not_true, upto_first, with_writes-ahead, with_writes-and_last}
use Rattle.commit_order.proofs.WriteOrderLemmas.{before-from_Less, before_first}

-- the first of writes in order are in order
pub sorted-take : (n : ℕ) (writes : List Write)
    → IsStrictlySortedBy write_cmp writes
    → IsStrictlySortedBy write_cmp (take n writes)
unfolding IsStrictlySortedBy
sorted-take zero writes sorted = tt
sorted-take (suc n) [] sorted = tt
sorted-take (suc n) (write ∷ writes) sorted =
    let P : Write → Type 0 = λ other. write_cmp write other ≡ Less in
    (recursion_from_All P (take n writes) (All-take P n writes (All-from_recursion P writes sorted.0)), sorted-take n writes sorted.1)

-- and so are the others
pub sorted-drop : (n : ℕ) (writes : List Write)
    → IsStrictlySortedBy write_cmp writes
    → IsStrictlySortedBy write_cmp (drop n writes)
unfolding IsStrictlySortedBy
sorted-drop zero writes sorted = sorted
sorted-drop (suc n) [] sorted = tt
sorted-drop (suc n) (write ∷ writes) sorted = sorted-drop n writes sorted.1

-- what is before one of writes in order comes before it
earlier_before : (writes : List Write) (k : ℕ) (write : Write)
    → IsStrictlySortedBy write_cmp writes
    → k < length writes
    → write ≡ get_or writes k write
    → All (λ other. comes_before write other ≡ false) (take k writes)
earlier_before writes k write sorted within is j d inside =
    let early : j < k = rw (length-take-le k writes (omega (arith, within))) at inside in
    let less = Less-from_sorted write_cmp writes j k d sorted early within in
    let same : get_or writes k d ≡ write = get_or_default writes k d write within ∙ sym is in
    rw (get_or-take k writes j d early, ← same) (before_one_way (get_or writes j d) (get_or writes k d) (before-from_Less (get_or writes j d) (get_or writes k d) less))

-- where the last of the first ones comes before a write, all of them do
all_before : (writes : List Write) (k : ℕ) (write last : Write)
    → IsStrictlySortedBy write_cmp writes
    → k < length writes
    → write ≡ get_or writes k write
    → comes_before write last ≡ true
    → All (λ other. comes_before other last ≡ true) (take (k + 1) writes)
all_before writes k write last sorted within is before j d inside =
    let early : j < k + 1 = rw (length-take-le (k + 1) writes (omega (arith, within))) at inside in
    let same : get_or writes k d ≡ write = get_or_default writes k d write within ∙ sym is in
    rw (get_or-take (k + 1) writes j d early) (before_first last writes sorted j k d (omega (arith, early)) within (ap (λ (w : Write). comes_before w last) same ∙ before))

-- where a write doesn't come before the last of some in order, it comes before none
pub none_after : (items : List Write) (k : ℕ) (write last : Write)
    → IsStrictlySortedBy write_cmp (take (k + 1) items)
    → k < length items
    → last ≡ get_or items k last
    → comes_before write last ≡ false
    → All (λ other. comes_before write other ≡ false) (take (k + 1) items)
none_after items k write last sorted within is not_before j d inside =
    let long = length-take-le (k + 1) items (omega (arith, within)) in
    let same : get_or (take (k + 1) items) k d ≡ last = get_or-take (k + 1) items k d (omega arith) ∙ get_or_default items k d last within ∙ sym is in
    not_true (comes_before write (get_or (take (k + 1) items) j d))
    (upto_first write (take (k + 1) items) sorted j k d (omega (arith, long, inside)) (omega (arith, long)) (rw (same, not_before) refl))

-- and a write that comes before one of them and before all behind it comes before these together
pub one_more_ahead : (items : List Write) (left k : ℕ) (write last : Write)
    → k < left
    → left ≤ length items
    → last ≡ get_or items k last
    → comes_before write last ≡ true
    → All (λ later. comes_before write later ≡ true) (drop (k + 1) (take left items))
    → All (λ later. comes_before write later ≡ true) (drop k (take left items))
one_more_ahead items left k write last early within is before ahead =
    let P : Write → Type 0 = λ later. comes_before write later ≡ true in
    let long = length-take-le left items within in
    let same : get_or (take left items) k last ≡ last = get_or-take left items k last early ∙ sym is in
    rw (drop_more (take left items) k last (omega (arith, long)), same) (All-cons P last (drop (k + 1) (take left items)) before ahead)

-- What is left of both, merged, stands before what is in its place; the last of the writes that are left comes before
-- those held behind its place, and these have moved up.
module _ (writes items whole : List Write) (write : Write) (sorted : IsStrictlySortedBy write_cmp writes) where
  -- the write goes right before them
  pub write_moves : (left more place : ℕ) (moved : List Write)
      → more < length writes
      → place ≤ left
      → left + (more + 1) ≤ length items
      → write ≡ get_or writes more write
      → length moved ≡ length items
      → take (place + (more + 1)) moved ≡ take (place + (more + 1)) items
      → drop (place + (more + 1)) moved ≡ drop place (take left items) ++ drop (left + (more + 1)) items
      → All (λ other. comes_before write other ≡ false) (take place items)
      → All (λ later. comes_before write later ≡ true) (drop place (take left items))
      → with_writes (take (more + 1) writes) (take left items) ++ drop (left + (more + 1)) items ≡ whole
      → with_writes (take more writes) (take place (slice_set moved (place + more) write)) ++ drop (place + more) (slice_set moved (place + more) write) ≡ whole
  write_moves left more place moved few order within write_is long front_is rest_is behind ahead merged =
      let at = place + more in
      let front = take place items in
      let later = drop place (take left items) in
      let rest = drop (left + (more + 1)) items in
      let some = take more writes in
      let next : at + 1 ≡ place + (more + 1) = omega arith in
      let stays : take place moved ≡ front =
      sym (take-take place (place + (more + 1)) moved (omega arith)) ∙ (ap (take place) front_is ∙ take-take place (place + (more + 1)) items (omega arith)) in
      let taken : take (more + 1) writes ≡ some ++ write ∷ [] = take_more writes more write few ∙ ap (λ (w : Write). some ++ w ∷ []) (sym write_is) in
      let held : take left items ≡ front ++ later =
      sym (take-append-drop place (take left items)) ∙ ap (λ (l : List Write). l ++ later) (take-take place left items order) in
      let all_ahead : All (λ w. All (λ other. comes_before w other ≡ true) later) (some ++ write ∷ []) =
      subst (All (λ w. All (λ other. comes_before w other ≡ true) later)) taken
      (λ j d inside k e inner. all_before writes more write (get_or later k e) sorted few write_is (ahead k e inner) j d inside) in
      ap₂ (λ (l m : List Write). with_writes some l ++ m) (take-set-le place moved at write (omega arith) ∙ stays)
      (drop-set moved at write (omega (arith, long)) ∙ ap (λ (l : List Write). write ∷ l) (ap (λ n. drop n moved) next ∙ rest_is))
      ∙ (sym (append_assoc (with_writes some front) (write ∷ []) (later ++ rest))
      ∙ (ap (λ (l : List Write). l ++ (later ++ rest)) (sym (with_writes-and_last some front write (earlier_before writes more write sorted few write_is) behind))
      ∙ (sym (append_assoc (with_writes (some ++ write ∷ []) front) later rest)
      ∙ (ap (λ (l : List Write). l ++ rest) (sym (with_writes-ahead (some ++ write ∷ []) front later all_ahead))
      ∙ (ap₂ (λ (l m : List Write). with_writes l m ++ rest) (sym taken) (sym held) ∙ merged)))))
