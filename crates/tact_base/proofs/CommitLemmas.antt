-- What is committed and what is tentative of writes in order: a front and what follows it, and one front for all
-- replicas.
use Rattle.std.proofs.Common.{◌≡◌, ℕ, ◌+◌, length, not, ◌<◌, ◌≤◌, Bool, true, false, if◌then◌else◌, List, [], ◌∷◌, ◌++◌}
use Rattle.std.proofs.Common.{filter, All, IsSorted, nat_le, nat_lt, refl, sym, ap, ap₂, ◌∙◌, ⊎_elim, le-leb, leb-true}
use Rattle.std.proofs.Common.{ltb-true, arith}
use Rattle.std.proofs.lemmas.Bool.{cases_lt, lt-leb, le-ltb, lt-ltb}
use Rattle.std.proofs.lemmas.List.Elements.{All-cons, All-weaker, All-filter, filter_passes}
use Rattle.std.proofs.lemmas.List.Filters.{length-filter_both}
use Rattle.std.proofs.lemmas.List.Kept.{IsSortedBy-filter}
use Rattle.tact_base.specs.WriteOrder.{write_cmp, comes_before, with_write, in_order, committed_to, tentative_past}
use Rattle.tact_base.specs.declared.write.Write.{Write}
use Rattle.tact_base.proofs.CompareLemmas.{before_order, before_upto, stamp-le_not_before}
use Rattle.tact_base.proofs.ElementLemmas.{filter-filter}
use Rattle.tact_base.proofs.ListLemmas.{filter_all, filter_none}
use Rattle.tact_base.proofs.OrderLemmas.{with_write_first, with_write_behind, IsSortedByPlace, IsSortedByPlace-in_order, IsSortedByPlace-from_sorted, IsSorted-in_order}

-- a filter of a list that begins with what a write goes behind
filter_behind : (write first : Write) (rest after : List Write)
    → comes_before write first ≡ false
    → (kept kept_first : Bool)
    → after ≡ (if kept then with_write write rest else rest)
    → (if kept_first then first ∷ after else after) ≡ (if kept then with_write write (if kept_first then first ∷ rest else rest) else (if kept_first then first ∷ rest else rest))
filter_behind write first rest after behind true true is = ap (λ (l : List Write). first ∷ l) is ∙ sym (with_write_behind write first rest behind)
filter_behind write first rest after behind true false is = is
filter_behind write first rest after behind false true is = ap (λ (l : List Write). first ∷ l) is
filter_behind write first rest after behind false false is = is

-- a filter of an ordered list with one more write
pub filter-with_write : (p : Write → Bool) (write : Write) (writes : List Write)
    → IsSortedByPlace writes
    → filter p (with_write write writes) ≡ (if p write then with_write write (filter p writes) else filter p writes)
filter-with_write p write [] ordered = refl
filter-with_write p write (first ∷ rest) ordered = go (filter-with_write p write rest ordered.1) (comes_before write first) refl
  where
    go : filter p (with_write write rest) ≡ (if p write then with_write write (filter p rest) else filter p rest)
        → (is : Bool)
        → comes_before write first ≡ is
        → filter p (if is then write ∷ first ∷ rest else first ∷ with_write write rest) ≡ (if p write then with_write write (filter p (first ∷ rest)) else filter p (first ∷ rest))
    go rest_is true is =
        let before : All (λ later. comes_before write later ≡ true) (first ∷ rest) =
        All-cons (λ later. comes_before write later ≡ true) first rest is
        (All-weaker (λ later. comes_before later first ≡ false) (λ later. comes_before write later ≡ true) (λ x h. before_upto write first x is h) rest ordered.0) in
        ap (λ (front : List Write). if p write then front else filter p (first ∷ rest))
        (sym (with_write_first write (filter p (first ∷ rest)) (All-filter p (λ later. comes_before write later ≡ true) (first ∷ rest) before)))
    go rest_is false is = filter_behind write first (filter p rest) (filter p (with_write write rest)) is (p write) (p first) rest_is

-- A filter of the writes in order is the filtered writes in order.
pub filter-in_order : (p : Write → Bool) (writes : List Write)
    → filter p (in_order writes) ≡ in_order (filter p writes)
filter-in_order p [] = refl
filter-in_order p (write ∷ writes) =
    filter-with_write p write (in_order writes) (IsSortedByPlace-in_order writes)
    ∙ (ap (λ (l : List Write). if p write then with_write write l else l) (filter-in_order p writes) ∙ go (p write))
  where
    go : (kept : Bool)
        → (if kept then with_write write (in_order (filter p writes)) else in_order (filter p writes)) ≡ in_order (if kept then write ∷ filter p writes else filter p writes)
    go true = refl
    go false = refl

-- the committed writes in order
pub committed_to-in_order : (point : ℕ) (writes : List Write)
    → committed_to point (in_order writes) ≡ in_order (committed_to point writes)
committed_to-in_order point = filter-in_order (λ write. nat_le write.stamp point)

-- past the point is not up to it
after_not_upto : (stamp point : ℕ) → nat_lt point stamp ≡ not (nat_le stamp point)
after_not_upto stamp point =
    ⊎_elim (λ (lt : point < stamp). rw (lt-ltb point stamp lt, lt-leb stamp point lt)) (λ (le : stamp ≤ point). rw (le-ltb point stamp le, le-leb stamp point le)) (cases_lt point stamp)

-- where the first of ordered writes is past the point, all are
none_committed : (point : ℕ) (write : Write) (writes : List Write)
    → IsSortedByPlace (write ∷ writes)
    → point < write.stamp
    → committed_to point (write ∷ writes) ++ tentative_past point (write ∷ writes) ≡ write ∷ writes
none_committed point write writes ordered after =
    let past : All (λ later. point < later.stamp) (write ∷ writes) =
    All-cons (λ later. point < later.stamp) write writes after
    (All-weaker (λ later. comes_before later write ≡ false) (λ later. point < later.stamp)
    (λ later h. let le = stamp-le_not_before write later h in omega arith) writes ordered.0) in
    let none : committed_to point (write ∷ writes) ≡ [] =
    filter_none (λ write. nat_le write.stamp point) (write ∷ writes)
    (All-weaker (λ later. point < later.stamp) (λ later. nat_le later.stamp point ≡ false) (λ later h. lt-leb later.stamp point h) (write ∷ writes) past) in
    let all : tentative_past point (write ∷ writes) ≡ write ∷ writes =
    filter_all (λ write. nat_lt point write.stamp) (write ∷ writes)
    (All-weaker (λ later. point < later.stamp) (λ later. nat_lt point later.stamp ≡ true) (λ later h. lt-ltb point later.stamp h) (write ∷ writes) past) in
    ap₂ (λ (front rest : List Write). front ++ rest) none all

-- of ordered writes the committed ones are a front, and the tentative ones are the rest
committed_front : (point : ℕ) (writes : List Write)
    → IsSortedByPlace writes
    → committed_to point writes ++ tentative_past point writes ≡ writes
committed_front point [] ordered = refl
committed_front point (write ∷ writes) ordered =
    ⊎_elim (λ (after : point < write.stamp). none_committed point write writes ordered after)
    (λ (upto : write.stamp ≤ point). rw (le-leb write.stamp point upto, le-ltb point write.stamp upto) (ap (λ (l : List Write). write ∷ l) (committed_front point writes ordered.1)))
    (cases_lt point write.stamp)

pub committed_to-tentative_past : (point : ℕ) (writes : List Write)
    → IsSorted write_cmp writes
    → committed_to point writes ++ tentative_past point writes ≡ writes
committed_to-tentative_past point writes sorted = committed_front point writes (IsSortedByPlace-from_sorted writes sorted)

-- what is committed at a point is committed at a later one
pub committed_to-committed_to : (point later : ℕ) (writes : List Write)
    → point ≤ later
    → committed_to point (committed_to later writes) ≡ committed_to point writes
committed_to-committed_to point later writes le =
    filter-filter (λ write. nat_le write.stamp point) (λ write. nat_le write.stamp later)
    (λ write h. let early = leb-true write.stamp point h in le-leb write.stamp later (omega arith)) writes

-- Of ordered writes, the committed ones at a point are a prefix of those at a later one.
pub committed_to_prefix : (point later : ℕ) (writes : List Write)
    → point ≤ later
    → IsSorted write_cmp writes
    → (rest : List Write) × (committed_to later writes ≡ committed_to point writes ++ rest)
committed_to_prefix point later writes le sorted = (
  tentative_past point (committed_to later writes),
  sym (committed_to-tentative_past point (committed_to later writes) (IsSortedBy-filter comes_before before_order (λ write. nat_le write.stamp later) writes sorted))
      ∙ ap (λ (front : List Write). front ++ tentative_past point (committed_to later writes)) (committed_to-committed_to point later writes le),
)

-- the writes in order need no such premise
pub committed_to_prefix_in_order : (point later : ℕ) (writes : List Write)
    → point ≤ later
    → (rest : List Write) × (committed_to later (in_order writes) ≡ committed_to point (in_order writes) ++ rest)
committed_to_prefix_in_order point later writes le = committed_to_prefix point later (in_order writes) le (IsSorted-in_order writes)

-- committed writes are up to the point, and tentative ones past it
pub All-committed_to : (point : ℕ) (writes : List Write)
    → All (λ write. write.stamp ≤ point) (committed_to point writes)
All-committed_to point writes =
    let upto = λ (write : Write). nat_le write.stamp point in
    All-weaker (λ write. upto write ≡ true) (λ write. write.stamp ≤ point) (λ write h. leb-true write.stamp point h) (committed_to point writes) (filter_passes upto writes)

pub All-tentative_past : (point : ℕ) (writes : List Write)
    → All (λ write. point < write.stamp) (tentative_past point writes)
All-tentative_past point writes =
    let past = λ (write : Write). nat_lt point write.stamp in
    All-weaker (λ write. past write ≡ true) (λ write. point < write.stamp) (λ write h. ltb-true point write.stamp h) (tentative_past point writes) (filter_passes past writes)

-- what is committed and what is tentative, together, are all
pub length-committed_tentative : (point : ℕ) (writes : List Write)
    → length (committed_to point writes) + length (tentative_past point writes) ≡ length writes
length-committed_tentative point writes =
    length-filter_both (λ write. nat_le write.stamp point) (λ write. nat_lt point write.stamp) (λ write. after_not_upto write.stamp point) writes
