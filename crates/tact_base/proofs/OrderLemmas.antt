-- The writes in order: the same writes, sorted, and one list whatever order they came in.
use Rattle.std.proofs.Common.{◌≡◌, ◌≢◌, ℕ, ◌++◌, flat_map, ap, Less, suc, zero, Bool, true, false, if◌then◌else◌, List}
use Rattle.std.proofs.Common.{[], ◌∷◌, length, All, AllPairs, Contains, IsPermutation, IsSorted, refl, sym, ap₂, ◌∙◌}
use Rattle.std.proofs.Common.{⊎_elim, suc-add, arith}
use Rattle.std.proofs.lemmas.List.Elements.{All-nil, All-cons, All-head, All-tail, All-weaker, All-contains, recursion_from_All}
use Rattle.std.proofs.lemmas.List.Sorted.{IsPermutation-refl, IsPermutation-sym, IsPermutation-cons}
use Rattle.std.proofs.lemmas.List.Sorted.{IsPermutation-trans, IsPermutation-middle, All-permutation}
use Rattle.std.proofs.lemmas.List.Sorted.{Contains-permutation, length_permutation, sorted_far}
use Rattle.std.specs.List.Sorted.{IsStrictlySortedBy}
use Rattle.std.proofs.lemmas.Bool.{false≢true}
use Rattle.tact_base.specs.WriteOrder.{write_cmp, comes_before, with_write, in_order}
use Rattle.tact_base.specs.declared.write.Write.{Write}
use Rattle.tact_base.proofs.ElementLemmas.{Contains-first, Contains-later, Contains-cases, Contains-none, AllPairs-first, AllPairs-rest, AllPairs-nil, AllPairs-append, AllPairs-IsPermutation}
use Rattle.tact_base.proofs.ListLemmas.{All-flat_map}
use Rattle.tact_base.proofs.CompareLemmas.{AreApart, before_order, before_cases_apart, before_one_way, before_itself, before_trans, less_from_before, not_before_trans}

-- no two writes of a list are alike in origin and index
abbrev pub Apart : List Write → Type 0
Apart = AllPairs AreApart

-- two writes that are apart are so the other way round
pub AreApart-sym : (a b : Write) → AreApart a b → AreApart b a
AreApart-sym a b apart origin index = apart (sym origin) (sym index)

-- so the order of a list says nothing
pub Apart-IsPermutation : (xs ys : List Write) → IsPermutation xs ys → Apart xs → Apart ys
Apart-IsPermutation = AllPairs-IsPermutation AreApart AreApart-sym

-- the logs of different origins
pub Apart-flat_map : (log : ℕ → List Write) (origins : List ℕ)
    → AllPairs (λ a b. a ≢ b) origins
    → All (λ origin. Apart (log origin)) origins
    → All (λ origin. All (λ write. write.origin ≡ origin) (log origin)) origins
    → Apart (flat_map log origins)
Apart-flat_map log [] different apart own = AllPairs-nil AreApart
Apart-flat_map log (origin ∷ origins) different apart own =
    let others = AllPairs-first (λ a b. a ≢ b) origin origins different in
    let rest_own = All-tail (λ origin. All (λ write. write.origin ≡ origin) (log origin)) origin origins own in
    let across : (write : Write) → write.origin ≡ origin → All (AreApart write) (flat_map log origins) =
    λ write from. All-flat_map (AreApart write) log origins
    (λ k d within i e below same index. others k d within (sym from ∙ (same ∙ rest_own k d within i e below))) in
    AllPairs-append AreApart (log origin) (flat_map log origins)
    (All-head (λ origin. Apart (log origin)) origin origins apart)
    (Apart-flat_map log origins (AllPairs-rest (λ a b. a ≢ b) origin origins different) (All-tail (λ origin. Apart (log origin)) origin origins apart) rest_own)
    (All-weaker (λ write. write.origin ≡ origin) (λ write. All (AreApart write) (flat_map log origins)) across (log origin)
    (All-head (λ origin. All (λ write. write.origin ≡ origin) (log origin)) origin origins own))

-- A write goes before a first that it comes before, and else behind it.
pub with_write_ahead : (write first : Write) (rest : List Write)
    → comes_before write first ≡ true
    → with_write write (first ∷ rest) ≡ write ∷ first ∷ rest
with_write_ahead write first rest ahead = rw ahead refl

pub with_write_behind : (write first : Write) (rest : List Write)
    → comes_before write first ≡ false
    → with_write write (first ∷ rest) ≡ first ∷ with_write write rest
with_write_behind write first rest behind = rw behind refl

-- a write before all of a list goes to its front
pub with_write_first : (write : Write) (writes : List Write)
    → All (λ later. comes_before write later ≡ true) writes
    → with_write write writes ≡ write ∷ writes
with_write_first write [] before = refl
with_write_first write (first ∷ rest) before = with_write_ahead write first rest (All-head (λ later. comes_before write later ≡ true) first rest before)

-- and one between a front and the rest goes there
pub with_write_between : (write : Write) (front rest : List Write)
    → All (λ earlier. comes_before write earlier ≡ false) front
    → All (λ later. comes_before write later ≡ true) rest
    → with_write write (front ++ rest) ≡ front ++ write ∷ rest
with_write_between write [] rest behind before = with_write_first write rest before
with_write_between write (first ∷ front) rest behind before =
    with_write_behind write first (front ++ rest) (All-head (λ earlier. comes_before write earlier ≡ false) first front behind)
    ∙ ap (λ (l : List Write). first ∷ l) (with_write_between write front rest (All-tail (λ earlier. comes_before write earlier ≡ false) first front behind) before)

-- a write put into its place
pub IsPermutation-with_write : (write : Write) (writes : List Write)
    → IsPermutation (write ∷ writes) (with_write write writes)
IsPermutation-with_write write [] = IsPermutation-refl (write ∷ [])
IsPermutation-with_write write (first ∷ rest) =
    let later : IsPermutation (write ∷ first ∷ rest) (first ∷ with_write write rest) =
    IsPermutation-trans (write ∷ first ∷ rest) (first ∷ write ∷ rest) (first ∷ with_write write rest)
    (IsPermutation-sym (first ∷ write ∷ rest) (write ∷ first ∷ rest) (IsPermutation-middle (first ∷ []) write rest))
    (IsPermutation-cons first (write ∷ rest) (with_write write rest) (IsPermutation-with_write write rest)) in
    elim (comes_before write first) as (λ is. IsPermutation (write ∷ first ∷ rest) (if is then write ∷ first ∷ rest else first ∷ with_write write rest)) [
      | true ↦ IsPermutation-refl (write ∷ first ∷ rest)
      | false ↦ later
    ]

-- the writes in order are the same writes
pub IsPermutation-in_order : (writes : List Write) → IsPermutation writes (in_order writes)
IsPermutation-in_order [] = IsPermutation-refl []
IsPermutation-in_order (write ∷ writes) =
    IsPermutation-trans (write ∷ writes) (write ∷ in_order writes) (with_write write (in_order writes))
    (IsPermutation-cons write writes (in_order writes) (IsPermutation-in_order writes))
    (IsPermutation-with_write write (in_order writes))

pub length-in_order : (writes : List Write) → length (in_order writes) ≡ length writes
length-in_order writes = length_permutation writes (in_order writes) (IsPermutation-in_order writes)

pub Contains-in_order : (writes : List Write) (write : Write)
    → Contains writes write
    → Contains (in_order writes) write
Contains-in_order writes write = Contains-permutation writes (in_order writes) write (IsPermutation-in_order writes)

pub Contains-from_in_order : (writes : List Write) (write : Write)
    → Contains (in_order writes) write
    → Contains writes write
Contains-from_in_order writes write =
    Contains-permutation (in_order writes) writes write (IsPermutation-sym writes (in_order writes) (IsPermutation-in_order writes))

pub All-in_order : (P : Write → Type 0) (writes : List Write)
    → All P writes
    → All P (in_order writes)
All-in_order P writes = All-permutation P writes (in_order writes) (IsPermutation-in_order writes)

-- by recursion: no later write comes before an earlier one
abbrev pub IsSortedByPlace : List Write → Type 0
IsSortedByPlace [] = Unit {0}
IsSortedByPlace (write ∷ writes) = All (λ later. comes_before later write ≡ false) writes × IsSortedByPlace writes

pub IsSortedByPlace-with_write : (write : Write) (writes : List Write)
    → IsSortedByPlace writes
    → IsSortedByPlace (with_write write writes)
IsSortedByPlace-with_write write [] ordered = (All-nil (λ later. comes_before later write ≡ false), tt)
IsSortedByPlace-with_write write (first ∷ rest) ordered = go (IsSortedByPlace-with_write write rest ordered.1) (comes_before write first) refl
  where
    go : IsSortedByPlace (with_write write rest)
        → (is : Bool)
        → comes_before write first ≡ is
        → IsSortedByPlace (if is then write ∷ first ∷ rest else first ∷ with_write write rest)
    go rest_ordered true is =
        let later = before_one_way write first is in (
          All-cons (λ later. comes_before later write ≡ false) first rest later
              (All-weaker (λ later. comes_before later first ≡ false) (λ later. comes_before later write ≡ false) (λ x h. not_before_trans write first x later h) rest ordered.0),
          ordered,
        )
    go rest_ordered false is = (
      All-permutation (λ later. comes_before later first ≡ false) (write ∷ rest) (with_write write rest) (IsPermutation-with_write write rest)
          (All-cons (λ later. comes_before later first ≡ false) write rest is ordered.0),
      rest_ordered,
    )

pub IsSortedByPlace-in_order : (writes : List Write) → IsSortedByPlace (in_order writes)
IsSortedByPlace-in_order [] = tt
IsSortedByPlace-in_order (write ∷ writes) = IsSortedByPlace-with_write write (in_order writes) (IsSortedByPlace-in_order writes)

-- the same as std says it
pub IsSorted-from_ordered : (writes : List Write)
    → IsSortedByPlace writes
    → IsSorted write_cmp writes
IsSorted-from_ordered [] ordered k d low within = absurd (omega arith)
IsSorted-from_ordered (write ∷ []) ordered k d low within = absurd (omega arith)
IsSorted-from_ordered (write ∷ next ∷ rest) ordered zero d low within = All-head (λ later. comes_before later write ≡ false) next rest ordered.0
IsSorted-from_ordered (write ∷ next ∷ rest) ordered (suc k) d low within = rw suc-add (IsSorted-from_ordered (next ∷ rest) ordered.1 k d (omega arith) (omega arith))

pub IsSortedByPlace-from_sorted : (writes : List Write)
    → IsSorted write_cmp writes
    → IsSortedByPlace writes
IsSortedByPlace-from_sorted [] sorted = tt
IsSortedByPlace-from_sorted (write ∷ writes) sorted = (
  λ k d within. sorted_far comes_before before_order (write ∷ writes) sorted 0 (suc k) d (omega arith) (omega arith),
  IsSortedByPlace-from_sorted writes (λ k d low within. rw suc-add at (sorted (suc k) d (omega arith) (omega arith))),
)

-- the writes in order are sorted
pub IsSorted-in_order : (writes : List Write) → IsSorted write_cmp (in_order writes)
IsSorted-in_order writes = IsSorted-from_ordered (in_order writes) (IsSortedByPlace-in_order writes)

-- by recursion: each write comes before all later ones
abbrev pub IsRising : List Write → Type 0
IsRising [] = Unit {0}
IsRising (write ∷ writes) = All (λ later. comes_before write later ≡ true) writes × IsRising writes

pub IsRising-with_write : (write : Write) (writes : List Write)
    → All (AreApart write) writes
    → IsRising writes
    → IsRising (with_write write writes)
IsRising-with_write write [] apart rising = (All-nil (λ later. comes_before write later ≡ true), tt)
IsRising-with_write write (first ∷ rest) apart rising =
    go (IsRising-with_write write rest (All-tail (AreApart write) first rest apart) rising.1) (comes_before write first) refl
  where
    go : IsRising (with_write write rest)
        → (is : Bool)
        → comes_before write first ≡ is
        → IsRising (if is then write ∷ first ∷ rest else first ∷ with_write write rest)
    go rest_rising true is = (
      All-cons (λ later. comes_before write later ≡ true) first rest is
          (All-weaker (λ later. comes_before first later ≡ true) (λ later. comes_before write later ≡ true) (λ x h. before_trans write first x is h) rest rising.0),
      rising,
    )
    go rest_rising false is =
        let first_before : comes_before first write ≡ true =
        ⊎_elim (λ (h : comes_before write first ≡ true). absurd (false≢true (sym is ∙ h))) (λ h. h)
        (before_cases_apart write first (All-head (AreApart write) first rest apart)) in (
          All-permutation (λ later. comes_before first later ≡ true) (write ∷ rest) (with_write write rest) (IsPermutation-with_write write rest)
              (All-cons (λ later. comes_before first later ≡ true) write rest first_before rising.0),
          rest_rising,
        )

-- where no two are alike in origin and index, the writes in order rise
pub IsRising-in_order : (writes : List Write) → Apart writes → IsRising (in_order writes)
IsRising-in_order [] apart = tt
IsRising-in_order (write ∷ writes) apart =
    IsRising-with_write write (in_order writes)
    (All-in_order (AreApart write) writes (AllPairs-first AreApart write writes apart))
    (IsRising-in_order writes (AllPairs-rest AreApart write writes apart))

-- two rising lists that contain each other's first begin alike
first_same : (a b : Write) (xs ys : List Write)
    → IsRising (a ∷ xs)
    → IsRising (b ∷ ys)
    → Contains (b ∷ ys) a
    → Contains (a ∷ xs) b
    → a ≡ b
first_same a b xs ys rising other in_other in_one =
    ⊎_elim (λ (is : b ≡ a). sym is)
    (λ (behind : Contains ys a).
    ⊎_elim (λ (is : a ≡ b). is)
    (λ (ahead : Contains xs b).
    let a_first = All-contains (λ later. comes_before a later ≡ true) xs b rising.0 ahead in
    let b_first = All-contains (λ later. comes_before b later ≡ true) ys a other.0 behind in
    absurd (false≢true (sym (before_one_way a b a_first) ∙ b_first)))
    (Contains-cases a b xs in_one))
    (Contains-cases b a ys in_other)

-- two lists begin alike, the one rises and the other contains it: so it is behind the first
rest_contained : (a b : Write) (xs ys : List Write)
    → a ≡ b
    → IsRising (a ∷ xs)
    → ((write : Write) → Contains (a ∷ xs) write → Contains (b ∷ ys) write)
    → (write : Write)
    → Contains xs write
    → Contains ys write
rest_contained a b xs ys same rising contained write within =
    ⊎_elim (λ (is : b ≡ write).
    absurd (false≢true (sym (before_itself write) ∙ rw (same ∙ is) at (All-contains (λ later. comes_before a later ≡ true) xs write rising.0 within))))
    (λ h. h) (Contains-cases b write ys (contained write (Contains-later a write xs within)))

-- rising lists with the same writes are equal
pub rising_same : (xs ys : List Write)
    → IsRising xs
    → IsRising ys
    → ((write : Write) → Contains xs write → Contains ys write)
    → ((write : Write) → Contains ys write → Contains xs write)
    → xs ≡ ys
rising_same [] [] rising other contained back = refl
rising_same [] (y ∷ ys) rising other contained back = absurd (Contains-none y (back y (Contains-first y y ys refl)))
rising_same (x ∷ xs) [] rising other contained back = absurd (Contains-none x (contained x (Contains-first x x xs refl)))
rising_same (x ∷ xs) (y ∷ ys) rising other contained back =
    let same : x ≡ y = first_same x y xs ys rising other (contained x (Contains-first x x xs refl)) (back y (Contains-first y y ys refl)) in
    ap₂ (λ (first : Write) (rest : List Write). first ∷ rest) same
    (rising_same xs ys rising.1 other.1 (rest_contained x y xs ys same rising contained) (rest_contained y x ys xs (sym same) other back))

-- Lists with the same writes, no two alike in origin and index, are one list in order.
pub in_order_same : (xs ys : List Write)
    → Apart xs
    → Apart ys
    → ((write : Write) → Contains xs write → Contains ys write)
    → ((write : Write) → Contains ys write → Contains xs write)
    → in_order xs ≡ in_order ys
in_order_same xs ys apart other contained back =
    rising_same (in_order xs) (in_order ys) (IsRising-in_order xs apart) (IsRising-in_order ys other)
    (λ write h. Contains-in_order ys write (contained write (Contains-from_in_order xs write h)))
    (λ write h. Contains-in_order xs write (back write (Contains-from_in_order ys write h)))

pub in_order_moved : (xs ys : List Write)
    → Apart xs
    → IsPermutation xs ys
    → in_order xs ≡ in_order ys
in_order_moved xs ys apart moved =
    in_order_same xs ys apart (Apart-IsPermutation xs ys moved apart)
    (λ write. Contains-permutation xs ys write moved) (λ write. Contains-permutation ys xs write (IsPermutation-sym xs ys moved))

-- rising writes are in order
pub in_order_rising : (writes : List Write) → IsRising writes → in_order writes ≡ writes
in_order_rising [] rising = refl
in_order_rising (write ∷ writes) rising =
    ap (with_write write) (in_order_rising writes rising.1) ∙ with_write_first write writes rising.0

-- as std says that the writes in order rise
pub IsStrictlySortedBy-from_rising : (writes : List Write)
    → IsRising writes
    → IsStrictlySortedBy write_cmp writes
unfolding IsStrictlySortedBy
IsStrictlySortedBy-from_rising [] rising = tt
IsStrictlySortedBy-from_rising (write ∷ writes) rising = (
  recursion_from_All (λ later. write_cmp write later ≡ Less) writes
      (All-weaker (λ later. comes_before write later ≡ true) (λ later. write_cmp write later ≡ Less) (λ later. less_from_before write later) writes rising.0),
  IsStrictlySortedBy-from_rising writes rising.1,
)

-- two writes, the first before the second, can be put in in any order
with_both : (a b : Write) (writes : List Write)
    → comes_before a b ≡ true
    → with_write a (with_write b writes) ≡ with_write b (with_write a writes)
with_both a b [] before = with_write_ahead a b [] before ∙ sym (with_write_behind b a [] (before_one_way a b before))
with_both a b (first ∷ rest) before = go (with_both a b rest before) (comes_before b first) refl (comes_before a first) refl
  where
    go : with_write a (with_write b rest) ≡ with_write b (with_write a rest)
        → (second : Bool)
        → comes_before b first ≡ second
        → (one : Bool)
        → comes_before a first ≡ one
        → with_write a (if second then b ∷ first ∷ rest else first ∷ with_write b rest) ≡ with_write b (if one then a ∷ first ∷ rest else first ∷ with_write a rest)
    go same true b_first true a_first =
        with_write_ahead a b (first ∷ rest) before
        ∙ (ap (λ (l : List Write). a ∷ l) (sym (with_write_ahead b first rest b_first)) ∙ sym (with_write_behind b a (first ∷ rest) (before_one_way a b before)))
    go same true b_first false a_first = absurd (false≢true (sym a_first ∙ before_trans a b first before b_first))
    go same false b_first true a_first =
        with_write_ahead a first (with_write b rest) a_first
        ∙ (ap (λ (l : List Write). a ∷ l) (sym (with_write_behind b first rest b_first)) ∙ sym (with_write_behind b a (first ∷ rest) (before_one_way a b before)))
    go same false b_first false a_first =
        with_write_behind a first (with_write b rest) a_first
        ∙ (ap (λ (l : List Write). first ∷ l) same ∙ sym (with_write_behind b first (with_write a rest) b_first))

pub with_write_comm : (a b : Write) (writes : List Write)
    → AreApart a b
    → with_write a (with_write b writes) ≡ with_write b (with_write a writes)
with_write_comm a b writes apart =
    ⊎_elim (with_both a b writes) (λ (back : comes_before b a ≡ true). sym (with_both b a writes back)) (before_cases_apart a b apart)

-- One more write, anywhere, apart from those before it: it is put into its place.
pub in_order_middle : (front : List Write) (write : Write) (back : List Write)
    → All (λ earlier. AreApart earlier write) front
    → in_order (front ++ write ∷ back) ≡ with_write write (in_order (front ++ back))
in_order_middle [] write back apart = refl
in_order_middle (first ∷ front) write back apart =
    ap (with_write first) (in_order_middle front write back (All-tail (λ earlier. AreApart earlier write) first front apart))
    ∙ with_write_comm first write (in_order (front ++ back)) (All-head (λ earlier. AreApart earlier write) first front apart)
