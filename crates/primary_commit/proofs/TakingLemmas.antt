-- Items that come to logs, one after another.
use Rattle.std.proofs.Common.{◌≡◌, ◌==◌, ◌&&◌, ℕ, zero, suc, ◌+◌, ◌-◌, ◌<◌, ◌≤◌, Bool, true, false, nat_le, List, [], ◌∷◌, ◌++◌, drop, filter, flat_map, get_or, if◌then◌else◌, length, map, take, refl, sym, ap, ap₂, ◌∙◌, add-zero, subst, ⊎_elim, arith}
use Rattle.std.proofs.lemmas.Bool.{cases_lt}
use Rattle.std.proofs.lemmas.Bool.Decides.{eqb_tells}
use Rattle.std.proofs.lemmas.List.{get_or_append_left, get_or_push, append-nil, append_assoc, drop-append-le, drop_all, length-append, length-drop, map-append, take-append-drop, take_more}
use Rattle.std.proofs.lemmas.List.Elements.{filter-append}
use Rattle.std.proofs.Math.Seq.{get_or-append_seam}
use Rattle.std.specs.List.{range_with_len}
use Rattle.tact_base.proofs.RangeLists.{flat_map_range_more}
use Rattle.primary_commit.specs.Peers.{AreNext, pick_of}
use Rattle.primary_commit.specs.declared.items.Pick.{Pick}
use Rattle.primary_commit.specs.Kept.{log_after}
use Rattle.primary_commit.specs.declared.items.Item.{Item}

-- the items of an origin
abbrev pub of_origin : ℕ → List Item → List Item
of_origin origin items = filter (λ (item : Item). item.origin == origin) items

-- a log with an item, if it is the next one there
abbrev pub with_item : List Item → Item → List Item
with_item log item = if item.index == length log then log ++ item ∷ [] else log

-- An item behind others of its origin.
module _ (log : List Item) (first : ℕ) (items : List Item) (item : Item) (is : item.index ≡ first + length items) where
  gap : length log < first → with_item (log_after log first items) item ≡ log_after log first (items ++ item ∷ [])
  gap high =
      let past : nat_le first (length log) ≡ false = grind (arith, high) in
      let far : (item.index == length (log ++ [])) ≡ false = grind (arith, is, high, length-append log []) in
      rw (past, far) refl

  reaches : first ≤ length log → length log - first ≤ length items → with_item (log_after log first items) item ≡ log_after log first (items ++ item ∷ [])
  reaches low enough =
      let within : nat_le first (length log) ≡ true = grind (arith, low) in
      let more : drop (length log - first) (items ++ item ∷ []) ≡ drop (length log - first) items ++ item ∷ [] = drop-append-le (length log - first) items (item ∷ []) enough in
      let next : (item.index == length (log ++ drop (length log - first) items)) ≡ true =
      grind (arith, is, low, enough, length-append log (drop (length log - first) items), length-drop (length log - first) items) in
      rw (within, next, more) (append_assoc log (drop (length log - first) items) (item ∷ []))

  short : first ≤ length log → length items < length log - first → with_item (log_after log first items) item ≡ log_after log first (items ++ item ∷ [])
  short low few =
      let within : nat_le first (length log) ≡ true = grind (arith, low) in
      let none : drop (length log - first) items ≡ [] = drop_all (length log - first) items (omega (arith, few)) in
      let more : drop (length log - first) (items ++ item ∷ []) ≡ [] = drop_all (length log - first) (items ++ item ∷ []) (omega (arith, few, length-append items (item ∷ []))) in
      let near : (item.index == length (log ++ [])) ≡ false = grind (arith, is, low, few, length-append log []) in
      rw (within, more, none, near) refl

  pub log_after-more : with_item (log_after log first items) item ≡ log_after log first (items ++ item ∷ [])
  log_after-more =
      ⊎_elim gap (λ low. ⊎_elim (short low) (reaches low) (cases_lt (length items) (length log - first))) (cases_lt (length log) first)

-- The item at a place of items that are in order.
module _ (firsts : List ℕ) (items : List Item) (next : AreNext firsts items) (k : ℕ) (d : Item) (within : k < length items) where
  abbrev item : Item
  item = get_or items k d

  whole : items ≡ take k items ++ item ∷ drop (k + 1) items
  whole = sym (take-append-drop (k + 1) items) ∙ ap (λ (front : List Item). front ++ drop (k + 1) items) (take_more items k d within) ∙ append_assoc (take k items) (item ∷ []) (drop (k + 1) items)

  own : item.origin == item.origin ≡ true
  own = grind arith

  filtered : of_origin item.origin items ≡ of_origin item.origin (take k items) ++ item ∷ of_origin item.origin (drop (k + 1) items)
  filtered =
      ap (of_origin item.origin) whole ∙ filter-append (λ (i : Item). i.origin == item.origin) (take k items) (item ∷ drop (k + 1) items)
      ∙ ap (λ (b : Bool). of_origin item.origin (take k items) ++ (if b then item ∷ of_origin item.origin (drop (k + 1) items) else of_origin item.origin (drop (k + 1) items))) own

  pub index_is : item.index ≡ get_or firsts item.origin 0 + length (of_origin item.origin (take k items))
  index_is =
      let at = length (of_origin item.origin (take k items)) in
      let here : get_or (of_origin item.origin items) at d ≡ item =
      ap (λ (is : List Item). get_or is at d) filtered ∙ get_or-append_seam (of_origin item.origin (take k items)) item (of_origin item.origin (drop (k + 1) items)) d in
      let inside : at < length (of_origin item.origin items) =
      omega (arith, ap length filtered, length-append (of_origin item.origin (take k items)) (item ∷ of_origin item.origin (drop (k + 1) items))) in
      ap (λ (i : Item). i.index) (sym here) ∙ next item.origin at d inside

  longer : (origin : ℕ) → of_origin origin (take (k + 1) items)
      ≡ of_origin origin (take k items) ++ (if item.origin == origin then item ∷ [] else [])
  longer origin = ap (of_origin origin) (take_more items k d within) ∙ filter-append (λ (i : Item). i.origin == origin) (take k items) (item ∷ [])

  pub log_after-step : (origin : ℕ) (old log new : List Item)
      → log ≡ log_after old (get_or firsts origin 0) (of_origin origin (take k items))
      → new ≡ (if item.origin == origin && item.index == length log then log ++ item ∷ [] else log)
      → new ≡ log_after old (get_or firsts origin 0) (of_origin origin (take (k + 1) items))
  log_after-step origin old log new was is =
      let front = of_origin origin (take k items) in
      let first = get_or firsts origin 0 in
      ⊎_elim
      (λ same.
      let added : new ≡ with_item log item = is ∙ ap (λ (b : Bool). if b && item.index == length log then log ++ item ∷ [] else log) same.0 in
      let index : item.index ≡ first + length front =
      subst (λ (o : ℕ). item.index ≡ get_or firsts o 0 + length (of_origin o (take k items))) same.1 index_is in
      let more : of_origin origin (take (k + 1) items) ≡ front ++ item ∷ [] =
      longer origin ∙ ap (λ (b : Bool). front ++ (if b then item ∷ [] else [])) same.0 in
      added ∙ ap (λ (l : List Item). with_item l item) was ∙ log_after-more old first front item index
      ∙ ap (log_after old first) (sym more))
      (λ other.
      let kept : new ≡ log = is ∙ ap (λ (b : Bool). if b && item.index == length log then log ++ item ∷ [] else log) other.0 in
      let more : of_origin origin (take (k + 1) items) ≡ front =
      longer origin ∙ ap (λ (b : Bool). front ++ (if b then item ∷ [] else [])) other.0 ∙ append-nil front in
      kept ∙ was ∙ ap (log_after old first) (sym more))
      (eqb_tells item.origin origin)

-- one more item, the next of its origin
pub AreNext-push : (firsts : List ℕ) (items : List Item) (item : Item)
    → AreNext firsts items
    → item.index ≡ get_or firsts item.origin 0 + length (of_origin item.origin items)
    → AreNext firsts (items ++ item ∷ [])
AreNext-push firsts items item next is origin index none within =
    let front = of_origin origin items in
    let more : of_origin origin (items ++ item ∷ []) ≡ front ++ (if item.origin == origin then item ∷ [] else []) =
    filter-append (λ (i : Item). i.origin == origin) items (item ∷ []) in
    ⊎_elim
    (λ same.
    let longer : of_origin origin (items ++ item ∷ []) ≡ front ++ item ∷ [] = more ∙ ap (λ (b : Bool). front ++ (if b then item ∷ [] else [])) same.0 in
    let here : get_or (of_origin origin (items ++ item ∷ [])) index none ≡ get_or (front ++ item ∷ []) index none = ap (λ (is : List Item). get_or is index none) longer in
    ⊎_elim
    (λ low.
    ap (λ (i : Item). i.index) (here ∙ get_or_append_left front (item ∷ []) none index low) ∙ next origin index none low)
    (λ high.
    let last : index ≡ length front = omega (arith, high, within, ap length longer, length-append front (item ∷ [])) in
    let at : get_or (front ++ item ∷ []) index none ≡ item = get_or_push front item none index (sym last) in
    ap (λ (i : Item). i.index) (here ∙ at)
    ∙ subst (λ (o : ℕ). item.index ≡ get_or firsts o 0 + length (of_origin o items)) same.1 is
    ∙ ap (λ (n : ℕ). get_or firsts origin 0 + n) (sym last))
    (cases_lt index (length front)))
    (λ other.
    let same : of_origin origin (items ++ item ∷ []) ≡ front = more ∙ ap (λ (b : Bool). front ++ (if b then item ∷ [] else [])) other.0 ∙ append-nil front in
    ap (λ (is : List Item). (get_or is index none).index) same ∙ next origin index none (omega (arith, within, ap length same)))
    (eqb_tells item.origin origin)

-- what the test of an item tells of those up to it
module _ (firsts : List ℕ) (items : List Item) (k : ℕ) (d : Item) (within : k < length items) where
  abbrev last : Item
  last = get_or items k d

  abbrev right : ℕ
  right = get_or firsts last.origin 0 + length (of_origin last.origin (take k items))

  pub not_next : false ≡ (last.index == right) → AreNext firsts items → ⊥
  not_next wrong next =
      let is : last.index ≡ right = index_is firsts items next k d within in
      grind (arith, wrong, is)

  pub AreNext-step : AreNext firsts (take k items) → true ≡ (last.index == right) → AreNext firsts (take (k + 1) items)
  AreNext-step next is =
      let here : last.index ≡ right = grind (arith, is) in
      subst (AreNext firsts) (sym (take_more items k d within)) (AreNext-push firsts (take k items) last next here)

-- what joined lists give for one more number
pub numbered_more : (f : ℕ → List Item) (n : ℕ) (start before after : List Pick) (items : List Item)
    → before ≡ start ++ map pick_of (flat_map f (range_with_len 0 n))
    → after ≡ before ++ map pick_of items
    → items ≡ f n
    → after ≡ start ++ map pick_of (flat_map f (range_with_len 0 (n + 1)))
numbered_more f n start before after items was grew is =
    grew ∙ ap₂ (λ (front : List Pick) (is : List Item). front ++ map pick_of is) was is
    ∙ append_assoc start (map pick_of (flat_map f (range_with_len 0 n))) (map pick_of (f n))
    ∙ ap (λ (picks : List Pick). start ++ picks)
    (sym (map-append pick_of (flat_map f (range_with_len 0 n)) (f n)) ∙ ap (map pick_of) (sym (flat_map_range_more f n)))

-- and they are as many as before, or more
pub joined_rises : {X : Type 0} (f : ℕ → List X) (n more : ℕ) → length (flat_map f (range_with_len 0 n)) ≤ length (flat_map f (range_with_len 0 (n + more)))
joined_rises f n zero = omega (arith, ap (λ (k : ℕ). length (flat_map f (range_with_len 0 k))) (add-zero n))
joined_rises f n (suc more) =
    let e : n + suc more ≡ (n + more) + 1 = omega arith in
    omega (
      arith,
      joined_rises f n more,
      ap (λ (k : ℕ). length (flat_map f (range_with_len 0 k))) e,
      ap length (flat_map_range_more f (n + more)),
      length-append (flat_map f (range_with_len 0 (n + more))) (f (n + more)),
    )

pub joined_step : {X : Type 0} (f : ℕ → List X) (n all : ℕ) (next : List X) → n < all → next ≡ f n
    → length (flat_map f (range_with_len 0 n)) + length next ≤ length (flat_map f (range_with_len 0 all))
joined_step f n all next within is =
    let e : (n + 1) + (all - (n + 1)) ≡ all = omega (arith, within) in
    omega (
      arith,
      ap length is,
      joined_rises f (n + 1) (all - (n + 1)),
      ap (λ (k : ℕ). length (flat_map f (range_with_len 0 k))) e,
      ap length (flat_map_range_more f n),
      length-append (flat_map f (range_with_len 0 n)) (f n),
    )

pub joined_last : {X : Type 0} (f : ℕ → List X) (n : ℕ) (next : List X) → next ≡ f n
    → length (flat_map f (range_with_len 0 (n + 1))) ≡ length (flat_map f (range_with_len 0 n)) + length next
joined_last f n next is =
    omega (arith, ap length is, ap length (flat_map_range_more f n), length-append (flat_map f (range_with_len 0 n)) (f n))
