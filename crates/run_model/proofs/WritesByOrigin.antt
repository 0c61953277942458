-- Writes that stand by origin, and those of one origin that stand by index.
use Rattle.std.proofs.Common.{◌≡◌, ◌≢◌, ℕ, zero, suc, ◌+◌, ◌-◌, ◌<◌, ◌≤◌, ◌==◌, List, [], ◌∷◌, ◌++◌, length, get_or, take, drop, map, flat_map, All, refl, sym, ap, ap₂, ◌∙◌, subst, arith}
use Rattle.std.specs.List.{range_with_len}
use Rattle.std.proofs.lemmas.List.{append-nil, take_all, length-map, length-drop, get_or-drop, get_or-map, ext_get_or}
use Rattle.std.proofs.lemmas.List.Elements.{All-weaker, All-take, filter-append}
use Rattle.std.proofs.lemmas.List.FromFn.{length-range_with_len, get_or-range_with_len}
use Rattle.tact_base.proofs.ListLemmas.{All-flat_map, All-range, flat_map_agree, take-append}
use Rattle.tact_base.specs.declared.write.Write.{Write}
use Rattle.run_model.specs.Histories.{IsPrefix}
use Rattle.run_model.proofs.OriginWrites.{from_one, from_one-all, from_one-none}
use Rattle.run_model.proofs.PrefixLemmas.{IsPrefix-length, IsPrefix-reads}

-- writes of one origin, and then writes of others, stand by origin if those do
placed-more : (origin start len : ℕ) (ours others : List Write)
    → origin < start
    → All (λ (write : Write). write.origin ≡ origin) ours
    → All (λ (write : Write). write.origin ≢ origin) others
    → others ≡ flat_map (λ o. from_one o others) (range_with_len start len)
    → ours ++ others ≡ from_one origin (ours ++ others) ++ flat_map (λ o. from_one o (ours ++ others)) (range_with_len start len)
placed-more origin start len ours others below are arent placed =
    let here : from_one origin (ours ++ others) ≡ ours =
    filter-append (λ (write : Write). write.origin == origin) ours others
    ∙ ap₂ (λ (xs ys : List Write). xs ++ ys) (from_one-all origin ours are) (from_one-none origin others arent) ∙ append-nil ours in
    let there : flat_map (λ o. from_one o others) (range_with_len start len) ≡ flat_map (λ o. from_one o (ours ++ others)) (range_with_len start len) =
    flat_map_agree (λ o. from_one o others) (λ o. from_one o (ours ++ others)) (range_with_len start len)
    (All-range (λ o. from_one o others ≡ from_one o (ours ++ others)) start len (λ o low high.
    let none : from_one o ours ≡ [] =
    from_one-none o ours (All-weaker (λ (write : Write). write.origin ≡ origin) (λ (write : Write). write.origin ≢ o) (λ write is same. absurd (omega (arith, is, same))) ours are) in
    sym (filter-append (λ (write : Write). write.origin == o) ours others ∙ ap (λ (xs : List Write). xs ++ from_one o others) none))) in
    sym (ap₂ (λ (xs ys : List Write). xs ++ ys) here (sym there ∙ sym placed))

-- a front of lists of one origin each, joined by origin, stands by origin
module _ (writes_of : ℕ → List Write) (each : (origin : ℕ) → All (λ (write : Write). write.origin ≡ origin) (writes_of origin)) where
  joined_from : (start len : ℕ)
      → All (λ (write : Write). start ≤ write.origin) (flat_map writes_of (range_with_len start len))
  joined_from start len =
      All-flat_map (λ (write : Write). start ≤ write.origin) writes_of (range_with_len start len)
      (All-range (λ origin. All (λ (write : Write). start ≤ write.origin) (writes_of origin)) start len
      (λ origin low high. All-weaker (λ (write : Write). write.origin ≡ origin) (λ (write : Write). start ≤ write.origin) (λ write is. omega (arith, is)) (writes_of origin) (each origin)))

  pub front_is_placed : (room start len : ℕ)
      → take room (flat_map writes_of (range_with_len start len)) ≡ flat_map (λ origin. from_one origin (take room (flat_map writes_of (range_with_len start len)))) (range_with_len start len)
  front_is_placed room start zero = take_all room [] (omega arith)
  front_is_placed room start (suc len) =
      let rest = flat_map writes_of (range_with_len (start + 1) len) in
      let ours = take room (writes_of start) in
      let others = take (room - length (writes_of start)) rest in
      subst (λ (writes : List Write). writes ≡ flat_map (λ origin. from_one origin writes) (range_with_len start (suc len))) (sym (take-append room (writes_of start) rest))
      (placed-more start (start + 1) len ours others (omega arith)
      (All-take (λ (write : Write). write.origin ≡ start) room (writes_of start) (each start))
      (All-weaker (λ (write : Write). start + 1 ≤ write.origin) (λ (write : Write). write.origin ≢ start) (λ write later same. absurd (omega (arith, later, same))) others
      (All-take (λ (write : Write). start + 1 ≤ write.origin) (room - length (writes_of start)) rest (joined_from (start + 1) len)))
      (front_is_placed (room - length (writes_of start)) (start + 1) len))

-- a stretch of writes that have their places has the places from its first on
stretch_from : (d : Write) (whole told : List Write) (first : ℕ)
    → ((place : ℕ) (d : Write) → place < length whole → (get_or whole place d).index ≡ place)
    → IsPrefix told (drop first whole)
    → map (λ (write : Write). write.index) told ≡ range_with_len first (length told)
stretch_from d whole told first places prefix =
    let index = λ (write : Write). write.index in
    let few : length told ≤ length whole - first = omega (arith, IsPrefix-length told (drop first whole) prefix, length-drop first whole) in
    let size : length (map index told) ≡ length told = length-map told index in
    ext_get_or 0 (map index told) (range_with_len first (length told)) (size ∙ sym (length-range_with_len first (length told)))
    (λ i within.
    let inside : i < length told = omega (arith, within, size) in
    get_or-map index told i d 0 inside
    ∙ ap index (sym (IsPrefix-reads told (drop first whole) i d prefix inside) ∙ get_or-drop first whole i d)
    ∙ places (first + i) d (omega (arith, inside, few))
    ∙ sym (get_or-range_with_len first (length told) i 0 inside))

pub stretch_has_places : (whole told : List Write) (first : ℕ)
    → ((place : ℕ) (d : Write) → place < length whole → (get_or whole place d).index ≡ place)
    → IsPrefix told (drop first whole)
    → map (λ (write : Write). write.index) told ≡ range_with_len first (length told)
stretch_has_places whole [] first places prefix = refl
stretch_has_places whole (write ∷ told) first places prefix = stretch_from write whole (write ∷ told) first places prefix
