-- Writes in order of which the first were given up, all of them committed: the order, by what is held of it.
use Rattle.std.proofs.Common.{◌≡◌, ℕ, ◌+◌, ◌<◌, ◌≤◌, Bool, true, false, nat_le, nat_lt, List, [], ◌∷◌, ◌++◌, All, length, drop, filter, refl, sym, ap, ◌∙◌, arith}
use Rattle.std.specs.Ordering.{is_lt}
use Rattle.std.specs.List.Sorted.{IsStrictlySortedBy}
use Rattle.std.proofs.lemmas.Bool.{le-leb, le-ltb, lt-ltb}
use Rattle.std.proofs.lemmas.List.{length-append}
use Rattle.std.proofs.lemmas.List.Elements.{All-head, All-weaker, filter-append}
use Rattle.std.proofs.lemmas.List.Sums.{length-filter}
use Rattle.std.proofs.Math.Seq.{drop-append_seam}
use Rattle.tact_base.proofs.CompareLemmas.{before_one_way}
use Rattle.tact_base.proofs.ListLemmas.{filter_all, filter_none}
use Rattle.tact_base.specs.WriteOrder.{write_cmp, write_place, place_cmp, comes_before, committed_to, tentative_past}
use Rattle.tact_base.specs.declared.write.Place.{Place}
use Rattle.tact_base.specs.declared.write.Write.{Write}
use Rattle.commit_order.specs.Batches.{with_writes, first_place}
use Rattle.commit_order.specs.Places.{place_in}
use Rattle.commit_order.proofs.BatchOrder.{with_writes-past}
use Rattle.commit_order.proofs.MergeLemmas.{sorted-drop}

-- a write comes before a place of a later stamp
earlier : (write : Write) (place : Place) → write.stamp < place.stamp → is_lt (place_cmp (write_place write) place) ≡ true
earlier write place lower = rw (lt-ltb write.stamp place.stamp lower) refl

module _ (gone held : List Write) (point : ℕ) (early : All (λ (write : Write). write.stamp ≤ point) gone) where
  -- what is held of it is in order
  pub held-sorted : IsStrictlySortedBy write_cmp (gone ++ held) → IsStrictlySortedBy write_cmp held
  held-sorted sorted = rw (drop-append_seam gone held) at (sorted-drop (length gone) (gone ++ held) sorted)

  -- what was given up is committed, up to this point and each later one
  module _ (later : ℕ) (rises : point ≤ later) where
    pub committed-is : committed_to later (gone ++ held) ≡ gone ++ committed_to later held
    committed-is =
        let p : Write → Bool = λ write. nat_le write.stamp later in
        filter-append p gone held
        ∙ ap (λ (front : List Write). front ++ committed_to later held)
        (filter_all p gone (All-weaker (λ (write : Write). write.stamp ≤ point) (λ (write : Write). p write ≡ true) (λ write h. le-leb write.stamp later (omega (arith, h, rises))) gone early))

    pub committed-length : length (committed_to later (gone ++ held)) ≡ length gone + length (committed_to later held)
    committed-length = ap length committed-is ∙ length-append gone (committed_to later held)

    pub committed-held : drop (length gone) (committed_to later (gone ++ held)) ≡ committed_to later held
    committed-held = ap (drop (length gone)) committed-is ∙ drop-append_seam gone (committed_to later held)

  pub tentative-is : tentative_past point (gone ++ held) ≡ tentative_past point held
  tentative-is =
      let p : Write → Bool = λ write. nat_lt point write.stamp in
      filter-append p gone held
      ∙ ap (λ (front : List Write). front ++ tentative_past point held)
      (filter_none p gone (All-weaker (λ (write : Write). write.stamp ≤ point) (λ (write : Write). p write ≡ false) (λ write h. le-ltb point write.stamp h) gone early))

  -- it comes before what is past the point
  pub place_in-is : (place : Place) → point < place.stamp → place_in (gone ++ held) place ≡ length gone + place_in held place
  place_in-is place past =
      let p : Write → Bool = λ write. is_lt (place_cmp (write_place write) place) in
      let all = filter_all p gone (All-weaker (λ (write : Write). write.stamp ≤ point) (λ (write : Write). p write ≡ true) (λ write h. earlier write place (omega (arith, h, past))) gone early) in
      sym (length-filter p (gone ++ held)) ∙ ap length (filter-append p gone held) ∙ length-append (filter p gone) (filter p held)
      ∙ rw (all, length-filter p held) refl

  pub first_place-is : (writes : List Write)
      → All (λ (write : Write). point < write.stamp) writes
      → first_place (gone ++ held) writes ≡ length gone + first_place held writes
  first_place-is [] past = length-append gone held
  first_place-is (write ∷ writes) past = place_in-is (write_place write) (All-head (λ (write : Write). point < write.stamp) write writes past)

  pub with_writes-is : (writes : List Write)
      → All (λ (write : Write). point < write.stamp) writes
      → with_writes writes (gone ++ held) ≡ gone ++ with_writes writes held
  with_writes-is writes past =
      with_writes-past writes gone held
      (All-weaker (λ (write : Write). point < write.stamp) (λ (write : Write). All (λ other. comes_before write other ≡ false) gone)
      (λ write h. All-weaker (λ (other : Write). other.stamp ≤ point) (λ (other : Write). comes_before write other ≡ false)
      (λ other l. before_one_way other write (earlier other (write_place write) (omega (arith, h, l)))) gone early) writes past)
