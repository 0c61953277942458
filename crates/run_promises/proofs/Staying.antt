-- What stays in a run: the point and what is committed, and the state that a replica has of the same writes.
use Rattle.std.proofs.Common.{◌≡◌, ℕ, ◌<◌, ◌≤◌, ◌==◌, Bool, true, false, cond, nat_le, List, [], ◌∷◌, ◌++◌, length, flat_map, Option, None, Some, refl, sym, ap, ◌∙◌, le_of_eq, le_trans, arith}
use Rattle.std.proofs.lemmas.List.{append-nil, append_assoc, length-map}
use Rattle.std.proofs.lemmas.List.FromFn.{length-range_with_len}
use Rattle.std.proofs.lemmas.List.Elements.{filter-append}
use Rattle.tact_base.proofs.CommitLemmas.{committed_to_prefix_in_order}
use Rattle.tact_base.proofs.CoversLemmas.{later_cover-stamp, least_stamp-ge}
use Rattle.tact_base.proofs.ListLemmas.{from_right, All-range, flat_map_agree, get_or-map_range}
use Rattle.tact_base.proofs.OrderSums.{net_sum-in_order}
use Rattle.tact_base.specs.Covers.{no_cover, later_cover, cover_after}
use Rattle.tact_base.specs.Images.{image_of, ops_of}
use Rattle.tact_base.specs.Setup.{Setup, replicas_of}
use Rattle.tact_base.specs.Sums.{net_sum}
use Rattle.tact_base.specs.WriteOrder.{in_order}
use Rattle.tact_base.specs.declared.write.Cover.{Cover}
use Rattle.tact_base.specs.declared.write.Write.{Write}
use Rattle.run_model.specs.Histories.{part_of, IsPrefix}
use Rattle.run_model.specs.Order.{point, committed, seen, value}
use Rattle.run_model.specs.OwnWrites.{own}
use Rattle.run_model.specs.Reference.{all_writes, reference}
use Rattle.run_model.specs.Runs.{IsRun}
use Rattle.run_model.specs.Taking.{OriginState, origin_state, log_of, have, clock, cover_of, covers_of}
use Rattle.run_model.specs.declared.entry.Entry.{Entry}
use Rattle.run_model.specs.declared.entry.Message.{Message}
use Rattle.run_model.proofs.Agreement.{point-le, committed-is_front}
use Rattle.run_model.proofs.ClockLemmas.{clock-le-push}
use Rattle.run_model.proofs.PartLemmas.{taken_by, origin_state-push_none, origin_state-push_some}
use Rattle.run_model.proofs.PrefixLemmas.{IsPrefix-trans, IsPrefix-refl}
use Rattle.run_model.proofs.SoundKeeping.{own-prefix}
use Rattle.run_model.proofs.SoundRuns.{Sound-prefix, Grows-run}
use Rattle.run_model.proofs.SoundViews.{Sound-log}
use Rattle.run_promises.specs.Conclusions.{HaveAsMany, IsSameState, HasAll}

-- a cover after a told one has no lesser stamp
cover_after-stamp : (have : ℕ) (kept told : Cover)
    → kept.stamp ≤ (cover_after have kept told).stamp
cover_after-stamp have kept told = go (nat_le told.count have)
  where
    go : (fits : Bool) → kept.stamp ≤ (let after : Cover = cond fits (later_cover kept told) kept in after).stamp
    go true = later_cover-stamp kept told
    go false = omega arith

-- One more entry of a part lessens no stamp of a cover.
module _ (replica : ℕ) (part : List Entry) (entry : Entry) (origin : ℕ) where
  kept-stamp-push : (origin_state part origin).cover.stamp ≤ (origin_state (part ++ entry ∷ []) origin).cover.stamp
  kept-stamp-push = go (taken_by entry) refl
    where
      stamp : OriginState → ℕ
      stamp kept = kept.cover.stamp

      go : (taken : Option Message)
          → taken_by entry ≡ taken
          → (origin_state part origin).cover.stamp ≤ (origin_state (part ++ entry ∷ []) origin).cover.stamp
      go None none = le_of_eq (ap (λ (kept : OriginState). kept.cover.stamp) (sym (origin_state-push_none part entry origin none)))
      go (Some message) some =
          le_trans (cover_after-stamp _ (origin_state part origin).cover _)
          (le_of_eq (ap (λ (kept : OriginState). kept.cover.stamp) (sym (origin_state-push_some part entry origin message some))))

  cover_of-stamp-push : (cover_of replica part 0 origin).stamp ≤ (cover_of replica (part ++ entry ∷ []) 0 origin).stamp
  cover_of-stamp-push = go (origin == replica)
    where
      own_cover : List Entry → Cover
      own_cover part = record { count = length (own part); stamp = clock part; moment = 0 }

      go : (same : Bool)
          → (let c : Cover = cond same (record { count = length (own part); stamp = clock part; moment = 0 }) (origin_state part origin).cover in c).stamp
          ≤ (let c : Cover = cond same (record { count = length (own (part ++ entry ∷ [])); stamp = clock (part ++ entry ∷ []); moment = 0 })
          (origin_state (part ++ entry ∷ []) origin).cover in c).stamp
      go true = clock-le-push part entry
      go false = kept-stamp-push

-- so a part that goes on has no lesser point
point-onward : (setup : Setup) (replica : ℕ) (part rest : List Entry)
    → 0 < setup.replicas
    → point setup replica part ≤ point setup replica (part ++ rest)
point-onward setup replica part rest some =
    least_stamp-ge (point setup replica part) (covers_of setup replica (part ++ rest) 0) no_cover
    (omega (arith, size))
    (λ origin within.
    let inside : origin < setup.replicas = omega (arith, size, within) in
    let reads = get_or-map_range (cover_of replica (part ++ rest) 0) setup.replicas origin no_cover inside in
    omega (arith, point-le setup replica part origin inside, stamps origin rest, ap (λ (cover : Cover). cover.stamp) reads))
  where
    size : length (covers_of setup replica (part ++ rest) 0) ≡ setup.replicas
    size = length-map (replicas_of setup) (cover_of replica (part ++ rest) 0) ∙ length-range_with_len 0 setup.replicas

    stamps : (origin : ℕ) (rest : List Entry)
        → (cover_of replica part 0 origin).stamp ≤ (cover_of replica (part ++ rest) 0 origin).stamp
    stamps origin =
        from_right (λ rest. (cover_of replica part 0 origin).stamp ≤ (cover_of replica (part ++ rest) 0 origin).stamp)
        (rw append-nil (omega arith))
        (λ rest entry less. rw (← append_assoc) (le_trans less (cover_of-stamp-push replica (part ++ rest) entry origin)))

-- What is committed stays committed.
pub committed-stays : (setup : Setup) (history early late : List Entry) (replica : ℕ)
    → IsRun setup history
    → IsPrefix late history
    → IsPrefix early late
    → replica < setup.replicas
    → IsPrefix (committed setup replica (part_of early replica)) (committed setup replica (part_of late replica))
committed-stays setup history early late replica run late_prefix (rest, is) within =
    let all = all_writes setup history in
    let p = point setup replica (part_of early replica) in
    let q = point setup replica (part_of late replica) in
    let early_prefix = IsPrefix-trans early late history (rest, is) late_prefix in
    let parts : part_of late replica ≡ part_of early replica ++ part_of rest replica =
    ap (λ (whole : List Entry). part_of whole replica) is ∙ filter-append (λ (entry : Entry). entry.replica == replica) early rest in
    let less : p ≤ q = omega (arith, point-onward setup replica (part_of early replica) (part_of rest replica) (omega arith), ap (point setup replica) parts) in
    let longer = committed_to_prefix_in_order p q all less in
    let early_is = committed-is_front setup history run early early_prefix replica in
    let late_is = committed-is_front setup history run late late_prefix replica in
    (longer.0, late_is ∙ longer.1 ∙ ap (λ front. front ++ longer.0) (sym early_is))

-- two prefixes of one list that are as long are the same
IsPrefix-as_long : {A : Type 0} (xs ys zs : List A)
    → IsPrefix xs zs
    → IsPrefix ys zs
    → length xs ≡ length ys
    → xs ≡ ys
IsPrefix-as_long [] [] zs one other same = refl
IsPrefix-as_long [] (y ∷ ys) zs one other same = absurd (omega arith)
IsPrefix-as_long (x ∷ xs) [] zs one other same = absurd (omega arith)
IsPrefix-as_long (x ∷ xs) (y ∷ ys) [] (rest, is) other same = cc
IsPrefix-as_long (x ∷ xs) (y ∷ ys) (z ∷ zs) (rest, is) (rest', is') same =
    let first : x ≡ y = cc in
    let tail : zs ≡ xs ++ rest = cc in
    let tail' : zs ≡ ys ++ rest' = cc in
    rw (first, IsPrefix-as_long xs ys zs (rest, tail) (rest', tail') (omega arith)) refl

-- A run, and a history that it begins with: the log that a replica has there of an origin begins what the origin
-- accepts in the run.
log-begins : (setup : Setup) (history front : List Entry) (replica origin : ℕ)
    → IsRun setup history
    → IsPrefix front history
    → IsPrefix (log_of replica (part_of front replica) origin) (own (part_of history origin))
log-begins setup history front replica origin run prefix =
    IsPrefix-trans (log_of replica (part_of front replica) origin) (own (part_of front origin)) (own (part_of history origin))
    (Sound-log setup front (Sound-prefix setup front history run prefix) replica origin)
    (own-prefix origin (part_of front origin) (part_of history origin) (Grows-run setup front history run prefix origin))

-- The same writes, in the same order.
pub seen-same : (setup : Setup) (history first second : List Entry) (one other : ℕ)
    → IsRun setup history
    → IsPrefix first history
    → IsPrefix second history
    → HaveAsMany setup one (part_of first one) other (part_of second other)
    → seen setup one (part_of first one) ≡ seen setup other (part_of second other)
seen-same setup history first second one other run first_prefix second_prefix as_many =
    ap in_order
    (flat_map_agree (log_of one (part_of first one)) (log_of other (part_of second other)) (replicas_of setup)
    (All-range (λ origin. log_of one (part_of first one) origin ≡ log_of other (part_of second other) origin) 0 setup.replicas
    (λ origin low high.
    IsPrefix-as_long (log_of one (part_of first one) origin) (log_of other (part_of second other) origin) (own (part_of history origin))
    (log-begins setup history first one origin run first_prefix) (log-begins setup history second other origin run second_prefix)
    (as_many origin (omega (arith, high))))))

pub IsSameState-from : (setup : Setup) (history first second : List Entry) (one other : ℕ)
    → IsRun setup history
    → IsPrefix first history
    → IsPrefix second history
    → HaveAsMany setup one (part_of first one) other (part_of second other)
    → IsSameState setup one (part_of first one) other (part_of second other)
IsSameState-from setup history first second one other run first_prefix second_prefix as_many =
    let same = seen-same setup history first second one other run first_prefix second_prefix as_many in
    record {
      seen = same;
      values = λ conit. ap (λ (writes : List Write). net_sum writes conit) same;
      image = ap (λ (writes : List Write). image_of (ops_of writes)) same;
    }

-- Who has all writes has the reference values.
pub value-of_all : (setup : Setup) (history : List Entry) (replica conit : ℕ)
    → IsRun setup history
    → HasAll setup history replica
    → value setup replica (part_of history replica) conit ≡ reference setup history conit
value-of_all setup history replica conit run all =
    let logs : flat_map (log_of replica (part_of history replica)) (replicas_of setup) ≡ all_writes setup history =
    flat_map_agree (log_of replica (part_of history replica)) (λ origin. own (part_of history origin)) (replicas_of setup)
    (All-range (λ origin. log_of replica (part_of history replica) origin ≡ own (part_of history origin)) 0 setup.replicas
    (λ origin low high.
    IsPrefix-as_long (log_of replica (part_of history replica) origin) (own (part_of history origin)) (own (part_of history origin))
    (log-begins setup history history replica origin run (IsPrefix-refl history)) (IsPrefix-refl (own (part_of history origin)))
    (all origin (omega (arith, high))))) in
    net_sum-in_order (flat_map (log_of replica (part_of history replica)) (replicas_of setup)) conit
    ∙ ap (λ (writes : List Write). net_sum writes conit) logs
