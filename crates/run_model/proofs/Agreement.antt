-- What is committed anywhere in a run is a front of all its writes in order.
use Rattle.std.proofs.Common.{◌≡◌, ℕ, ◌+◌, ◌<◌, ◌≤◌, false, nat_le, List, [], ◌++◌, length, get_or, map, filter, flat_map, All, sym, ap, ◌∙◌, subst, inl, inr, ⊎_elim, lt_of_le_of_lt, arith}
use Rattle.std.proofs.lemmas.Bool.{cases_lt, lt-leb}
use Rattle.std.proofs.lemmas.List.{append-nil, length-append, get_or-append-add}
use Rattle.std.proofs.lemmas.List.Elements.{All-weaker, filter-append}
use Rattle.tact_base.proofs.ListLemmas.{All-range, All-from_range, All-from_map, filter_none, filter-flat_map, flat_map_agree}
use Rattle.tact_base.proofs.CoversLemmas.{least_of-is_least}
use Rattle.tact_base.proofs.CommitLemmas.{committed_to-in_order, committed_to_prefix_in_order}
use Rattle.tact_base.specs.WriteOrder.{in_order, committed_to}
use Rattle.tact_base.specs.declared.write.Cover.{Cover}
use Rattle.tact_base.specs.declared.write.Write.{Write}
use Rattle.tact_base.specs.Setup.{Setup, replicas_of}
use Rattle.run_model.specs.Histories.{part_of, IsPrefix}
use Rattle.run_model.specs.OwnWrites.{own}
use Rattle.run_model.specs.Taking.{log_of, cover_of, covers_of}
use Rattle.run_model.specs.Order.{point, committed}
use Rattle.run_model.specs.Reference.{all_writes}
use Rattle.run_model.specs.Runs.{IsRun}
use Rattle.run_model.specs.Promises.{IsAgreed}
use Rattle.run_model.specs.declared.entry.Entry.{Entry}
use Rattle.run_model.proofs.PrefixLemmas.{IsPrefix-trans}
use Rattle.run_model.proofs.Sound.{Vouches, Sound}
use Rattle.run_model.proofs.SoundKeeping.{own-prefix, Vouches-grows}
use Rattle.run_model.proofs.SoundRuns.{Sound-run, Sound-prefix, Grows-run}
use Rattle.run_model.proofs.SoundViews.{Sound-log, Sound-count, Sound-cover}

-- the point is at most the stamp of each cover
pub point-le : (setup : Setup) (replica : ℕ) (part : List Entry) (origin : ℕ)
    → origin < setup.replicas
    → point setup replica part ≤ (cover_of replica part 0 origin).stamp
point-le setup replica part origin within =
    let p = point setup replica part in
    let covers = covers_of setup replica part 0 in
    All-from_range (λ o. p ≤ (cover_of replica part 0 o).stamp) setup.replicas origin
    (All-from_map (λ (cover : Cover). p ≤ cover.stamp) (cover_of replica part 0) (replicas_of setup)
    (All-from_map (λ n. p ≤ n) (λ (cover : Cover). cover.stamp) covers (least_of-is_least (map (λ (cover : Cover). cover.stamp) covers))))
    within

-- A run, a history that it begins with, and a replica.
module _ (setup : Setup) (history : List Entry) (run : IsRun setup history) (front : List Entry) (prefix : IsPrefix front history) (replica : ℕ) where
  abbrev part : List Entry
  part = part_of front replica

  sound : Sound setup front
  sound = Sound-prefix setup front history run prefix

  -- its log of an origin begins what the origin accepts in the whole run, and the cover that it has vouches for all of
  -- that
  log-prefix : (origin : ℕ) → IsPrefix (log_of replica part origin) (own (part_of history origin))
  log-prefix origin =
      IsPrefix-trans (log_of replica part origin) (own (part_of front origin)) (own (part_of history origin)) (Sound-log setup front sound replica origin)
      (own-prefix origin (part_of front origin) (part_of history origin) (Grows-run setup front history run prefix origin))

  cover-vouches : (origin : ℕ) → Vouches (part_of history origin) (cover_of replica part 0 origin)
  cover-vouches origin =
      Vouches-grows origin (part_of front origin) (part_of history origin) (cover_of replica part 0 origin) (Grows-run setup front history run prefix origin)
      (Sound-cover setup front sound replica origin 0 (omega arith))

  -- what the log lacks is above the point
  pub lacking_is_above : (origin : ℕ)
      → origin < setup.replicas
      → (rest : List Write)
      → own (part_of history origin) ≡ log_of replica part origin ++ rest
      → All (λ (write : Write). point setup replica part < write.stamp) rest
  lacking_is_above origin within rest is place d inside =
      let log = log_of replica part origin in
      let at = length log + place in
      let fits : at < length (own (part_of history origin)) = omega (arith, inside, ap length is, length-append log rest) in
      let same : get_or (own (part_of history origin)) at d ≡ get_or rest place d = ap (λ writes. get_or writes at d) is ∙ get_or-append-add log rest place d in
      let index : (get_or rest place d).index ≡ at = sym (ap (λ (write : Write). write.index) same) ∙ ((Sound-run setup history run).own origin).indices at d fits in
      let past : (cover_of replica part 0 origin).count ≤ (get_or rest place d).index = omega (arith, index, Sound-count setup front sound replica origin 0) in
      let later = subst (λ (write : Write). (cover_of replica part 0 origin).count ≤ write.index → ((cover_of replica part 0 origin).stamp < write.stamp)
      × ((cover_of replica part 0 origin).moment ≤ write.moment)) same
      ((cover-vouches origin).later at d fits) in
      lt_of_le_of_lt (point-le setup replica part origin within) (later past).0

  -- up to the point, the log has what the origin accepts in the whole run
  pub committed-of_origin : (origin : ℕ)
      → origin < setup.replicas
      → committed_to (point setup replica part) (log_of replica part origin) ≡ committed_to (point setup replica part) (own (part_of history origin))
  committed-of_origin origin within =
      let p = point setup replica part in
      let test = λ (write : Write). nat_le write.stamp p in
      let (rest, is) = log-prefix origin in
      let above : All (λ (write : Write). p < write.stamp) rest = lacking_is_above origin within rest is in
      let none : filter test rest ≡ [] =
      filter_none test rest (All-weaker (λ (write : Write). p < write.stamp) (λ (write : Write). test write ≡ false) (λ write past. lt-leb write.stamp p past) rest above) in
      sym (ap (filter test) is ∙ filter-append test (log_of replica part origin) rest
      ∙ ap (λ end. filter test (log_of replica part origin) ++ end) none
      ∙ append-nil (filter test (log_of replica part origin)))

  -- What it has committed is what of all writes of the run, in order, is up to its point.
  pub committed-is_front : committed setup replica part ≡ committed_to (point setup replica part) (in_order (all_writes setup history))
  committed-is_front =
      let p = point setup replica part in
      let test = λ (write : Write). nat_le write.stamp p in
      let log = λ (origin : ℕ). log_of replica part origin in
      let whole = λ (origin : ℕ). own (part_of history origin) in
      let same : filter test (flat_map log (replicas_of setup)) ≡ filter test (flat_map whole (replicas_of setup)) =
      filter-flat_map test log (replicas_of setup)
      ∙ flat_map_agree (λ origin. filter test (log origin)) (λ origin. filter test (whole origin)) (replicas_of setup)
      (All-range (λ origin. filter test (log origin) ≡ filter test (whole origin)) 0 setup.replicas (λ origin low high. committed-of_origin origin (omega arith)))
      ∙ sym (filter-flat_map test whole (replicas_of setup)) in
      committed_to-in_order p (flat_map log (replicas_of setup)) ∙ ap in_order same ∙ sym (committed_to-in_order p (flat_map whole (replicas_of setup)))

-- Every run is agreed.
pub IsAgreed-run : (setup : Setup) (history : List Entry)
    → IsRun setup history
    → IsAgreed setup history
IsAgreed-run setup history run first second one other first_prefix second_prefix one_within other_within =
    let all = in_order (all_writes setup history) in
    let p = point setup one (part_of first one) in
    let q = point setup other (part_of second other) in
    let one_is : committed setup one (part_of first one) ≡ committed_to p all = committed-is_front setup history run first first_prefix one in
    let other_is : committed setup other (part_of second other) ≡ committed_to q all = committed-is_front setup history run second second_prefix other in
    ⊎_elim
    (λ (below : p < q).
    let longer = committed_to_prefix_in_order p q (all_writes setup history) (omega arith) in
    inl (longer.0, other_is ∙ longer.1 ∙ ap (λ front. front ++ longer.0) (sym one_is)))
    (λ (above : q ≤ p).
    let longer = committed_to_prefix_in_order q p (all_writes setup history) above in
    inr (longer.0, one_is ∙ longer.1 ∙ ap (λ front. front ++ longer.0) (sym other_is)))
    (cases_lt p q)
