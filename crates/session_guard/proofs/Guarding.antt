-- A replica that has as many writes as a pass asks for: with a stop there the trip stays guarded.
use Rattle.std.proofs.Common.{◌≡◌, ℕ, ◌<◌, ◌≤◌, List, [], ◌∷◌, ◌++◌, length, get_or, All, AllPairs, Contains, Option, None, Some, refl, sym, subst, arith}
use Rattle.std.specs.List.{slice_get}
use Rattle.std.specs.Option.{option_map_or}
use Rattle.std.proofs.lemmas.List.Quantifiers.{all_pairs_push}
use Rattle.std.proofs.Math.ListN.{take}
use Rattle.tact_base.proofs.ElementLemmas.{Contains-none}
use Rattle.tact_base.specs.Setup.{Setup}
use Rattle.tact_base.specs.declared.write.Write.{Write}
use Rattle.run_model.specs.Histories.{part_of}
use Rattle.run_model.specs.Order.{seen}
use Rattle.run_model.specs.Runs.{IsDue, IsRun}
use Rattle.run_model.specs.Taking.{have}
use Rattle.run_model.specs.declared.entry.Entry.{Entry}
use Rattle.run_model.proofs.Accepted.{accepted_is_next}
use Rattle.run_model.proofs.PrefixLemmas.{IsPrefix-refl, IsPrefix-take}
use Rattle.replica_network.proofs.Longer.{longer}
use Rattle.session_guard.proofs.Positions.{ReadsAt-same, WritesAt-last, WritesAt-same, entry_written, seen_before-last, seen_before-same}
use Rattle.session_guard.proofs.SeenWrites.{accepted_stands, seen_has, seen_stamps, seen_stands}
use Rattle.session_guard.specs.Carried.{IsCarried}
use Rattle.session_guard.specs.Guards.{IsGuarded, ReadsAt, ReadsMonotonically, ReadsYourWrites, WritesAt, WritesFollowReads, WritesMonotonically, seen_before}
use Rattle.session_guard.specs.Passes.{PassState, wanted}

-- every two positions of a trip keep what they kept, when the history grows
module _ (setup : Setup) (history : List Entry) (entry : Entry) (trip : List ℕ) (within : All (λ position. position < length history) trip) where
  module _ (first second : ℕ) (at_first : first < length history) (at_second : second < length history) where
    ReadsYourWrites-same : ReadsYourWrites setup history first second → ReadsYourWrites setup (longer history entry) first second
    ReadsYourWrites-same kept write writes reads =
        subst (λ (ws : List Write). Contains ws write) (sym (seen_before-same history entry second at_second setup))
        (kept write (WritesAt-same history entry first at_first write writes) (ReadsAt-same history entry second at_second reads))

    ReadsMonotonically-same : ReadsMonotonically setup history first second → ReadsMonotonically setup (longer history entry) first second
    ReadsMonotonically-same kept write reads later saw =
        subst (λ (ws : List Write). Contains ws write) (sym (seen_before-same history entry second at_second setup))
        (kept write (ReadsAt-same history entry first at_first reads) (ReadsAt-same history entry second at_second later)
        (subst (λ (ws : List Write). Contains ws write) (seen_before-same history entry first at_first setup) saw))

    WritesMonotonically-same : WritesMonotonically history first second → WritesMonotonically (longer history entry) first second
    WritesMonotonically-same kept write later writes then =
        kept write later (WritesAt-same history entry first at_first write writes) (WritesAt-same history entry second at_second later then)

    WritesFollowReads-same : WritesFollowReads setup history first second → WritesFollowReads setup (longer history entry) first second
    WritesFollowReads-same kept write later reads saw then =
        kept write later (ReadsAt-same history entry first at_first reads)
        (subst (λ (ws : List Write). Contains ws write) (seen_before-same history entry first at_first setup) saw)
        (WritesAt-same history entry second at_second later then)

  -- of a relation of positions
  all_same : (R S : ℕ → ℕ → Type 0)
      → ((first second : ℕ) → first < length history → second < length history → R first second → S first second)
      → AllPairs R trip
      → AllPairs S trip
  all_same R S same all i j d less inside =
      same (get_or trip i d) (get_or trip j d) (within i d (omega (arith, less, inside))) (within j d inside) (all i j d less inside)

  pub IsGuarded-same : IsGuarded setup history trip → IsGuarded setup (longer history entry) trip
  IsGuarded-same kept = record {
    read_your_writes = all_same (ReadsYourWrites setup history) (ReadsYourWrites setup (longer history entry)) ReadsYourWrites-same kept.read_your_writes;
    monotonic_reads = all_same (ReadsMonotonically setup history) (ReadsMonotonically setup (longer history entry)) ReadsMonotonically-same kept.monotonic_reads;
    monotonic_writes = all_same (WritesMonotonically history) (WritesMonotonically (longer history entry)) WritesMonotonically-same kept.monotonic_writes;
    writes_follow_reads = all_same (WritesFollowReads setup history) (WritesFollowReads setup (longer history entry)) WritesFollowReads-same kept.writes_follow_reads;
  }

-- A run, and the entry that a replica makes next, which has as many writes as a pass of a trip asks for.
module _ (setup : Setup) (history : List Entry) (run : IsRun setup history) (entry : Entry) (due : IsDue setup (part_of history entry.replica) entry)
    (pass : PassState) (trip : List ℕ) (carried : IsCarried setup history pass trip)
    (enough : (origin : ℕ) → origin < setup.replicas → wanted pass origin ≤ have entry.replica (part_of history entry.replica) origin) where
  abbrev here : List Write
  here = seen setup entry.replica (part_of history entry.replica)

  -- it has seen each write of the trip
  sees_written : (place default : ℕ) (write : Write)
      → place < length trip
      → WritesAt history (get_or trip place default) write
      → Contains here write
  sees_written place default write inside writes =
      let found = entry_written history (get_or trip place default) write writes in
      let stands = accepted_stands setup history run found.0 write found.1 found.2 in
      let counted = carried.writes place default inside write writes in
      seen_has setup history run history entry.replica write.origin write.index write (IsPrefix-refl history) counted.0
      (omega (arith, counted.1, enough write.origin counted.0)) stands.1

  -- and all that was seen where it read
  sees_read : (place default : ℕ) (write : Write)
      → place < length trip
      → ReadsAt history (get_or trip place default)
      → Contains (seen_before setup history (get_or trip place default)) write
      → Contains here write
  sees_read place default write inside reads saw =
      go (slice_get history (get_or trip place default)) refl saw (carried.reads place default inside reads)
    where
      go : (there : Option Entry)
          → slice_get history (get_or trip place default) ≡ there
          → Contains (option_map_or (λ (e : Entry). seen setup e.replica (part_of (take (get_or trip place default) history) e.replica)) there []) write
          → ((origin : ℕ) → origin < setup.replicas
          → option_map_or (λ (e : Entry). have e.replica (part_of (take (get_or trip place default) history) e.replica) origin) there 0 ≤ get_or pass.reads origin 0)
          → Contains here write
      go None none saw most = absurd (Contains-none write saw)
      go (Some e) some saw most =
          let front = take (get_or trip place default) history in
          let stands = seen_stands setup history run front e.replica write (IsPrefix-take (get_or trip place default) history) saw in
          let origin = stands.0 in
          let among = stands.1 in
          seen_has setup history run history entry.replica origin stands.2 write (IsPrefix-refl history) among
          (omega (arith, stands.3, most origin among, enough origin among)) stands.4

  -- so the trip with a stop at this entry is guarded
  abbrev stop : ℕ
  stop = length history

  here_at_stop : (write : Write) → Contains here write → Contains (seen_before setup (longer history entry) stop) write
  here_at_stop write found = subst (λ (ws : List Write). Contains ws write) (sym (seen_before-last history entry setup)) found

  later_than_seen : (write later : Write)
      → Contains here write
      → WritesAt (longer history entry) stop later
      → write.stamp < later.stamp
  later_than_seen write later found writes =
      let next = accepted_is_next setup (part_of history entry.replica) entry later due (WritesAt-last history entry later writes) in
      omega (arith, seen_stamps setup history run entry.replica write found, next.stamp)

  module _ (place default : ℕ) (inside : place < length trip) where
    at_within : get_or trip place default < length history
    at_within = carried.within place default inside

    pub reads_your : ReadsYourWrites setup (longer history entry) (get_or trip place default) stop
    reads_your write writes reads =
        here_at_stop write (sees_written place default write inside (WritesAt-same history entry (get_or trip place default) at_within write writes))

    pub reads_monotonically : ReadsMonotonically setup (longer history entry) (get_or trip place default) stop
    reads_monotonically write reads later saw =
        here_at_stop write (sees_read place default write inside (ReadsAt-same history entry (get_or trip place default) at_within reads)
        (subst (λ (ws : List Write). Contains ws write) (seen_before-same history entry (get_or trip place default) at_within setup) saw))

    pub writes_monotonically : WritesMonotonically (longer history entry) (get_or trip place default) stop
    writes_monotonically write later writes then =
        later_than_seen write later (sees_written place default write inside (WritesAt-same history entry (get_or trip place default) at_within write writes)) then

    pub writes_follow : WritesFollowReads setup (longer history entry) (get_or trip place default) stop
    writes_follow write later reads saw then =
        later_than_seen write later
        (sees_read place default write inside (ReadsAt-same history entry (get_or trip place default) at_within reads)
        (subst (λ (ws : List Write). Contains ws write) (seen_before-same history entry (get_or trip place default) at_within setup) saw)) then

  pub IsGuarded-stop : IsGuarded setup (longer history entry) (trip ++ stop ∷ [])
  IsGuarded-stop =
      let kept = IsGuarded-same setup history entry trip carried.within carried.guarded in
      record {
        read_your_writes = all_pairs_push (ReadsYourWrites setup (longer history entry)) trip stop kept.read_your_writes reads_your;
        monotonic_reads = all_pairs_push (ReadsMonotonically setup (longer history entry)) trip stop kept.monotonic_reads reads_monotonically;
        monotonic_writes = all_pairs_push (WritesMonotonically (longer history entry)) trip stop kept.monotonic_writes writes_monotonically;
        writes_follow_reads = all_pairs_push (WritesFollowReads setup (longer history entry)) trip stop kept.writes_follow_reads writes_follow;
      }
