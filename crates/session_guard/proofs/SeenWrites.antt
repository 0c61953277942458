-- The writes that a replica has seen in a run: of each origin the first that it accepted, as many as the replica has.
use Rattle.std.proofs.Common.{◌≡◌, ℕ, ◌<◌, ◌≤◌, ◌==◌, List, length, get_or, flat_map, Contains, Some, refl, sym, ap, ◌∙◌, subst, zero-add, arith}
use Rattle.std.specs.List.{range_with_len}
use Rattle.std.proofs.lemmas.Bool.{eq-eqb}
use Rattle.std.proofs.lemmas.List.Elements.{All-contains}
use Rattle.std.proofs.lemmas.List.FromFn.{get_or-range_with_len, length-range_with_len}
use Rattle.tact_base.proofs.ElementLemmas.{Contains-filter, Contains-flat_map, Contains-from_flat_map}
use Rattle.tact_base.proofs.ListLemmas.{All-range}
use Rattle.tact_base.proofs.OrderLemmas.{Contains-from_in_order, Contains-in_order}
use Rattle.tact_base.specs.Setup.{Setup, replicas_of}
use Rattle.tact_base.specs.declared.write.Write.{Write}
use Rattle.run_model.specs.Histories.{IsPrefix, part_of}
use Rattle.run_model.specs.Order.{seen}
use Rattle.run_model.specs.OwnWrites.{accepted_by, own}
use Rattle.run_model.specs.Runs.{IsRun}
use Rattle.run_model.specs.Taking.{clock, have, log_of}
use Rattle.run_model.specs.declared.entry.Entry.{Entry}
use Rattle.run_model.proofs.PrefixLemmas.{IsPrefix-reads, IsPrefix-trans}
use Rattle.run_model.proofs.SoundKeeping.{own-prefix}
use Rattle.run_model.proofs.SoundRuns.{Grows-run, Sound-prefix, Sound-run}
use Rattle.run_model.proofs.SoundViews.{Sound-log, Sound-stamps}
use Rattle.replica_network.proofs.FilteredMaps.{Contains-filter_map}

-- numbers below a count
Contains-range : (n k : ℕ) → k < n → Contains (range_with_len 0 n) k
Contains-range n k within = (k, omega (arith, within, length-range_with_len 0 n), get_or-range_with_len 0 n k k within ∙ zero-add k)

Contains-from_range : (n k : ℕ) → Contains (range_with_len 0 n) k → k < n
Contains-from_range n k found =
    All-contains (λ i. i < n) (range_with_len 0 n) k (All-range (λ i. i < n) 0 n (λ i low high. omega (arith, high))) found

-- A run.
module _ (setup : Setup) (history : List Entry) (run : IsRun setup history) where
  -- the log that a replica has of an origin after a front of it begins what the origin accepts in it
  pub log_begins : (front : List Entry) (replica origin : ℕ)
      → IsPrefix front history
      → IsPrefix (log_of replica (part_of front replica) origin) (own (part_of history origin))
  log_begins front replica origin prefix =
      IsPrefix-trans (log_of replica (part_of front replica) origin) (own (part_of front origin)) (own (part_of history origin))
      (Sound-log setup front (Sound-prefix setup front history run prefix) replica origin)
      (own-prefix origin (part_of front origin) (part_of history origin) (Grows-run setup front history run prefix origin))

  -- a write that it has seen there stands among these, within what the replica has
  pub seen_stands : (front : List Entry) (replica : ℕ) (write : Write)
      → IsPrefix front history
      → Contains (seen setup replica (part_of front replica)) write
      → (origin : ℕ) × (origin < setup.replicas) × (k : ℕ) × (k < have replica (part_of front replica) origin) × (get_or (own (part_of history origin)) k write ≡ write)
  seen_stands front replica write prefix found =
      let log = log_of replica (part_of front replica) in
      let joined = Contains-from_in_order (flat_map log (replicas_of setup)) write found in
      let stands = Contains-from_flat_map log (replicas_of setup) write joined in
      let origin = stands.0 in
      let place = stands.2 in (
        origin,
        Contains-from_range setup.replicas origin stands.1,
        place.0,
        place.1,
        IsPrefix-reads (log origin) (own (part_of history origin)) place.0 write (log_begins front replica origin prefix) place.1 ∙ place.2,
      )

  -- and what stands there it has seen
  pub seen_has : (front : List Entry) (replica origin k : ℕ) (write : Write)
      → IsPrefix front history
      → origin < setup.replicas
      → k < have replica (part_of front replica) origin
      → get_or (own (part_of history origin)) k write ≡ write
      → Contains (seen setup replica (part_of front replica)) write
  seen_has front replica origin k write prefix among within is =
      let log = log_of replica (part_of front replica) in
      let here : Contains (log origin) write =
      (k, within, sym (IsPrefix-reads (log origin) (own (part_of history origin)) k write (log_begins front replica origin prefix) within) ∙ is) in
      Contains-in_order (flat_map log (replicas_of setup)) write
      (Contains-flat_map log (replicas_of setup) origin write (Contains-range setup.replicas origin among) here)

  -- no stamp of these is above the clock
  pub seen_stamps : (replica : ℕ) (write : Write)
      → Contains (seen setup replica (part_of history replica)) write
      → write.stamp ≤ clock (part_of history replica)
  seen_stamps replica write found =
      let log = log_of replica (part_of history replica) in
      let stands = Contains-from_flat_map log (replicas_of setup) write (Contains-from_in_order (flat_map log (replicas_of setup)) write found) in
      All-contains (λ (w : Write). w.stamp ≤ clock (part_of history replica)) (log stands.0) write
      (Sound-stamps setup history (Sound-run setup history run) replica stands.0) stands.2

  -- an accepted write stands at its index among those of its origin
  pub accepted_stands : (entry : Entry) (write : Write)
      → Contains history entry
      → accepted_by entry.replica entry.moment entry.act ≡ Some write
      → (write.index < length (own (part_of history write.origin))) × (get_or (own (part_of history write.origin)) write.index write ≡ write)
  accepted_stands entry write found is =
      let replica = entry.replica in
      let part = part_of history replica in
      let among : Contains part entry = Contains-filter (λ (e : Entry). e.replica == replica) history entry found (eq-eqb replica replica refl) in
      let stands : Contains (own part) write = Contains-filter_map (λ (e : Entry). accepted_by e.replica e.moment e.act) part entry write among is in
      let numbered = (Sound-run setup history run).own replica in
      let origin : write.origin ≡ replica = All-contains (λ (w : Write). w.origin ≡ replica) (own part) write numbered.origins stands in
      let index : write.index ≡ stands.0 = sym (ap (λ (w : Write). w.index) stands.2) ∙ numbered.indices stands.0 write stands.1 in
      subst (λ o. (write.index < length (own (part_of history o))) × (get_or (own (part_of history o)) write.index write ≡ write)) (sym origin)
      (omega (arith, stands.1, index), ap (λ k. get_or (own part) k write) index ∙ stands.2)
