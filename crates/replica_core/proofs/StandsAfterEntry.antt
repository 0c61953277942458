-- An entry is closed: the replica stands for its part with the entry.
use Rattle.std.proofs.Common.{◌≡◌, ℕ, ◌<◌, ◌≤◌, max, true, nat_le, map, take, None, List, [], ◌∷◌, ◌++◌, length, get_or}
use Rattle.std.proofs.Common.{set, refl, sym, ap, ap₂, ◌∙◌, subst, ⊎_elim, arith, get_or-set_same, get_or-set_other}
use Rattle.std.proofs.lemmas.Bool.{cases_eq, le-leb}
use Rattle.std.proofs.lemmas.List.{length-map, length-set, length_push, take-append-le, get_or-map, ext_get_or}
use Rattle.std.proofs.lemmas.List.FromFn.{length-map-range_with_len, get_or-map-range_with_len, fill_by_all}
use Rattle.tact_base.proofs.ListLemmas.{get_or-map_range}
use Rattle.tact_base.specs.Setup.{replicas_of}
use Rattle.tact_base.specs.declared.limits.TheConstants.{CLIENTS}
use Rattle.tact_base.specs.declared.write.Write.{Write}
use Rattle.tact_base.specs.Covers.{no_cover, later_cover, least_of}
use Rattle.tact_base.specs.declared.write.Cover.{Cover}
use Rattle.run_model.specs.Histories.{last_moment, moment_at, sent_in, calls_in}
use Rattle.run_model.specs.OwnWrites.{own}
use Rattle.run_model.specs.Taking.{origin_state, log_of, clock, cover_of, covers_of, known}
use Rattle.run_model.specs.Order.{seen, committed}
use Rattle.run_model.specs.Runs.{IsPart}
use Rattle.run_model.specs.declared.entry.Entry.{Entry}
use Rattle.run_model.proofs.PartLemmas.{taken_by, last_moment-push}
use Rattle.run_model.proofs.Accepted.{log_of-same}
use Rattle.run_model.proofs.Growth.{Grows}
use Rattle.run_model.proofs.SoundViews.{cover_of-same, cover_of-other}
use Rattle.replica_core.specs.States.{Core, CountsKept, HasPlaces, log_at, cover_at, known_at, own_cover, covers_with_own, entered}
use Rattle.replica_core.specs.Dropped.{past_of, dropped, dropped_of}
use Rattle.replica_core.specs.Stands.{Stands, BudgetsStand, CountsStand}
use Rattle.replica_core.proofs.DroppedLemmas.{committed-goes_on, dropped-few, dropped-same}
use Rattle.replica_core.proofs.TrimmedStands.{WritesHeld, WritesStand-held}
use Rattle.replica_core.proofs.StandsByPlace.{stamps_of}

-- a told cover none of whose numbers is less is kept
later_cover-told : (kept told : Cover)
    → kept.count ≤ told.count
    → kept.stamp ≤ told.stamp
    → kept.moment ≤ told.moment
    → later_cover kept told ≡ told
later_cover-told kept told count stamp moment =
    let c : nat_le kept.count told.count ≡ true = le-leb kept.count told.count count in
    let s : nat_le kept.stamp told.stamp ≡ true = le-leb kept.stamp told.stamp stamp in
    let m : nat_le kept.moment told.moment ≡ true = le-leb kept.moment told.moment moment in
    rw (c, s, m) refl

-- What is kept of writes, but its own cover and its point, is that of a part with one more entry; its own cover is that
-- of the part before, and so is what is given up.
pub record AreWritesReady (part : List Entry) (entry : Entry) (core : Core) : Type 0 where
  pub bases : core.writes.bases ≡ map (dropped_of core.setup core.replica part) (replicas_of core.setup)
  pub logs : core.writes.logs ≡ map (log_of core.replica (part ++ entry ∷ [])) (replicas_of core.setup)
  pub covers : (origin : ℕ)
      → origin < core.setup.replicas
      → (origin ≡ core.replica → ⊥)
      → cover_at core origin ≡ (origin_state (part ++ entry ∷ []) origin).cover
  pub own : cover_at core core.replica ≡ cover_of core.replica part (last_moment part) core.replica
  pub known : (peer origin : ℕ)
      → peer < core.setup.replicas
      → origin < core.setup.replicas
      → known_at core peer origin ≡ known (part ++ entry ∷ []) peer origin
  pub seen : core.writes.seen ≡ seen core.setup core.replica (part ++ entry ∷ [])
  pub dropped : core.writes.dropped ≡ dropped core.setup core.replica part
  pub clock : core.writes.clock ≡ clock (part ++ entry ∷ [])

-- the counts of calls and of messages are those of the part with the entry, and the others those of the part before
pub record AreCountsReady (part : List Entry) (entry : Entry) (kept : CountsKept) : Type 0 where
  pub calls : (client : ℕ)
      → client < CLIENTS
      → get_or kept.calls client 0 ≡ calls_in (part ++ entry ∷ []) client
  pub sends : kept.sends ≡ length (sent_in (part ++ entry ∷ []))
  pub count : kept.count ≡ length part
  pub last : kept.last ≡ last_moment part

-- A replica that has done all of an entry but to close it.
pub record IsReadyToEnter (part : List Entry) (entry : Entry) (core : Core) : Type 0 where
  pub before : IsPart core.setup core.replica part
  pub is_part : IsPart core.setup core.replica (part ++ entry ∷ [])
  pub grows : Grows core.replica part (part ++ entry ∷ [])
  pub writes : AreWritesReady part entry core
  pub budgets : BudgetsStand core.setup core.replica (part ++ entry ∷ []) core.budgets
  pub counts : AreCountsReady part entry core.counts

module _ (part : List Entry) (entry : Entry) (core : Core) (handed : ℕ) (ready : IsReadyToEnter part entry core) (at : entry.moment ≡ moment_at part handed) (places : HasPlaces core) where
  abbrev further : List Entry
  further = part ++ entry ∷ []

  abbrev last : ℕ
  last = max handed core.counts.last

  last_is : last ≡ last_moment further
  last_is = ap (max handed) ready.counts.last ∙ sym at ∙ sym (last_moment-push part entry)

  own_log : log_at core core.replica ≡ log_of core.replica further core.replica
  own_log =
      ap (λ (logs : List (List Write)). get_or logs core.replica []) ready.writes.logs
      ∙ get_or-map_range (log_of core.replica further) core.setup.replicas core.replica [] places.among

  own_is : own_cover core last ≡ cover_of core.replica further (last_moment further) core.replica
  own_is =
      ap₂ (λ (n s : ℕ). let c : Cover = record { count = n; stamp = s; moment = last } in c) (ap length (own_log ∙ log_of-same core.replica further)) ready.writes.clock
      ∙ ap (λ (m : ℕ). let c : Cover = record { count = length (own further); stamp = clock further; moment = m } in c) last_is
      ∙ sym (cover_of-same core.replica further (last_moment further))

  -- its own cover is later than the one before
  own_later : later_cover (cover_at core core.replica) (own_cover core last) ≡ own_cover core last
  own_later =
      let before = ready.writes.own ∙ cover_of-same core.replica part (last_moment part) in
      let here = own_is ∙ cover_of-same core.replica further (last_moment further) in
      let counts = ready.grows.have core.replica in
      let size : length (log_of core.replica part core.replica) ≡ length (own part) = ap length (log_of-same core.replica part) in
      let size' : length (log_of core.replica further core.replica) ≡ length (own further) = ap length (log_of-same core.replica further) in
      later_cover-told (cover_at core core.replica) (own_cover core last)
      (omega (arith, ap (λ (c : Cover). c.count) before, ap (λ (c : Cover). c.count) here, counts, size, size'))
      (omega (arith, ap (λ (c : Cover). c.stamp) before, ap (λ (c : Cover). c.stamp) here, ready.grows.clock))
      (omega (arith, ap (λ (c : Cover). c.moment) before, ap (λ (c : Cover). c.moment) here, ready.grows.last))

  covers_are : (origin : ℕ)
      → origin < core.setup.replicas
      → get_or (covers_with_own core last) origin no_cover ≡ cover_of core.replica further (last_moment further) origin
  covers_are origin within = ⊎_elim
      (λ (same : origin ≡ core.replica).
      let raised = later_cover (cover_at core core.replica) (own_cover core last) in
      ap (λ o. get_or (set core.writes.covers core.replica raised) o no_cover) same
      ∙ get_or-set_same core.writes.covers core.replica raised no_cover (omega (arith, places.among, places.covers_sized))
      ∙ own_later ∙ own_is ∙ ap (cover_of core.replica further (last_moment further)) (sym same))
      (λ (other : origin ≡ core.replica → ⊥).
      get_or-set_other core.writes.covers core.replica origin (later_cover (cover_at core core.replica) (own_cover core last)) no_cover other
      ∙ ready.writes.covers origin within other ∙ sym (cover_of-other core.replica further (last_moment further) origin other))
      (cases_eq origin core.replica)

  -- a cover's stamp doesn't depend on the moment of its own
  stamp_at : (one other origin : ℕ)
      → (cover_of core.replica further one origin).stamp ≡ (cover_of core.replica further other origin).stamp
  stamp_at one other origin = ⊎_elim
      (λ (same : origin ≡ core.replica). rw (same, cover_of-same core.replica further one, cover_of-same core.replica further other) refl)
      (λ (differ : origin ≡ core.replica → ⊥). rw (cover_of-other core.replica further one origin differ, cover_of-other core.replica further other origin differ) refl)
      (cases_eq origin core.replica)

  stamps_are : stamps_of (covers_with_own core last) ≡ stamps_of (covers_of core.setup core.replica further 0)
  stamps_are =
      let stamp = λ (cover : Cover). cover.stamp in
      let covers = covers_with_own core last in
      let defined = covers_of core.setup core.replica further 0 in
      let size : length covers ≡ core.setup.replicas = length-set core.writes.covers core.replica (later_cover (cover_at core core.replica) (own_cover core last)) ∙ places.covers_sized in
      let size' : length defined ≡ core.setup.replicas = length-map-range_with_len (cover_of core.replica further 0) 0 core.setup.replicas in
      let count : length (stamps_of covers) ≡ length covers = length-map covers stamp in
      let count' : length (stamps_of defined) ≡ length defined = length-map defined stamp in
      ext_get_or 0 (stamps_of covers) (stamps_of defined) (omega (arith, size, size', count, count'))
      (λ i inside.
      let within : i < core.setup.replicas = omega (arith, inside, count, size) in
      get_or-map stamp covers i no_cover 0 (omega (arith, within, size))
      ∙ ap stamp (covers_are i within) ∙ stamp_at (last_moment further) 0 i
      ∙ ap stamp (sym (get_or-map-range_with_len (cover_of core.replica further 0) 0 core.setup.replicas i i no_cover within (omega arith)))
      ∙ sym (get_or-map stamp defined i no_cover 0 (omega (arith, within, size'))))

  pub WritesHeld-entered : WritesHeld core.setup core.replica further (dropped core.setup core.replica part) (dropped_of core.setup core.replica part) (entered core handed).writes
  WritesHeld-entered = record {
    bases = ready.writes.bases;
    logs = ready.writes.logs;
    covers =
        fill_by_all (cover_of core.replica further (last_moment further)) (covers_with_own core last) core.setup.replicas no_cover
        (length-set core.writes.covers core.replica (later_cover (cover_at core core.replica) (own_cover core last)) ∙ places.covers_sized) covers_are;
    known = ready.writes.known;
    seen = ready.writes.seen;
    dropped = ready.writes.dropped;
    point = ap least_of stamps_are;
    clock = ready.writes.clock;
  }

  pub CountsStand-entered : CountsStand further (entered core handed).counts
  CountsStand-entered = record {
    calls = ready.counts.calls;
    sends = ready.counts.sends;
    count = omega (arith, ready.counts.count, length_push part entry);
    last = last_is;
  }

  -- where no message is taken, nothing more is given up
  pub Stands-entered : taken_by entry ≡ None → Stands further (entered core handed)
  Stands-entered takes =
      let same = dropped-same core.setup core.replica part entry ready.is_part takes in
      let was = dropped core.setup core.replica part in
      let longer = committed-goes_on core.setup core.replica part entry ready.is_part in
      let first : take was (committed core.setup core.replica further) ≡ take was (committed core.setup core.replica part) =
      ap (take was) longer.1 ∙ take-append-le was (committed core.setup core.replica part) longer.0 (dropped-few core.setup core.replica part ready.before) in
      let gone : take (dropped core.setup core.replica further) (committed core.setup core.replica further) ≡ take was (committed core.setup core.replica part) =
      ap (λ (n : ℕ). take n (committed core.setup core.replica further)) same ∙ first in
      let base_of : List Write → ℕ → ℕ = λ ws origin. past_of ws origin in
      let same_base : dropped_of core.setup core.replica part ≡ dropped_of core.setup core.replica further = ap base_of (sym gone) in
      record {
        is_part = ready.is_part;
        writes =
            WritesStand-held core.setup core.replica further (entered core handed).writes
            (subst (λ (n : ℕ). WritesHeld core.setup core.replica further n (dropped_of core.setup core.replica further) (entered core handed).writes) (sym same)
            (subst (λ (base : ℕ → ℕ). WritesHeld core.setup core.replica further was base (entered core handed).writes) same_base WritesHeld-entered));
        budgets = ready.budgets;
        counts = CountsStand-entered;
      }
