-- What a pass says of a trip, when the history grows.
use Rattle.std.proofs.Common.{◌≡◌, ℕ, ◌<◌, ◌≤◌, max, List, [], ◌∷◌, ◌++◌, length, get_or, map, set, All, Some, ap, ◌∙◌, ⊎_elim, get_or-set_same, get_or-set_other, arith}
use Rattle.std.specs.List.{range_with_len}
use Rattle.std.proofs.lemmas.Bool.{cases_eq}
use Rattle.std.proofs.lemmas.List.{length-map, length_push}
use Rattle.std.proofs.lemmas.List.Elements.{All-nil, All-push}
use Rattle.std.proofs.lemmas.List.FromFn.{length-range_with_len}
use Rattle.std.proofs.lemmas.List.{length-replicate}
use Rattle.tact_base.proofs.ElementLemmas.{AllPairs-nil}
use Rattle.tact_base.proofs.ListLemmas.{get_or-map_range}
use Rattle.tact_base.specs.Setup.{Setup}
use Rattle.tact_base.specs.declared.write.Write.{Write}
use Rattle.run_model.specs.Histories.{part_of}
use Rattle.run_model.specs.OwnWrites.{accepted_by}
use Rattle.run_model.specs.Runs.{IsDue, IsRun}
use Rattle.run_model.specs.Taking.{have}
use Rattle.run_model.specs.declared.entry.Entry.{Entry}
use Rattle.replica_network.proofs.Longer.{longer}
use Rattle.session_guard.proofs.Guarding.{IsGuarded-same, IsGuarded-stop}
use Rattle.session_guard.proofs.Positions.{ReadsAt-last, ReadsAt-same, WritesAt-last, WritesAt-same, have_before-last, have_before-same}
use Rattle.session_guard.specs.Carried.{IsCarried}
use Rattle.session_guard.specs.Guards.{IsRead, ReadsAt, ReadsMonotonically, ReadsYourWrites, WritesAt, WritesFollowReads, WritesMonotonically}
use Rattle.session_guard.specs.Passes.{IsPass, PassState, fresh_pass, wanted}
use Rattle.session_guard.specs.Positions.{have_before}

-- what a pass says of a position, with numbers that are not less
abbrev SaysOfWrites : Setup → List Entry → PassState → ℕ → Type 0
SaysOfWrites setup history pass position =
    (write : Write) → WritesAt history position write → (write.origin < setup.replicas) × (write.index < get_or pass.writes write.origin 0)

abbrev SaysOfReads : Setup → List Entry → PassState → ℕ → Type 0
SaysOfReads setup history pass position =
    ReadsAt history position → (origin : ℕ) → origin < setup.replicas → have_before history position origin ≤ get_or pass.reads origin 0

-- One pass has numbers that are no less than those of another.
pub record IsNoLess (setup : Setup) (old new : PassState) : Type 0 where
  pub reads : (origin : ℕ) → origin < setup.replicas → get_or old.reads origin 0 ≤ get_or new.reads origin 0
  pub writes : (origin : ℕ) → origin < setup.replicas → get_or old.writes origin 0 ≤ get_or new.writes origin 0

-- A history with one more entry, and a pass that is no less.
module _ (setup : Setup) (history : List Entry) (entry : Entry) (old new : PassState) (trip : List ℕ) (carried : IsCarried setup history old trip)
    (is_pass : IsPass setup.replicas new) (more : IsNoLess setup old new) where
  writes_stay : All (SaysOfWrites setup (longer history entry) new) trip
  writes_stay place default inside write writes =
      let says = carried.writes place default inside write (WritesAt-same history entry (get_or trip place default) (carried.within place default inside) write writes) in
      (says.0, omega (arith, says.1, more.writes write.origin says.0))

  reads_stay : All (SaysOfReads setup (longer history entry) new) trip
  reads_stay place default inside reads origin among =
      let within = carried.within place default inside in
      let position = get_or trip place default in
      omega (
        arith,
        have_before-same history entry position within origin,
        carried.reads place default inside (ReadsAt-same history entry position within reads) origin among,
        more.reads origin among,
      )

  within_stays : All (λ position. position < length (longer history entry)) trip
  within_stays place default inside = omega (arith, carried.within place default inside, length_push history entry)

  -- without a stop there
  pub carried_on : IsCarried setup (longer history entry) new trip
  carried_on = record {
    is_pass = is_pass;
    within = within_stays;
    writes = writes_stay;
    reads = reads_stay;
    guarded = IsGuarded-same setup history entry trip carried.within carried.guarded;
  }

  -- and with one, where the pass says what was written or read there
  module _ (run : IsRun setup history) (due : IsDue setup (part_of history entry.replica) entry)
      (enough : (origin : ℕ) → origin < setup.replicas → wanted old origin ≤ have entry.replica (part_of history entry.replica) origin)
      (says_writes : (write : Write) → accepted_by entry.replica entry.moment entry.act ≡ Some write
      → (write.origin < setup.replicas) × (write.index < get_or new.writes write.origin 0))
      (says_reads : IsRead entry.act → (origin : ℕ) → origin < setup.replicas
      → have entry.replica (part_of history entry.replica) origin ≤ get_or new.reads origin 0) where
    pub carried_with_stop : IsCarried setup (longer history entry) new (trip ++ length history ∷ [])
    carried_with_stop = record {
      is_pass = is_pass;
      within = All-push (λ position. position < length (longer history entry)) trip (length history) within_stays (omega (arith, length_push history entry));
      writes = All-push (SaysOfWrites setup (longer history entry) new) trip (length history) writes_stay
          (λ write writes. says_writes write (WritesAt-last history entry write writes));
      reads = All-push (SaysOfReads setup (longer history entry) new) trip (length history) reads_stay
          (λ reads origin among. omega (arith, have_before-last history entry origin, says_reads (ReadsAt-last history entry reads) origin among));
      guarded = IsGuarded-stop setup history run entry due old trip carried enough;
    }

-- a pass is no less than itself
pub IsNoLess-refl : (setup : Setup) (pass : PassState) → IsNoLess setup pass pass
IsNoLess-refl setup pass = record { reads = λ origin among. omega arith; writes = λ origin among. omega arith }

-- and no less after a write, which is at least as many as were wanted
pub writes_more : (setup : Setup) (pass : PassState) (replica count : ℕ)
    → IsPass setup.replicas pass
    → replica < setup.replicas
    → get_or pass.writes replica 0 ≤ count
    → IsNoLess setup pass (record pass { writes = set pass.writes replica count })
writes_more setup pass replica count is_pass among least = record {
  reads = λ origin inside. omega arith;
  writes = λ origin inside.
      ⊎_elim
      (λ (same : origin ≡ replica).
      let here = get_or-set_same pass.writes replica count 0 (omega (arith, among, is_pass.writes)) in
      omega (arith, here, ap (λ i. get_or (set pass.writes replica count) i 0) same, ap (λ i. get_or pass.writes i 0) same, least))
      (λ (other : origin ≡ replica → ⊥). omega (arith, ap (λ x. x) (get_or-set_other pass.writes replica origin count 0 other)))
      (cases_eq origin replica);
}

-- and after a read
abbrev with_reads : PassState → List ℕ → PassState
with_reads pass haves =
    record pass { reads = map (λ origin. max (get_or pass.reads origin 0) (get_or haves origin 0)) (range_with_len 0 (length haves)) }

module _ (setup : Setup) (pass : PassState) (haves : List ℕ) (sized : length haves ≡ setup.replicas) where
  pub read_at : (origin : ℕ)
      → origin < setup.replicas
      → get_or (with_reads pass haves).reads origin 0 ≡ max (get_or pass.reads origin 0) (get_or haves origin 0)
  read_at origin among =
      get_or-map_range (λ origin. max (get_or pass.reads origin 0) (get_or haves origin 0)) (length haves) origin 0 (omega (arith, among, sized))

  pub reads_more : IsNoLess setup pass (with_reads pass haves)
  reads_more = record { reads = λ origin among. omega (arith, read_at origin among); writes = λ origin among. omega arith }

  pub reads_sized : IsPass setup.replicas pass → IsPass setup.replicas (with_reads pass haves)
  reads_sized is_pass = record {
    reads = length-map (range_with_len 0 (length haves)) (λ origin. max (get_or pass.reads origin 0) (get_or haves origin 0))
        ∙ length-range_with_len 0 (length haves) ∙ sized;
    writes = is_pass.writes;
  }

-- a client that did nothing
pub carried_fresh : (setup : Setup) → IsCarried setup [] (fresh_pass setup.replicas) []
carried_fresh setup = record {
  is_pass = record { reads = length-replicate setup.replicas 0; writes = length-replicate setup.replicas 0 };
  within = All-nil (λ position. position < 0);
  writes = All-nil (SaysOfWrites setup [] (fresh_pass setup.replicas));
  reads = All-nil (SaysOfReads setup [] (fresh_pass setup.replicas));
  guarded = record {
    read_your_writes = AllPairs-nil (ReadsYourWrites setup []);
    monotonic_reads = AllPairs-nil (ReadsMonotonically setup []);
    monotonic_writes = AllPairs-nil (WritesMonotonically []);
    writes_follow_reads = AllPairs-nil (WritesFollowReads setup []);
  };
}
