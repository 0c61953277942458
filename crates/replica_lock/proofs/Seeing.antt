-- What a session has seen after a call.
use Rattle.std.proofs.Common.{◌≡◌, ℕ, ◌+◌, ◌≤◌, ◌==◌, Bool, true, false, cond, List, [], ◌∷◌, ◌++◌, length, filter, refl, sym, ap, ◌∙◌, subst, arith}
use Rattle.std.proofs.lemmas.Bool.{eq-eqb}
use Rattle.std.proofs.lemmas.Bool.Decides.{nat_tests}
use Rattle.std.proofs.lemmas.List.Elements.{filter-append}
use Rattle.tact_base.specs.Setup.{Setup, IsSetup}
use Rattle.tact_base.proofs.SetupLemmas.{HasCounts-from_IsSetup}
use Rattle.tact_base.specs.declared.limits.TheConstants.{HISTORY_MAX}
use Rattle.run_model.specs.Histories.{part_of, calls_in, calls_of, is_call_of, moment_at, IsPrefix}
use Rattle.run_model.specs.Runs.{IsRun, IsLawful}
use Rattle.run_model.specs.Taking.{clock}
use Rattle.run_model.specs.declared.call.Reply.{Reply}
use Rattle.run_model.specs.declared.call.Request.{Request}
use Rattle.run_model.specs.declared.entry.Entry.{Entry}
use Rattle.run_model.proofs.ClockBound.{clock-run}
use Rattle.run_model.proofs.PartLemmas.{part_of-push_same}
use Rattle.run_model.proofs.PrefixLemmas.{EachAfter-last, IsPrefix-filter, IsPrefix-whole}
use Rattle.run_promises.proofs.Kept.{IsKept-run}
use Rattle.run_history.proofs.RunLemmas.{parts_are_short, run_is_short}
use Rattle.replica_core.specs.States.{Core, is_full}
use Rattle.entry_journal.specs.EntryJournals.{JournalView}
use Rattle.locked_replica.specs.Faults.{IsNodeFaultOf}
use Rattle.locked_replica.specs.Journals.{IsRefusal}
use Rattle.locked_replica.specs.Locks.{HasEntered, IsLocked, LockedView, part_in}
use Rattle.replica_lock.specs.Sessions.{SessionView, HasCalled, HasHeard, IsFaultSeen, call_after}
use Rattle.locked_replica.specs.declared.fault.NodeFault.{NodeFault}
use Rattle.locked_replica.specs.declared.fault.NodeFault.TheVariants as fault
use Rattle.locked_replica.proofs.Entering.{call_entry}

-- what two histories have of a client, one of which is a front of the other, where both have as many calls of it
pub calls_of-same : (seen more : List Entry) (replica client : ℕ)
    → IsPrefix seen more
    → calls_in (part_of seen replica) client ≡ calls_in (part_of more replica) client
    → calls_of seen replica client ≡ calls_of more replica client
calls_of-same seen more replica client front size =
    IsPrefix-whole (calls_of seen replica client) (calls_of more replica client)
    (IsPrefix-filter (λ (e : Entry). is_call_of client e.act) (part_of seen replica) (part_of more replica)
    (IsPrefix-filter (λ (e : Entry). e.replica == replica) seen more front))
    (omega (arith, size))

-- with one more call of the client
calls_of-push : (front : List Entry) (session : SessionView) (moment : ℕ) (asked : Request) (given : Reply)
    → calls_of (front ++ call_after session front moment asked given ∷ []) session.replica session.client
    ≡ calls_of front session.replica session.client ++ call_after session front moment asked given ∷ []
calls_of-push front session moment asked given =
    let entry = call_after session front moment asked given in
    let test = λ (e : Entry). is_call_of session.client e.act in
    ap (filter test) (part_of-push_same front entry session.replica refl)
    ∙ filter-append test (part_of front session.replica) (entry ∷ [])
    ∙ ap (λ (b : Bool). calls_of front session.replica session.client ++ cond b (entry ∷ []) []) (eq-eqb session.client session.client refl)

module _ (setup : Setup) (sound : IsSetup setup) where
  -- after a call that was answered
  pub HasCalled-entered : (before after : LockedView) (old new : SessionView) (moment : ℕ) (asked : Request) (given : Reply)
      → setup ≡ before.core.setup
      → old.replica ≡ before.core.replica
      → old.calls ≡ calls_in (part_in before) old.client
      → calls_in (part_of old.seen old.replica) old.client ≡ old.calls
      → HasEntered before after old.seen (call_entry before.core.replica (moment_at (part_in before) moment) old.client (calls_in (part_in before) old.client) asked given)
      → new ≡ record old { calls = old.calls + 1; made = old.made + 1; seen = after.clerk.seen }
      → HasCalled setup old new moment asked given
  HasCalled-entered before after old new moment asked given of_setup replica calls known entered value =
      let front = entered.front in
      let part : part_of front old.replica ≡ part_in before = ap (part_of front) replica ∙ entered.part in
      let entry = call_after old front moment asked given in
      let spelt : call_entry before.core.replica (moment_at (part_in before) moment) old.client (calls_in (part_in before) old.client) asked given ≡ entry =
      sym (ap (λ r. call_entry r (moment_at (part_of front old.replica) moment) old.client old.calls asked given) replica
      ∙ ap (λ p. call_entry before.core.replica (moment_at p moment) old.client old.calls asked given) part
      ∙ ap (λ n. call_entry before.core.replica (moment_at (part_in before) moment) old.client n asked given) calls) in
      let seen : new.seen ≡ front ++ entry ∷ [] = ap (λ (s : SessionView). s.seen) value ∙ entered.seen ∙ ap (λ (e : Entry). front ++ e ∷ []) spelt in
      let run : IsRun setup new.seen = subst (λ (s : SessionView). IsRun setup s.seen) (sym value) (subst (λ s. IsRun s after.clerk.seen) (sym of_setup) entered.run) in
      let lawful = EachAfter-last (IsLawful setup) front entry (subst (IsRun setup) seen run) in
      let same = calls_of-same old.seen front old.replica old.client entered.told (known ∙ calls ∙ ap (λ p. calls_in p old.client) (sym part)) in
      record {
        front = front;
        seen = seen;
        told = entered.told;
        due = lawful.due.act.1;
        calls =
            ap (λ (s : SessionView). calls_of s.seen s.replica s.client) value
            ∙ ap (λ h. calls_of h old.replica old.client) (entered.seen ∙ ap (λ (e : Entry). front ++ e ∷ []) spelt)
            ∙ calls_of-push front old moment asked given
            ∙ ap (λ cs. cs ++ entry ∷ []) (sym same);
        run = run;
        promised = IsKept-run setup new.seen sound run;
        counts = value ∙ ap (λ h. record old { calls = old.calls + 1; made = old.made + 1; seen = h }) (ap (λ (s : SessionView). s.seen) (sym value));
      }

  -- after one that was refused
  pub HasHeard-learnt : (after : LockedView) (old new : SessionView)
      → IsLocked after
      → old.replica ≡ after.core.replica
      → (old.doubt ≡ false → old.calls ≡ calls_in (part_in after) old.client)
      → (old.doubt ≡ false → calls_in (part_of old.seen old.replica) old.client ≡ old.calls)
      → IsPrefix old.seen after.clerk.seen
      → IsRun setup after.clerk.seen
      → new ≡ record old { seen = after.clerk.seen }
      → HasHeard setup old old new
  HasHeard-learnt after old new kept replica calls known told run value =
      let part : part_of after.clerk.seen old.replica ≡ part_in after = ap (part_of after.clerk.seen) replica ∙ kept.own in
      let seen : new.seen ≡ after.clerk.seen = ap (λ (s : SessionView). s.seen) value in
      let is_run : IsRun setup new.seen = subst (IsRun setup) (sym seen) run in
      record {
        value = value ∙ ap (λ h. record old { seen = h }) (sym seen);
        told = subst (IsPrefix old.seen) (sym seen) told;
        calls = λ certain.
            let same = calls_of-same old.seen after.clerk.seen old.replica old.client told (known certain ∙ calls certain ∙ ap (λ p. calls_in p old.client) (sym part)) in
            ap (λ (s : SessionView). calls_of s.seen s.replica s.client) value ∙ sym same;
        run = is_run;
        promised = IsKept-run setup new.seen sound is_run;
      }

  -- where a replica is full
  pub full-count : (part history : List Entry) (core : Core)
      → IsRun setup history
      → part ≡ part_of history core.replica
      → core.counts.count ≡ length part
      → core.writes.clock ≡ clock part
      → is_full core ≡ true
      → length part ≡ HISTORY_MAX
  full-count part history core run is count stamp full =
      let counts = HasCounts-from_IsSetup setup sound in
      let short = parts_are_short setup history run core.replica in
      let below = clock-run setup history run core.replica in
      let few = run_is_short setup history run in
      let most : setup.replicas ≤ 8 = counts.replicas_high in
      let least : HISTORY_MAX ≤ core.counts.count = grind (arith, nat_tests, full) in
      omega (arith, least, count, ap length is, short)

  pub IsFaultSeen-of : (locked : LockedView) (session : SessionView) (told : NodeFault)
      → IsLocked locked
      → session.replica ≡ locked.core.replica
      → session.seen ≡ locked.clerk.seen
      → IsRun setup session.seen
      → IsNodeFaultOf locked.core told
      → IsFaultSeen session told
  IsFaultSeen-of locked session (fault.Full count stamp) kept replica seen run (full, count_is, stamp_is) =
      let part : part_of session.seen session.replica ≡ part_in locked = ap (part_of session.seen) replica ∙ ap (λ h. part_of h locked.core.replica) seen ∙ kept.own in
      let size = full-count (part_in locked) session.seen locked.core run (sym (sym (ap (part_of session.seen) replica) ∙ part)) kept.stands.counts.count kept.stands.writes.clock full in (
        ap length part ∙ size,
        count_is ∙ kept.stands.counts.count ∙ size,
        stamp_is ∙ kept.stands.writes.clock ∙ ap clock (sym part),
      )
  IsFaultSeen-of locked session fault.NoMemory kept replica seen run told = tt
  IsFaultSeen-of locked session fault.Halted kept replica seen run told = tt
  IsFaultSeen-of locked session fault.JournalFault kept replica seen run told = tt

  -- so of a refusal of a turn, which says what a replica alone does, and what it leaves of the journal
  pub IsFaultSeen-refused : (locked : LockedView) (session : SessionView) (had has : JournalView) (told : NodeFault)
      → IsLocked locked
      → session.replica ≡ locked.core.replica
      → session.seen ≡ locked.clerk.seen
      → IsRun setup session.seen
      → IsRefusal locked.core had has told
      → IsFaultSeen session told
  IsFaultSeen-refused locked session had has (fault.Full count stamp) kept replica seen run told =
      IsFaultSeen-of locked session (fault.Full count stamp) kept replica seen run (told.1, told.2, told.3)
  IsFaultSeen-refused locked session had has fault.NoMemory kept replica seen run told = tt
  IsFaultSeen-refused locked session had has fault.Halted kept replica seen run told = tt
  IsFaultSeen-refused locked session had has fault.JournalFault kept replica seen run told = tt
