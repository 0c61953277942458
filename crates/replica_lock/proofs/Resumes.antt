-- What a session in doubt has seen after it resumed, and what a turn keeps where a session hears.
use Rattle.std.proofs.Common.{◌≡◌, ℕ, ◌+◌, ◌≤◌, ◌==◌, true, false, List, [], ◌∷◌, ◌++◌, length, filter, take, refl, sym, ap, ◌∙◌, subst, arith}
use Rattle.std.proofs.Math.Seq.{take-append_seam, take-length}
use Rattle.std.proofs.lemmas.List.{length-append, take-append-le}
use Rattle.tact_base.specs.Setup.{Setup}
use Rattle.run_model.specs.Histories.{part_of, calls_in, calls_of, is_call_of, IsPrefix}
use Rattle.run_model.specs.Promises.{IsKept}
use Rattle.run_model.specs.Runs.{IsRun}
use Rattle.run_model.specs.declared.call.Reply.{Reply}
use Rattle.run_model.specs.declared.call.Request.{Request}
use Rattle.run_model.specs.declared.entry.Entry.{Entry}
use Rattle.run_model.proofs.PrefixLemmas.{IsPrefix-filter}
use Rattle.run_history.specs.Seats.{NoteView}
use Rattle.weight_ledger.specs.Seen.{TallyView}
use Rattle.entry_journal.specs.EntryJournals.{JournalView}
use Rattle.locked_replica.specs.Journals.{IsJournaled}
use Rattle.locked_replica.specs.Locks.{IsLocked, LockedView, part_in}
use Rattle.locked_replica.specs.Restarting.{IsLastCall}
use Rattle.locked_replica.specs.declared.fault.NodeFault.TheVariants as fault
use Rattle.locked_replica.proofs.Journaling.{IsJournaled-learnt}
use Rattle.replica_lock.specs.Ledgers.{told_book}
use Rattle.replica_lock.specs.Nodes.{CountsView}
use Rattle.replica_lock.specs.Resuming.{HasFallen, HasResumed, HasSettled, HasStood, IsSettledAs}
use Rattle.replica_lock.specs.Sessions.{HasHeard, KeepsSession, NodeView, SessionView, own_calls}
use Rattle.replica_lock.specs.declared.resuming.Resumed.{Resumed}
use Rattle.replica_lock.specs.declared.resuming.Resumed.TheVariants as resumed
use Rattle.replica_lock.proofs.Accounting.{IsStep, accounted-halt, accounted-same}
use Rattle.replica_lock.proofs.Stepping.{IsSameLabel, IsTurn, step, turn_with}
use Rattle.replica_lock.proofs.Steps.{keeps_left, left, noted}
use Rattle.replica_lock.proofs.Turning.{Agreed, tells}

-- A turn whose clerk has seen more.
module _ {node : NodeView} {counts : CountsView} {before after : LockedView} {journal : JournalView} {session : SessionView} {tally now : TallyView}
    (agrees : Agreed node counts before session tally now) (keeps : IsTurn node counts before journal)
    (value : after ≡ record before { clerk = record before.clerk { seen = after.clerk.seen } }) (learnt : IsPrefix before.clerk.seen after.clerk.seen) where
  label : IsSameLabel before after
  label = (
    ap (λ (v : LockedView). v.core.setup) value,
    ap (λ (v : LockedView). v.core.replica) value,
    ap (λ (v : LockedView). v.clerk.table) value,
  )

  totals : after.totals ≡ before.totals
  totals = ap (λ (v : LockedView). v.totals) value

  still : (journal.tells ≡ journal.tells) × (journal.faults ≤ journal.faults)
  still = (refl, omega arith)

  journaled : IsJournaled after journal
  journaled =
      IsJournaled-learnt before after journal
      (value ∙ ap (λ c. let v : LockedView = record before { clerk = c } in v) (sym (ap (λ (v : LockedView). v.clerk) value))) learnt keeps.1

  accounts : IsStep session.conits before after journal journal counts.book counts.owes
  accounts = step agrees keeps.2 label still journaled

  pub after_heard : {later : CountsView} → later ≡ counts → IsTurn node later after journal
  after_heard {later} is = turn_with agrees keeps.2 label still journaled counts.book counts.owes is (accounted-same accounts totals refl)

  -- which the session hears
  module _ {node_as : NodeView} (note : NoteView) (kept : IsLocked after) (seen : (note.table ≡ session.desk) × (note.seen ≡ after.clerk.seen))
      (told : IsPrefix session.seen note.seen) (same : node_as ≡ node) (run : IsRun node_as.desk.setup note.seen) where
    cores : after.core ≡ before.core
    cores = ap (λ (v : LockedView). v.core) value

    pairs : after.stored ≡ before.stored
    pairs = ap (λ (v : LockedView). v.stored) value

    pub heard_learnt : HasHeard node.desk.setup session session (noted session now note)
    heard_learnt = (left note agrees kept cores pairs seen told same run).heard

    pub keeps_learnt : now ≡ tally → KeepsSession (noted session now note) now
    keeps_learnt is = keeps_left note agrees kept cores pairs seen told same run is

  pub replica_learnt : session.replica ≡ after.core.replica
  replica_learnt = (tells agrees).replica ∙ sym label.1

  -- and where it is told that the node is halted
  pub after_halted : {later : CountsView}
      → journal.halted ≡ true
      → later ≡ record counts { book = told_book session.conits session.client fault.Halted counts.book }
      → IsTurn node later after journal
  after_halted {later} halted is =
      turn_with agrees keeps.2 label still journaled (told_book session.conits session.client fault.Halted counts.book) counts.owes is
      (accounted-halt accounts session.client agrees.keeps.among totals refl (keeps.1.counted halted))

-- A session in doubt that heard what the clerk has seen, and then resumed.
module _ {setup : Setup} {locked : LockedView} {before between : SessionView} (heard : HasHeard setup before before between) (seen : between.seen ≡ locked.clerk.seen)
    (kept : IsLocked locked) (replica : before.replica ≡ locked.core.replica) (doubt : before.doubt ≡ true)
    (least : before.calls ≤ calls_in (part_of before.seen before.replica) before.client) where
  abbrev calls : List Entry → List Entry
  calls part = filter (λ (e : Entry). is_call_of before.client e.act) part

  -- its calls in all that it has seen then are those in the part behind the lock
  part-calls : calls_of between.seen before.replica before.client ≡ calls (part_in locked)
  part-calls = ap (λ h. calls_of h before.replica before.client) seen ∙ ap (λ r. calls (part_of locked.clerk.seen r)) replica ∙ ap calls kept.own

  -- and begin with those that it had counted
  counted : take before.calls (own_calls before) ≡ take before.calls (calls (part_in locked))
  counted =
      let front = IsPrefix-filter (λ (e : Entry). is_call_of before.client e.act) (part_of before.seen before.replica) (part_of between.seen before.replica)
      (IsPrefix-filter (λ (e : Entry). e.replica == before.replica) before.seen between.seen heard.told) in
      sym (take-append-le before.calls (own_calls before) front.0 least) ∙ ap (take before.calls) (sym front.1 ∙ part-calls)

  module _ {after : SessionView} (number : ℕ) (is : after ≡ record between { calls = number; doubt = false }) where
    value : after ≡ record before { calls = number; doubt = false; seen = after.seen }
    value =
        is ∙ ap (λ (s : SessionView). let now : SessionView = record s { calls = number; doubt = false } in now) heard.value
        ∙ ap (λ h. let now : SessionView = record before { calls = number; doubt = false; seen = h } in now) (sym (ap (λ (s : SessionView). s.seen) is))

    after-seen : after.seen ≡ between.seen
    after-seen = ap (λ (s : SessionView). s.seen) is

    settled : HasSettled setup before after
    settled = record {
      in_doubt = doubt;
      told = subst (IsPrefix before.seen) (sym after-seen) heard.told;
      run = subst (IsRun setup) (sym after-seen) heard.run;
      promised = subst (IsKept setup) (sym after-seen) heard.promised;
    }

    after-calls : own_calls after ≡ calls (part_in locked)
    after-calls = ap (λ (s : SessionView). own_calls s) value ∙ ap (λ h. calls_of h before.replica before.client) after-seen ∙ part-calls

  same_calls : between.calls ≡ before.calls
  same_calls = ap (λ (s : SessionView). s.calls) heard.value

  same_client : between.client ≡ before.client
  same_client = ap (λ (s : SessionView). s.client) heard.value

  stood : {after : SessionView} (asked : Request) (given : Reply)
      → after ≡ record between { calls = between.calls + 1; doubt = false }
      → IsLastCall (part_in locked) before.client asked given
      → calls_in (part_in locked) before.client ≡ before.calls + 1
      → HasStood setup before after asked given
  stood {after} asked given is last many =
      let now = is ∙ ap (λ n. let s : SessionView = record between { calls = n + 1; doubt = false } in s) same_calls in
      let long : length last.front ≡ before.calls = omega (arith, many, ap length last.last, length-append last.front (last.entry ∷ [])) in
      let front : take before.calls (last.front ++ last.entry ∷ []) ≡ last.front =
      ap (λ n. take n (last.front ++ last.entry ∷ [])) (sym long) ∙ take-append_seam last.front (last.entry ∷ []) in
      record {
        settled = settled (before.calls + 1) now;
        value = value (before.calls + 1) now;
        entry = last.entry;
        number = last.number;
        call = last.call;
        calls = after-calls (before.calls + 1) now ∙ last.last ∙ ap (λ list. list ++ last.entry ∷ []) (sym (counted ∙ ap (take before.calls) last.last ∙ front));
      }

  fallen : {after : SessionView}
      → after ≡ record between { doubt = false }
      → calls_in (part_in locked) before.client ≡ before.calls
      → HasFallen setup before after
  fallen {after} is many =
      let now = is ∙ ap (λ n. let s : SessionView = record between { calls = n; doubt = false } in s) same_calls in
      let whole : take before.calls (calls (part_in locked)) ≡ calls (part_in locked) = ap (λ n. take n (calls (part_in locked))) (sym many) ∙ take-length (calls (part_in locked)) in
      record {
        settled = settled before.calls now;
        value = value before.calls now;
        calls = after-calls before.calls now ∙ sym (counted ∙ whole);
      }

  pub has_resumed : (after : SessionView) (answer : Resumed) → IsSettledAs (part_in locked) between after answer → HasResumed setup before after answer
  has_resumed after resumed.Nothing told = absurd told
  has_resumed after (resumed.Stands asked given allowance) told =
      stood asked given told.0 (subst (λ c. IsLastCall (part_in locked) c asked given) same_client told.1)
      (ap (λ c. calls_in (part_in locked) c) (sym same_client) ∙ told.2 ∙ ap (λ n. n + 1) same_calls)
  has_resumed after (resumed.Dropped allowance) told =
      fallen told.0 (ap (λ c. calls_in (part_in locked) c) (sym same_client) ∙ told.1 ∙ same_calls)
