-- What an entry in doubt that a journal gave back changes.
use Rattle.std.proofs.Common.{◌≡◌, ℕ, ◌+◌, ◌<◌, ◌≤◌, ◌^◌, Bool, false, cond, List, Option, None, Some, IfSome, get_or, unsigned_abs, refl, sym, ap, ◌∙◌, subst, arith}
use Rattle.std.proofs.lemmas.Bool.{eq-eqb, ne_eqb}
use Rattle.std.proofs.lemmas.List.Sums.{get_or-le-sum_by}
use Rattle.tact_base.specs.Setup.{Setup, IsSetup}
use Rattle.tact_base.specs.declared.limits.TheConstants.{CLIENTS}
use Rattle.tact_base.proofs.SetupLemmas.{HasCounts-from_IsSetup}
use Rattle.run_model.specs.Histories.{calls_in, is_call_of, IsPrefix}
use Rattle.run_model.specs.Missing.{granted_by, granted_on, reserved, used_by, used_on}
use Rattle.run_model.specs.Ranges.{IsActInRange, IsRequestInRange}
use Rattle.run_model.specs.Replies.{reply_of}
use Rattle.run_model.specs.Runs.{IsActDue, IsRun}
use Rattle.run_model.specs.declared.call.Reply.{Reply}
use Rattle.run_model.specs.declared.call.Reply.TheVariants as reply
use Rattle.run_model.specs.declared.call.Request.{Request}
use Rattle.run_model.specs.declared.call.Request.TheVariants as request
use Rattle.run_model.specs.declared.entry.Act.{Act}
use Rattle.run_model.specs.declared.entry.Act.TheVariants as act
use Rattle.run_model.specs.declared.entry.Entry.{Entry}
use Rattle.run_model.proofs.PartLemmas.{calls_in-push}
use Rattle.run_history.specs.Seats.{NoteView}
use Rattle.run_history.specs.Ticks.{entries_of}
use Rattle.weight_ledger.specs.Seen.{TallyView}
use Rattle.entry_journal.specs.EntryJournals.{JournalView}
use Rattle.locked_replica.specs.Asking.{conit_of, given_up, granted_if, granted_to}
use Rattle.locked_replica.specs.Journals.{DoubtMayCome, IsJournaled, MayComeNext}
use Rattle.locked_replica.specs.Locks.{HasEntered, IsLocked, LockedView, part_in}
use Rattle.locked_replica.specs.Restarting.{HasReread, found_of}
use Rattle.locked_replica.specs.declared.restarting.Found.{Found}
use Rattle.locked_replica.proofs.Allowing.{part-entered, reserved-entered}
use Rattle.locked_replica.proofs.Entering.{has_room}
use Rattle.replica_lock.specs.Ledgers.{IsAccounted, IsBooked, IsOwedAct, amount_in, doubt_place, doubted_owe, found_owes, nothing_owed, owe_of, owed_by, owed_on}
use Rattle.replica_lock.specs.Nodes.{CountsView}
use Rattle.replica_lock.specs.Sessions.{HasHeard, KeepsSession, NodeView, SessionView}
use Rattle.replica_lock.specs.declared.owe.Owe.{Owe}
use Rattle.replica_lock.proofs.Accounting.{IsMoved, accounted-found}
use Rattle.replica_lock.proofs.LedgerLemmas.{owed_by-here}
use Rattle.replica_lock.proofs.Replying.{held-done, release-released}
use Rattle.replica_lock.proofs.Seeing.{HasHeard-learnt}
use Rattle.replica_lock.proofs.Stepping.{IsSameLabel, IsTurn, step, turn_with}
use Rattle.replica_lock.proofs.Steps.{KeepsSession-noted, noted}
use Rattle.replica_lock.proofs.Turning.{Agreed, in_doubt, tells, width}

-- what is owed to a client whose call is in doubt is no more than what is reserved on its conit
owed-reserved : (locked : LockedView) (book : List ℕ) (owes : List Owe) (client conit : ℕ) (lost : Option ℕ)
    → IsLocked locked
    → IsBooked locked.core.setup.conits locked.totals book owes
    → client < CLIENTS
    → conit < locked.core.setup.conits
    → owe_of owes client ≡ doubted_owe (owe_of owes client) conit lost
    → amount_in lost ≤ reserved (part_in locked) conit
owed-reserved locked book owes client conit lost kept booked among here owed =
    let owe = owe_of owes client in
    let one : owed_by conit owe ≤ owed_on owes conit = get_or-le-sum_by (owed_by conit) owes client nothing_owed (omega (arith, booked.owes_sized, among)) in
    let on : owe.conit ≡ conit = ap (λ (o : Owe). o.conit) owed in
    let of : owe.amount ≡ lost = ap (λ (o : Owe). o.amount) owed in
    let it : owed_by conit owe ≡ amount_in lost = ap (λ k. owed_by k owe) (sym on) ∙ owed_by-here owe ∙ ap amount_in of in
    omega (arith, one, it, booked.amounts conit here, kept.allowances conit here)

-- what is asked for is on a conit of the setup
conit_of-within : (setup : Setup) (asked : Request) → IsSetup setup → IsRequestInRange setup asked → conit_of asked < setup.conits
conit_of-within setup (request.Write weights op) sound inside = omega (arith, (HasCounts-from_IsSetup setup sound).conits_low)
conit_of-within setup (request.Read key needs) sound inside = omega (arith, (HasCounts-from_IsSetup setup sound).conits_low)
conit_of-within setup (request.Held weight op) sound inside = inside.0.conit
conit_of-within setup (request.Reserve conit amount) sound inside = inside.0
conit_of-within setup (request.Release conit amount) sound inside = inside.0

-- what a reserve is granted is reserved on its conit
granted-here : (conit amount : ℕ) (given : Reply) → granted_on conit (request.Reserve conit amount) given ≡ amount_in (granted_if given amount)
granted-here conit amount reply.Granted = ap (λ (b : Bool). cond b amount 0) (eq-eqb conit conit refl)
granted-here conit amount given = refl

-- A call whose reply is due, where enough is reserved: what it gave up and what it was granted is what it moves.
moves : (setup : Setup) (replica : ℕ) (part : List Entry) (moment now : ℕ) (asked : Request) (given : Reply)
    → given ≡ reply_of setup replica part moment asked
    → amount_in (given_up asked) ≤ reserved part (conit_of asked)
    → now + used_on (conit_of asked) asked given ≡ reserved part (conit_of asked) + granted_on (conit_of asked) asked given
    → now + amount_in (given_up asked) ≡ reserved part (conit_of asked) + amount_in (granted_to asked given)
moves setup replica part moment now (request.Write weights op) given due enough moved = moved
moves setup replica part moment now (request.Read key needs) given due enough moved = moved
moves setup replica part moment now (request.Reserve conit amount) given due enough moved = omega (arith, moved, granted-here conit amount given)
moves setup replica part moment now (request.Release conit amount) given due enough moved =
    let is = release-released setup replica part moment given conit amount due enough in
    let used : used_on conit (request.Release conit amount) given ≡ amount =
    ap (used_on conit (request.Release conit amount)) is ∙ ap (λ (b : Bool). cond b amount 0) (eq-eqb conit conit refl) in
    omega (arith, moved, used)
moves setup replica part moment now (request.Held weight op) given due enough moved =
    let is = held-done setup replica part moment given weight op due enough in
    let used : used_on weight.conit (request.Held weight op) given ≡ unsigned_abs weight.nweight =
    ap (used_on weight.conit (request.Held weight op)) is ∙ ap (λ (b : Bool). cond b (unsigned_abs weight.nweight) 0) (eq-eqb weight.conit weight.conit refl) in
    omega (arith, moved, used)

-- a found entry counts for one of a replica's clients
among-found : (setup : Setup) (replica : ℕ) (done : Act) → IsActInRange setup replica done → (found_of done).client < CLIENTS
among-found setup replica (act.Call client number asked given) inside = inside.0
among-found setup replica done inside = omega arith

-- and is no call of a client that isn't in doubt
quiet-found : (conits client : ℕ) (book : List ℕ) (owes : List Owe) (done : Act)
    → get_or book (doubt_place conits client) 0 ≡ 0
    → IsOwedAct conits book owes done
    → is_call_of client done ≡ false
quiet-found conits client book owes (act.Call who number asked given) sure owed =
    ne_eqb who client (λ same. owed.0 (ap (λ k. get_or book (doubt_place conits k) 0) same ∙ sure))
quiet-found conits client book owes done sure owed = refl

-- an entry that may come next, and came
module _ (before after : LockedView) (known : List Entry) (entry : Entry) (book : List ℕ) (owes : List Owe) (sound : IsSetup before.core.setup) (kept : IsLocked before)
    (still : IsLocked after) (booked : IsBooked before.core.setup.conits before.totals book owes) (entered : HasEntered before after known entry)
    (next : MayComeNext before entry) where
  moved-as : (done : Act) → entry.act ≡ done → IsOwedAct before.core.setup.conits book owes done → IsMoved before.core.setup.conits before after done
  moved-as (act.Call client number asked given) is owed =
      let setup = before.core.setup in
      let part = part_in before in
      let range : IsActInRange setup entry.replica (act.Call client number asked given) = subst (IsActInRange setup entry.replica) is next.due.in_range.act in
      let due : IsActDue setup entry.replica part entry.moment (act.Call client number asked given) = subst (IsActDue setup entry.replica part entry.moment) is next.due.act in
      let conit = conit_of asked in
      let here = conit_of-within setup asked sound range.1 in
      let enough = owed-reserved before book owes client conit (given_up asked) kept booked range.0 here owed.1 in
      let went : reserved (part_in after) conit + used_on conit asked given ≡ reserved part conit + granted_on conit asked given =
      subst (λ (d : Act). reserved (part_in after) conit + used_by conit d ≡ reserved part conit + granted_by conit d) is (reserved-entered before after known entry entered still conit) in
      let is_moved = moves setup entry.replica part entry.moment (reserved (part_in after) conit) asked given due.1 enough went in
      (range.0, here, is_moved ∙ ap (λ n. n + amount_in (granted_to asked given)) (sym (kept.allowances conit here)))
  moved-as done is owed = tt

-- A turn that read its journal again.
module _ {node : NodeView} {counts : CountsView} {before after : LockedView} {had : JournalView} {session : SessionView} {tally now : TallyView}
    (agrees : Agreed node counts before session tally now) (accounted : IsAccounted before had counts.book counts.owes) (was_journaled : IsJournaled before had)
    (still : IsLocked after) where
  comes : (entry : Entry) → had.doubt ≡ Some entry → MayComeNext before entry
  comes entry was = subst (DoubtMayCome before) was was_journaled.next

  owed : (entry : Entry) → had.doubt ≡ Some entry → IsOwedAct before.core.setup.conits counts.book counts.owes entry.act
  owed entry was = (accounted.marked.doubt entry was).1

  among_as : (entry : Entry) → had.doubt ≡ Some entry → (found_of entry.act).client < CLIENTS
  among_as entry was = let next = comes entry was in among-found before.core.setup entry.replica entry.act next.due.in_range.act

  -- which client it counts for, and that there is room for it in what is kept for that one
  pub among_reread : (found : Option Found) → HasReread before after had.doubt found → IfSome found (λ one. one.client < CLIENTS)
  among_reread None reread = tt
  among_reread (Some one) reread = subst (λ (f : Found). f.client < CLIENTS) (sym reread.counts) (among_as reread.entry reread.was)

  few-as : (client : ℕ) (entry : Entry) → had.doubt ≡ Some entry → client < CLIENTS → (owe_of counts.owes client).kept + 1 < 2 ^ 64
  few-as client entry was among =
      let next = comes entry was in
      let room = has_room before client agrees.kept among next.due.room in
      omega (arith, room.1, agrees.booked.made client among)

  pub few_reread : (found : Option Found) → HasReread before after had.doubt found → IfSome found (λ one. (owe_of counts.owes one.client).kept + 1 < 2 ^ 64)
  few_reread None reread = tt
  few_reread (Some one) reread = few-as one.client reread.entry reread.was (among_reread (Some one) reread)

  sound : IsSetup before.core.setup
  sound = subst IsSetup (tells agrees).setup agrees.turn.keeps.sound

  moved : (found : Option Found)
      → HasReread before after had.doubt found
      → (one : Found)
      → found ≡ Some one
      → (entry : Entry)
      → had.doubt ≡ Some entry
      → IsMoved session.conits before after entry.act
  moved None reread one is entry was = let no : ⊥ = cc in absurd no
  moved (Some found) reread one is entry was =
      let same : reread.entry ≡ entry = let first = reread.was in cc in
      let entered = subst (HasEntered before after before.clerk.seen) same reread.entered in
      subst (λ n. IsMoved n before after entry.act) (sym (width agrees))
      (moved-as before after before.clerk.seen entry counts.book counts.owes sound agrees.kept still agrees.booked entered (comes entry was) entry.act refl (owed entry was))

  pub after_found : {later : CountsView} {has : JournalView} (found : Option Found)
      → HasReread before after had.doubt found
      → IsSameLabel before after
      → (has.tells ≡ had.tells) × (had.faults ≤ has.faults)
      → IsJournaled after has
      → has.doubt ≡ None
      → later ≡ record counts { owes = found_owes found counts.owes }
      → IsTurn node later after has
  after_found {later} {has} found reread label told journaled none is =
      turn_with agrees accounted label told journaled counts.book (found_owes found counts.owes) is
      (accounted-found (step agrees accounted label told journaled) found none reread (moved found reread))

  -- a session that isn't in doubt has as many calls there as before
  pub calls_reread : (found : Option Found)
      → HasReread before after had.doubt found
      → session.doubt ≡ false
      → calls_in (part_in after) session.client ≡ calls_in (part_in before) session.client
  calls_reread None reread certain = ap (λ pairs. calls_in (entries_of pairs) session.client) reread.0
  calls_reread (Some found) reread certain =
      let entry = reread.entry in
      let sure : get_or counts.book (doubt_place before.core.setup.conits session.client) 0 ≡ 0 =
      ap (λ n. get_or counts.book (doubt_place n session.client) 0) (sym (width agrees)) ∙ in_doubt agrees ∙ ap (λ (b : Bool). cond b 1 0) certain in
      let quiet = quiet-found before.core.setup.conits session.client counts.book counts.owes entry.act sure (owed entry reread.was) in
      omega (
        arith,
        ap (λ part. calls_in part session.client) (part-entered before after before.clerk.seen entry reread.entered),
        calls_in-push (part_in before) entry session.client,
        ap (λ (b : Bool). let n : ℕ = cond b 1 0 in n) quiet,
      )

  -- so the session has heard what the clerk has seen
  module _ {node_as : NodeView} (note : NoteView) (found : Option Found) (reread : HasReread before after had.doubt found) (label : IsSameLabel before after)
      (seen : (note.table ≡ session.desk) × (note.seen ≡ after.clerk.seen)) (learnt : IsPrefix session.seen note.seen)
      (same : node_as ≡ node) (runs : IsRun node_as.desk.setup note.seen) where
    value : noted session now note ≡ record session { seen = after.clerk.seen }
    value = let cells = agrees.cell in let desks = seen.0 in let seens = seen.1 in cc

    pub heard_reread : HasHeard node.desk.setup session session (noted session now note)
    heard_reread =
        let knows = tells agrees in
        let run = subst (λ (n : NodeView). IsRun n.desk.setup note.seen) same runs in
        HasHeard-learnt node.desk.setup agrees.turn.keeps.sound after session (noted session now note) still (knows.replica ∙ sym label.1)
        (λ certain. knows.calls certain ∙ sym (calls_reread found reread certain))
        knows.known (subst (IsPrefix session.seen) seen.1 learnt) (subst (IsRun node.desk.setup) seen.1 run) value

    pub keeps_reread : now ≡ tally → KeepsSession (noted session now note) now
    keeps_reread is = KeepsSession-noted note agrees.keeps is learnt heard_reread.calls
