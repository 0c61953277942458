-- What stays true of a node's book, what it owes and its journal at each step.
use Rattle.std.proofs.Common.{◌≡◌, ◌≢◌, ℕ, ◌+◌, ◌-◌, ◌*◌, ◌<◌, ◌≤◌, Bool, true, false, zero, suc, List, Option, None, Some, get_or, set, take, replicate, refl, sym, ap, ◌∙◌, subst, arith}
use Rattle.std.proofs.lemmas.List.{drop-replicate, get_or-replicate, length-replicate, take-replicate}
use Rattle.std.proofs.lemmas.List.Sums.{sum_by-cons}
use Rattle.std.specs.Prelude.{IsTrue, slice_index, slice_set, sum}
use Rattle.tact_base.specs.declared.limits.TheConstants.{CLIENTS}
use Rattle.tact_io.specs.Faults.{HasRisen}
use Rattle.run_model.specs.Missing.{reserved}
use Rattle.run_model.specs.declared.call.Request.{Request}
use Rattle.run_model.specs.declared.entry.Act.{Act}
use Rattle.run_model.specs.declared.entry.Act.TheVariants as act
use Rattle.run_model.specs.declared.entry.Entry.{Entry}
use Rattle.replica_core.specs.States.{Core}
use Rattle.weight_ledger.specs.Amounts.{zeros}
use Rattle.entry_journal.specs.EntryJournals.{IsUntouched, JournalView}
use Rattle.locked_replica.specs.Asking.{conit_of, given_up, granted_to}
use Rattle.locked_replica.specs.Journals.{IsInDoubtAfter, IsRefusal, call_in}
use Rattle.locked_replica.specs.Loans.{IsLentInDoubt, IsLoanRefusal}
use Rattle.locked_replica.specs.Locks.{LockedView, entry_in, made_place, one_more_at, part_in, turns_place}
use Rattle.locked_replica.specs.Restarting.{HasReread, HasRestartDoubt, HasTotalsWith, IsNoCall, IsRereadRefusal, IsRestartRefusal, found_of}
use Rattle.locked_replica.specs.declared.fault.NodeFault.{NodeFault}
use Rattle.locked_replica.specs.declared.fault.NodeFault.TheVariants as fault
use Rattle.locked_replica.specs.declared.fault.NodeLoanFault.{NodeLoanFault}
use Rattle.locked_replica.specs.declared.fault.NodeLoanFault.TheVariants as loan_fault
use Rattle.locked_replica.specs.declared.fault.RestartFault.{RestartFault}
use Rattle.locked_replica.specs.declared.fault.RestartFault.TheVariants as restart_fault
use Rattle.locked_replica.specs.declared.loan.Loan.{Loan}
use Rattle.locked_replica.specs.declared.restarting.Found.{Found}
use Rattle.replica_lock.specs.Ledgers.{IsAccounted, IsBooked, IsMarked, IsOwedAct, all_clients, all_faults, all_halts, all_kept, amount_in, doubt_place, doubted_owe, failed_book, failed_owes, faults_place, found_owes, halts_place, lent_book, less_at, marked_at, nothing_owed, owe_of, owed_by, owed_on, restart_book, resumed_book, resumed_owe, risen, standing, told_book}
use Rattle.replica_lock.specs.declared.owe.Owe.{Owe}
use Rattle.replica_lock.proofs.LedgerLemmas.{booked-call, booked-entry, booked-failed, booked-found, booked-kept, booked-mark, booked-resumed, failed-doubt, owe_of-set, owed_by-nothing}
use Rattle.replica_lock.proofs.Marks.{counted-marks, fault-doubts, fault-halts, fault-most, fault-some, halt-doubts, halt-faults, halts-same, marked-fault, marked-on, owed-act, owed-no_call, resumed-marks}
use Rattle.replica_lock.proofs.SumsByClient.{kept-at, sums-before, sums-behind}

-- What an entry in doubt that a journal gave back moves on a conit, where it is a call: what is reserved there and what
-- the call gave up are together what was reserved there and what it was granted.
abbrev pub IsMoved : ℕ → LockedView → LockedView → Act → Type 0
IsMoved conits before after (act.Call client number asked given) =
    (client < CLIENTS) × (conit_of asked < conits)
    × (reserved (part_in after) (conit_of asked) + amount_in (given_up asked) ≡ slice_index before.totals (conit_of asked) + amount_in (granted_to asked given))
IsMoved conits before after done = Unit {0}

-- A step of a node with so many conits, from a value and a journal that its book goes with: the journal tells its pieces
-- as before, and has counted no fewer faults.
pub record IsStep (conits : ℕ) (before after : LockedView) (had has : JournalView) (book : List ℕ) (owes : List Owe) : Type 0 where
  pub accounted : IsAccounted before had book owes
  pub conits_before : before.core.setup.conits ≡ conits
  pub conits_after : after.core.setup.conits ≡ conits
  pub tells : has.tells ≡ had.tells
  pub no_less : had.faults ≤ has.faults

module _ {conits : ℕ} {before after : LockedView} {had has : JournalView} {book : List ℕ} {owes : List Owe} (step : IsStep conits before after had has book owes) where
  booked : IsBooked conits before.totals book owes
  booked = subst (λ (c : ℕ). IsBooked c before.totals book owes) step.conits_before step.accounted.booked

  marked : IsMarked conits had book owes
  marked = subst (λ (c : ℕ). IsMarked c had book owes) step.conits_before step.accounted.marked

  -- the book after the step, where it is booked beside these totals and marked
  accounted : (totals more : List ℕ) (later : List Owe)
      → after.totals ≡ totals
      → IsBooked conits totals more later
      → IsMarked conits has more later
      → IsAccounted after has more later
  accounted totals more later are books marks = record {
    booked = subst (λ (c : ℕ). IsBooked c after.totals more later) (sym step.conits_after) (subst (λ (t : List ℕ). IsBooked conits t more later) (sym are) books);
    marked = subst (λ (c : ℕ). IsMarked c has more later) (sym step.conits_after) marks;
  }

  -- what was in doubt still is
  doubt-kept : has.doubt ≡ had.doubt
      → (more : List ℕ)
      → ((client : ℕ) → get_or more (doubt_place conits client) 0 ≡ get_or book (doubt_place conits client) 0)
      → (entry : Entry)
      → has.doubt ≡ Some entry
      → (all_faults conits book ≢ 0) × IsOwedAct conits more owes entry.act
  doubt-kept kept more same entry was =
      let now = marked.doubt entry (sym kept ∙ was) in (now.0, owed-act conits book more owes entry.act same now.1)

  -- and where nothing is, there is nothing to show
  doubt-none : has.doubt ≡ None
      → (more : List ℕ) (later : List Owe) (entry : Entry)
      → has.doubt ≡ Some entry
      → (all_faults conits book ≢ 0) × IsOwedAct conits more later entry.act
  doubt-none none more later entry was = let no : ⊥ = cc in absurd no

  -- a step that changes nothing of the totals, of what is marked and of what is in doubt
  pub accounted-same : after.totals ≡ before.totals → has.doubt ≡ had.doubt → IsAccounted after has book owes
  accounted-same are kept =
      accounted before.totals book owes are booked
      (marked-on conits had has book book owes owes marked step.tells step.no_less refl (halts-same conits had has book book owes owes marked step.tells step.no_less refl) marked.kept
      (doubt-kept kept book (λ client. refl)))

  pub accounted-untouched : after.totals ≡ before.totals → IsUntouched had has → IsAccounted after has book owes
  accounted-untouched are untouched = accounted-same are untouched.doubt

  -- a halt that is marked for a client, where the journal counted a fault or doesn't tell its pieces
  pub accounted-halt : (client : ℕ)
      → client < CLIENTS
      → after.totals ≡ before.totals
      → has.doubt ≡ had.doubt
      → (IsTrue has.tells → has.faults ≢ 0)
      → IsAccounted after has (marked_at (halts_place conits client) book) owes
  accounted-halt client among are kept counted =
      let place = halts_place conits client in
      let more = marked_at place book in
      accounted before.totals more owes are (booked-mark conits place (risen (get_or book place 0)) before.totals book owes booked (omega arith) (omega (arith, among)))
      (marked-on conits had has book more owes owes marked step.tells step.no_less (halt-faults conits client book booked.book_sized among) (λ some. counted) marked.kept
      (doubt-kept kept more (halt-doubts conits client book booked.book_sized among)))

  -- a fault that is marked for a client, where the journal counted one
  pub accounted-fault : (client : ℕ)
      → client < CLIENTS
      → after.totals ≡ before.totals
      → HasRisen had.faults has.faults
      → ((entry : Entry) → has.doubt ≡ Some entry → IsOwedAct conits book owes entry.act)
      → IsAccounted after has (marked_at (faults_place conits client) book) owes
  accounted-fault client among are rises doubt =
      let place = faults_place conits client in
      let more = marked_at place book in
      let size = booked.book_sized in
      accounted before.totals more owes are (booked-mark conits place (risen (get_or book place 0)) before.totals book owes booked (omega arith) (omega (arith, among)))
      (marked-fault conits had has book more owes owes marked step.tells step.no_less (fault-most conits client book size among) (fault-some conits client book size among) rises
      (fault-halts conits client book size among) (λ entry was. owed-act conits book more owes entry.act (fault-doubts conits client book size among) (doubt entry was)))

  -- an answered call of a client, where what is out on its conit goes as far as what is reserved there
  pub accounted-call : (client conit first last : ℕ)
      → client < CLIENTS
      → conit < conits
      → slice_index before.totals conit ≡ first
      → first ≤ last + slice_index book conit
      → after.totals ≡ slice_set (one_more_at (made_place conits client) (one_more_at (turns_place conits client) before.totals)) conit last
      → has.doubt ≡ None
      → IsAccounted after has (slice_set (one_more_at (made_place conits client) (one_more_at (turns_place conits client) book)) conit (slice_index book conit + last - first)) owes
  accounted-call client conit first last among here was enough are none =
      let told = get_or book conit 0 + last - first in
      let more = set (one_more_at (made_place conits client) (one_more_at (turns_place conits client) book)) conit told in
      let marks = counted-marks conits client conit told book among here in
      accounted _ more owes are (booked-call conits client conit last told before.totals book owes booked among here (omega (arith, was, enough)))
      (marked-on conits had has book more owes owes marked step.tells step.no_less (marks (conits + 2 * CLIENTS) (omega arith))
      (halts-same conits had has book more owes owes marked step.tells step.no_less (marks (conits + 3 * CLIENTS) (omega arith))) marked.kept (doubt-none none more owes))

  -- any other entry, made for a client
  pub accounted-entry : (client : ℕ)
      → client < CLIENTS
      → after.totals ≡ one_more_at (made_place conits client) before.totals
      → has.doubt ≡ None
      → IsAccounted after has (one_more_at (made_place conits client) book) owes
  accounted-entry client among are none =
      let place = made_place conits client in
      let more = one_more_at place book in
      let number = get_or book place 0 + 1 in
      accounted _ more owes are (booked-entry conits client before.totals book owes booked among)
      (marked-on conits had has book more owes owes marked step.tells step.no_less (sums-before (conits + 2 * CLIENTS) place number book (omega (arith, among)))
      (halts-same conits had has book more owes owes marked step.tells step.no_less (sums-before (conits + 3 * CLIENTS) place number book (omega (arith, among)))) marked.kept
      (doubt-none none more owes))

  counted-some : had.faults ≢ 0 → has.faults ≢ 0
  counted-some some none = some (omega (arith, none, step.no_less))

  -- where a halted journal that tells its pieces counted a fault, it still has
  halted-counted : (had.halted ≡ true → IsTrue had.tells → had.faults ≢ 0) → had.halted ≡ true → IsTrue has.tells → has.faults ≢ 0
  halted-counted counted halted told = counted-some (counted halted (subst (λ (b : Bool). IsTrue b) step.tells told))

  -- the one entry that is in doubt is no call
  no_call-owed : (entry : Entry) → IsNoCall entry.act → has.doubt ≡ Some entry → (other : Entry) → has.doubt ≡ Some other → IsOwedAct conits book owes other.act
  no_call-owed entry none is other was =
      let same : entry ≡ other = cc in
      owed-no_call conits book owes other.act (subst (λ (e : Entry). IsNoCall e.act) same none)

  -- a refusal of a step that is no call
  pub accounted-told : (client : ℕ) (core : Core) (entry : Entry) (told : NodeFault)
      → client < CLIENTS
      → after.totals ≡ before.totals
      → (had.halted ≡ true → IsTrue had.tells → had.faults ≢ 0)
      → IsNoCall entry.act
      → IsRefusal core had has told
      → IsInDoubtAfter has entry told
      → IsAccounted after has (told_book conits client told book) owes
  accounted-told client core entry fault.Halted among are counted no_call refused doubt = accounted-halt client among are refused.1.doubt (halted-counted counted refused.0)
  accounted-told client core entry (fault.Full count clock) among are counted no_call refused doubt = accounted-untouched are refused.4
  accounted-told client core entry fault.NoMemory among are counted no_call refused doubt = accounted-untouched are refused.2
  accounted-told client core entry fault.JournalFault among are counted no_call refused doubt = accounted-fault client among are refused.3 (no_call-owed entry no_call doubt)

  pub accounted-lent : (client : ℕ) (core : Core) (part : List Entry) (asked : Loan) (entry : Entry) (told : NodeLoanFault)
      → client < CLIENTS
      → after.totals ≡ before.totals
      → (had.halted ≡ true → IsTrue had.tells → had.faults ≢ 0)
      → IsNoCall entry.act
      → IsLoanRefusal core part had has asked told
      → IsLentInDoubt has entry told
      → IsAccounted after has (lent_book conits client told book) owes
  accounted-lent client core part asked entry (loan_fault.Node told) among are counted no_call refused doubt = accounted-told client core entry told among are counted no_call refused.0 doubt
  accounted-lent client core part asked entry (loan_fault.Home conit home) among are counted no_call refused doubt = accounted-untouched are refused.3
  accounted-lent client core part asked entry (loan_fault.Free conit free) among are counted no_call refused doubt = accounted-untouched are refused.3

  -- a refused call of a client: where the journal failed, the client is in doubt, and what the call takes is kept for it
  failed : (state : LockedView) (moment client conit : ℕ) (lost : Option ℕ) (asked : Request)
      → client < CLIENTS
      → conit < conits
      → conit_of asked ≡ conit
      → lost ≡ given_up asked
      → get_or book (doubt_place conits client) 0 ≡ 0
      → amount_in lost ≤ get_or book conit 0
      → after.totals ≡ before.totals
      → HasRisen had.faults has.faults
      → has.doubt ≡ Some (call_in state moment client asked)
      → IsAccounted after has (failed_book conits client conit lost fault.JournalFault book) (failed_owes client conit lost fault.JournalFault owes)
  failed state moment client conit lost asked among here on takes sure enough are rises is =
      let place = faults_place conits client in
      let mark = risen (get_or book place 0) in
      let once = set book place mark in
      let paid = less_at conit (amount_in lost) once in
      let number = get_or paid (doubt_place conits client) 0 + 1 in
      let more = one_more_at (doubt_place conits client) paid in
      let owe = doubted_owe (owe_of owes client) conit lost in
      let later = set owes client owe in
      let size = booked.book_sized in
      let past : conits + 2 * CLIENTS ≤ place = omega arith in
      let behind : place < conits + 4 * CLIENTS = omega (arith, among) in
      let faults : all_faults conits more ≡ all_faults conits once =
      sums-behind (conits + 2 * CLIENTS) (doubt_place conits client) number paid (omega arith) ∙ sums-before (conits + 2 * CLIENTS) conit (get_or once conit 0 - amount_in lost) once (omega (arith, here)) in
      let halts : all_halts conits more ≡ all_halts conits book =
      sums-behind (conits + 3 * CLIENTS) (doubt_place conits client) number paid (omega arith) ∙ sums-before (conits + 3 * CLIENTS) conit (get_or once conit 0 - amount_in lost) once (omega (arith, here))
      ∙ fault-halts conits client book size among in
      let most : all_faults conits more ≤ all_faults conits book + 1 = omega (arith, faults, fault-most conits client book size among) in
      let due : owe_of later client ≡ owe = owe_of-set owes client owe (omega (arith, booked.owes_sized, among)) in
      let same : owe ≡ doubted_owe (owe_of owes client) (conit_of asked) (given_up asked) =
      ap (λ (c : ℕ). doubted_owe (owe_of owes client) c lost) (sym on) ∙ ap (λ (l : Option ℕ). doubted_owe (owe_of owes client) (conit_of asked) l) takes in
      let owed : owe_of later client ≡ doubted_owe (owe_of later client) (conit_of asked) (given_up asked) =
      due ∙ same ∙ sym (ap (λ (o : Owe). doubted_owe o (conit_of asked) (given_up asked)) due) in
      let doubt_now = failed-doubt conits client conit mark place lost before.totals book owes booked among here past behind sure enough in
      let doubted : get_or more (doubt_place conits client) 0 ≢ 0 = λ none. absurd (omega (arith, none, doubt_now)) in
      accounted before.totals more later are (booked-failed conits client conit mark place lost before.totals book owes booked among here past behind sure enough)
      (marked-fault conits had has book more owes later marked step.tells step.no_less most (λ none. fault-some conits client book size among (sym faults ∙ none)) rises halts
      (λ entry was.
      let it : call_in state moment client asked ≡ entry = cc in
      subst (λ (e : Entry). IsOwedAct conits more later e.act) it (doubted, owed)))

  pub accounted-failed : (core : Core) (state : LockedView) (moment client conit : ℕ) (lost : Option ℕ) (asked : Request) (told : NodeFault)
      → client < CLIENTS
      → conit < conits
      → conit_of asked ≡ conit
      → lost ≡ given_up asked
      → slice_index book (doubt_place conits client) ≡ 0
      → amount_in lost ≤ slice_index book conit
      → after.totals ≡ before.totals
      → (had.halted ≡ true → IsTrue had.tells → had.faults ≢ 0)
      → IsRefusal core had has told
      → IsInDoubtAfter has (call_in state moment client asked) told
      → IsAccounted after has (failed_book conits client conit lost told book) (failed_owes client conit lost told owes)
  accounted-failed core state moment client conit lost asked fault.Halted among here on takes sure enough are counted refused doubt =
      accounted-halt client among are refused.1.doubt (halted-counted counted refused.0)
  accounted-failed core state moment client conit lost asked (fault.Full count clock) among here on takes sure enough are counted refused doubt = accounted-untouched are refused.4
  accounted-failed core state moment client conit lost asked fault.NoMemory among here on takes sure enough are counted refused doubt = accounted-untouched are refused.2
  accounted-failed core state moment client conit lost asked fault.JournalFault among here on takes sure enough are counted refused doubt =
      failed state moment client conit lost asked among here on takes sure enough are refused.3 doubt

  -- why the journal wasn't read again, which leaves what is in doubt
  pub accounted-reread_refused : (client : ℕ) (told : RestartFault)
      → client < CLIENTS
      → after.totals ≡ before.totals
      → has.doubt ≡ had.doubt
      → IsRereadRefusal had has told
      → IsAccounted after has (restart_book conits client told book) owes
  accounted-reread_refused client restart_fault.NoMemory among are kept refused = accounted-same are kept
  accounted-reread_refused client restart_fault.JournalReadFault among are kept refused =
      accounted-fault client among are refused.1 (λ entry was. (marked.doubt entry (sym kept ∙ was)).1)
  accounted-reread_refused client (restart_fault.Foreign place) among are kept refused =
      accounted-halt client among are kept (λ told. absurd (refused.1 (subst (λ (b : Bool). IsTrue b) step.tells told)))
  accounted-reread_refused client (restart_fault.Full count clock) among are kept refused = absurd refused
  accounted-reread_refused client restart_fault.JournalFault among are kept refused = absurd refused

  -- why no Restart was made, where nothing was in doubt
  pub accounted-restart_refused : (core : Core) (state : LockedView) (moment client : ℕ) (told : RestartFault)
      → client < CLIENTS
      → after.totals ≡ before.totals
      → IsRestartRefusal core had has told
      → HasRestartDoubt state moment has told
      → IsAccounted after has (restart_book conits client told book) owes
  accounted-restart_refused core state moment client (restart_fault.Full count clock) among are refused doubt = accounted-untouched are refused.3
  accounted-restart_refused core state moment client restart_fault.NoMemory among are refused doubt = accounted-untouched are refused.1
  accounted-restart_refused core state moment client restart_fault.JournalFault among are refused doubt =
      accounted-fault client among are refused.2 (no_call-owed (entry_in state moment act.Restart) tt doubt)
  accounted-restart_refused core state moment client restart_fault.JournalReadFault among are refused doubt = absurd refused
  accounted-restart_refused core state moment client (restart_fault.Foreign place) among are refused doubt = absurd refused

  -- nothing is in doubt, and the faults that were marked are, so that restarts may have drawn entries
  found-marked : (later : List Owe) → has.doubt ≡ None → all_faults conits book ≢ 0 → IsMarked conits has book later
  found-marked later none some =
      marked-on conits had has book book owes later marked step.tells step.no_less refl (halts-same conits had has book book owes later marked step.tells step.no_less refl) (λ no. absurd (some no))
      (doubt-none none book later)

  -- an entry in doubt that a journal gave back: a call, or any other, which counts for client 0
  redrawn : (done : Act) (found : Found)
      → has.doubt ≡ None
      → all_faults conits book ≢ 0
      → IsOwedAct conits book owes done
      → HasTotalsWith before after done
      → found ≡ found_of done
      → IsMoved conits before after done
      → IsAccounted after has book (found_owes (Some found) owes)
  redrawn (act.Call client number asked given) found none some owed are is moved =
      let place = conit_of asked in
      let last = reserved (part_in after) place in
      let here = are ∙ ap (λ (c : ℕ). set (one_more_at (made_place c client) (one_more_at (turns_place c client) before.totals)) place last) step.conits_before in
      let later = found_owes (Some (found_of (act.Call client number asked given))) owes in
      subst (λ (f : Found). IsAccounted after has book (found_owes (Some f) owes)) (sym is)
      (accounted (set (one_more_at (made_place conits client) (one_more_at (turns_place conits client) before.totals)) place last) book later here
      (booked-found conits client place last (given_up asked) (granted_to asked given) before.totals book owes booked moved.0 moved.1 owed.0 owed.1 moved.2)
      (found-marked later none some))
  redrawn done found none some owed are is moved =
      let here = are ∙ ap (λ (c : ℕ). one_more_at (made_place c 0) before.totals) step.conits_before in
      let later = found_owes (Some (record { client = 0; call = false; granted = None })) owes in
      subst (λ (f : Found). IsAccounted after has book (found_owes (Some f) owes)) (sym is)
      (accounted (one_more_at (made_place conits 0) before.totals) book later here (booked-kept conits 0 before.totals book owes booked (omega arith)) (found-marked later none some))

  -- The journal was read again: nothing is in doubt, and what it gave back of a call moves as much on its conit as it was
  -- granted beyond what it gave up.
  pub accounted-found : (found : Option Found)
      → has.doubt ≡ None
      → HasReread before after had.doubt found
      → ((one : Found) → found ≡ Some one → (entry : Entry) → had.doubt ≡ Some entry → IsMoved conits before after entry.act)
      → IsAccounted after has book (found_owes found owes)
  accounted-found None none reread moved =
      accounted before.totals book owes reread.1 booked
      (marked-on conits had has book book owes owes marked step.tells step.no_less refl (halts-same conits had has book book owes owes marked step.tells step.no_less refl) marked.kept
      (doubt-none none book owes))
  accounted-found (Some found) none reread moved =
      let was = marked.doubt reread.entry reread.was in
      redrawn reread.entry.act found none was.0 was.1 reread.totals reread.counts (moved found refl reread.entry reread.was)

  -- A client resumed: what it is owed is out to it, and nothing is in doubt.
  pub accounted-resumed : (client : ℕ)
      → client < CLIENTS
      → after.totals ≡ before.totals
      → has.doubt ≡ None
      → ((owe_of owes client).amount ≢ None → (owe_of owes client).conit < conits)
      → IsAccounted after has (resumed_book conits client (owe_of owes client) book) (set owes client (resumed_owe (owe_of owes client)))
  accounted-resumed client among are none here =
      let owe = owe_of owes client in
      let more = resumed_book conits client owe book in
      let later = set owes client (resumed_owe owe) in
      let marks = resumed-marks conits client owe book among here in
      let kept : all_kept later ≡ all_kept owes = omega (arith, kept-at owes client (resumed_owe owe) (omega (arith, booked.owes_sized, among))) in
      accounted before.totals more later are (booked-resumed conits client before.totals book owes booked among here)
      (marked-on conits had has book more owes later marked step.tells step.no_less (marks (conits + 2 * CLIENTS) (omega arith) (omega arith))
      (halts-same conits had has book more owes later marked step.tells step.no_less (marks (conits + 3 * CLIENTS) (omega arith) (omega arith))) (λ no. kept ∙ marked.kept no)
      (doubt-none none more later))

-- A node that begins: nothing is counted, marked, owed or in doubt.
none-owed : (n conit : ℕ) → owed_on (replicate n nothing_owed) conit ≡ 0
none-owed zero conit = refl
none-owed (suc n) conit = omega (arith, sum_by-cons (owed_by conit) nothing_owed (replicate n nothing_owed), owed_by-nothing nothing_owed conit refl, none-owed n conit)

none-at : (n p : ℕ) → p < n → get_or (zeros n) p 0 ≡ 0
none-at n p within = get_or-replicate {A = ℕ} n p 0 0 within

none-marked : (place n : ℕ) → place + CLIENTS ≤ n → all_clients place (zeros n) ≡ 0
none-marked place n within =
    ap (λ (l : List ℕ). sum (take CLIENTS l)) (drop-replicate place n 0) ∙ ap (λ (l : List ℕ). sum l) (take-replicate CLIENTS (n - place) 0 (omega (arith, within)))

pub accounted-new : (conits : ℕ) (state : LockedView) (journal : JournalView)
    → state.core.setup.conits ≡ conits
    → state.totals ≡ zeros (conits + 2 * CLIENTS)
    → journal.doubt ≡ None
    → IsAccounted state journal (zeros (conits + 5 * CLIENTS)) (replicate CLIENTS nothing_owed)
accounted-new conits state journal sized are none =
    let books : IsBooked conits (zeros (conits + 2 * CLIENTS)) (zeros (conits + 5 * CLIENTS)) (replicate CLIENTS nothing_owed) =
    record {
      totals_sized = length-replicate {A = ℕ} (conits + 2 * CLIENTS) 0;
      book_sized = length-replicate {A = ℕ} (conits + 5 * CLIENTS) 0;
      owes_sized = length-replicate CLIENTS nothing_owed;
      amounts = λ conit inside. omega (arith, none-at (conits + 2 * CLIENTS) conit (omega arith), none-at (conits + 5 * CLIENTS) conit (omega arith), none-owed CLIENTS conit);
      turns = λ client among.
          omega (
            arith,
            none-at (conits + 2 * CLIENTS) (turns_place conits client) (omega arith),
            none-at (conits + 5 * CLIENTS) (turns_place conits client) (omega arith),
            ap standing (get_or-replicate CLIENTS client nothing_owed nothing_owed among),
          );
      made = λ client among.
          omega (
            arith,
            none-at (conits + 2 * CLIENTS) (made_place conits client) (omega arith),
            none-at (conits + 5 * CLIENTS) (made_place conits client) (omega arith),
            ap (λ (o : Owe). o.kept) (get_or-replicate CLIENTS client nothing_owed nothing_owed among),
          );
      certain = λ client among sure.
          (ap (λ (o : Owe). o.stands) (get_or-replicate CLIENTS client nothing_owed nothing_owed among), ap (λ (o : Owe). o.amount) (get_or-replicate CLIENTS client nothing_owed nothing_owed among));
      within = λ client among some. absurd (some (ap (λ (o : Owe). o.amount) (get_or-replicate CLIENTS client nothing_owed nothing_owed among)));
    } in
    let marks : IsMarked conits journal (zeros (conits + 5 * CLIENTS)) (replicate CLIENTS nothing_owed) =
    record {
      faults = λ counts. omega (arith, none-marked (conits + 2 * CLIENTS) (conits + 5 * CLIENTS) (omega arith));
      halts = λ some. absurd (some (none-marked (conits + 3 * CLIENTS) (conits + 5 * CLIENTS) (omega arith)));
      kept = λ no. refl;
      doubt = λ entry was. let no : ⊥ = cc in absurd no;
    } in
    record {
      booked = subst (λ (c : ℕ). IsBooked c state.totals (zeros (conits + 5 * CLIENTS)) (replicate CLIENTS nothing_owed)) (sym sized)
          (subst (λ (t : List ℕ). IsBooked conits t (zeros (conits + 5 * CLIENTS)) (replicate CLIENTS nothing_owed)) (sym are) books);
      marked = subst (λ (c : ℕ). IsMarked c journal (zeros (conits + 5 * CLIENTS)) (replicate CLIENTS nothing_owed)) (sym sized) marks;
    }
