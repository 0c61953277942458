-- What a step on a turn leaves of what the turn keeps.
use Rattle.std.proofs.Common.{◌≡◌, ◌≢◌, ℕ, ◌+◌, ◌-◌, ◌<◌, ◌≤◌, Bool, true, false, cond, List, Option, refl, sym, ap, ◌∙◌, subst, arith}
use Rattle.std.specs.Prelude.{IsTrue, slice_index, slice_set}
use Rattle.tact_base.specs.Setup.{Setup}
use Rattle.run_model.specs.Histories.{IsPrefix}
use Rattle.run_model.specs.declared.call.Request.{Request}
use Rattle.run_model.specs.declared.entry.Entry.{Entry}
use Rattle.entry_journal.specs.EntryJournals.{JournalView}
use Rattle.weight_ledger.specs.Seen.{CellView, TallyView}
use Rattle.locked_replica.specs.Asking.{conit_of, given_up}
use Rattle.locked_replica.specs.Journals.{IsInDoubtAfter, IsJournaled, IsRefusal, call_in}
use Rattle.locked_replica.specs.Loans.{IsLentInDoubt, IsLoanRefusal}
use Rattle.locked_replica.specs.Locks.{LockedView, made_place, one_more_at, part_in, turns_place}
use Rattle.locked_replica.specs.Restarting.{HasRestartDoubt, IsNoCall, IsRereadRefusal, IsRestartRefusal}
use Rattle.locked_replica.specs.declared.fault.NodeFault.{NodeFault}
use Rattle.locked_replica.specs.declared.fault.NodeLoanFault.{NodeLoanFault}
use Rattle.locked_replica.specs.declared.fault.RestartFault.{RestartFault}
use Rattle.locked_replica.specs.declared.loan.Loan.{Loan}
use Rattle.replica_lock.specs.Ledgers.{IsAccounted, amount_in, failed_book, failed_owes, lent_book, restart_book, told_book}
use Rattle.replica_lock.specs.Nodes.{CountsView, KeepsNode, KeepsTurn, label_of}
use Rattle.replica_lock.specs.Sessions.{NodeView, SessionView}
use Rattle.replica_lock.specs.declared.label.Label.{Label}
use Rattle.replica_lock.specs.declared.owe.Owe.{Owe}
use Rattle.locked_replica.proofs.Journaling.{IsJournaled-same, IsUntouched-refl}
use Rattle.replica_lock.proofs.Accounting.{IsStep, accounted-call, accounted-entry, accounted-failed, accounted-lent, accounted-reread_refused, accounted-restart_refused, accounted-told, accounted-untouched}
use Rattle.replica_lock.proofs.Turning.{Agreed, in_doubt, width}

-- the setup, the replica and the table of the clerk stay
abbrev pub IsSameLabel : LockedView → LockedView → Type 0
IsSameLabel before after = (after.core.setup ≡ before.core.setup) × (after.core.replica ≡ before.core.replica) × (after.clerk.table ≡ before.clerk.table)

-- what a turn keeps
abbrev pub IsTurn : NodeView → CountsView → LockedView → JournalView → Type 0
IsTurn node counts locked journal = KeepsTurn node counts locked × IsJournaled locked journal × IsAccounted locked journal counts.book counts.owes

-- and that its journal tells its pieces or not
pub with_tells : {node : NodeView} {counts : CountsView} {locked : LockedView} {journal : JournalView} {tells : Bool}
    → IsTurn node counts locked journal
    → journal.tells ≡ tells
    → KeepsTurn node counts locked × IsJournaled locked journal × IsAccounted locked journal counts.book counts.owes × (journal.tells ≡ tells)
with_tells turn same = (turn.0, turn.1, turn.2, same)

pub keeps_turn : {node : NodeView} {counts later : CountsView} {before after : LockedView}
    → KeepsTurn node counts before
    → later.cell ≡ counts.cell
    → IsSameLabel before after
    → KeepsTurn node later after
keeps_turn {node} {counts} {later} {before} {after} turn cells label =
    let setups = label.0 in
    let replicas = label.1 in
    let tables = label.2 in
    let labels : label_of after ≡ label_of before = cc in
    record {
      cell = ap (λ (c : CellView Label). c.id) cells ∙ turn.cell;
      keeps = subst (KeepsNode node.desk) (sym cells) turn.keeps;
      replica = ap (λ (c : CellView Label). c.label.replica) cells ∙ turn.replica;
      label = labels ∙ turn.label ∙ sym (ap (λ (c : CellView Label). c.label) cells);
    }

-- A step with a session of the node: the journal tells its pieces as before, and has counted no fewer faults.
module _ {node : NodeView} {counts : CountsView} {before after : LockedView} {had has : JournalView} {session : SessionView} {tally now : TallyView}
    (agrees : Agreed node counts before session tally now) (accounted : IsAccounted before had counts.book counts.owes) (label : IsSameLabel before after)
    (told : (has.tells ≡ had.tells) × (had.faults ≤ has.faults)) (journaled : IsJournaled after has) where
  pub step : IsStep session.conits before after had has counts.book counts.owes
  step = record {
    accounted = accounted;
    conits_before = sym (width agrees);
    conits_after = ap (λ (s : Setup). s.conits) label.0 ∙ sym (width agrees);
    tells = told.0;
    no_less = told.1;
  }

  pub turn_with : {later : CountsView} (book : List ℕ) (owes : List Owe)
      → later ≡ record counts { book = book; owes = owes }
      → IsAccounted after has book owes
      → IsTurn node later after has
  turn_with {later} book owes is goes = (
    keeps_turn agrees.turn (ap (λ (c : CountsView). c.cell) is) label,
    journaled,
    subst (λ (c : CountsView). IsAccounted after has c.book c.owes) (sym is) goes,
  )

  -- an entry that is no call was made for the session's client
  pub after_entry : {later : CountsView} → has.halted ≡ false
      → after.totals ≡ one_more_at (made_place before.core.setup.conits session.client) before.totals
      → later ≡ record counts { book = one_more_at (made_place session.conits session.client) counts.book }
      → IsTurn node later after has
  after_entry {later} going totals is =
      turn_with (one_more_at (made_place session.conits session.client) counts.book) counts.owes is
      (accounted-entry step session.client agrees.keeps.among (totals ∙ ap (λ n. one_more_at (made_place n session.client) before.totals) (sym (width agrees))) (journaled.certain going))

  -- a step that is no call was refused
  pub after_told : {later : CountsView} (entry : Entry) (fault : NodeFault)
      → after.totals ≡ before.totals
      → (had.halted ≡ true → IsTrue had.tells → had.faults ≢ 0)
      → IsNoCall entry.act
      → IsRefusal before.core had has fault
      → IsInDoubtAfter has entry fault
      → later ≡ record counts { book = told_book session.conits session.client fault counts.book }
      → IsTurn node later after has
  after_told {later} entry fault totals counted no_call refused doubt is =
      turn_with (told_book session.conits session.client fault counts.book) counts.owes is
      (accounted-told step session.client before.core entry fault agrees.keeps.among totals counted no_call refused doubt)

  -- a loan was
  pub after_lent : {later : CountsView} (asked : Loan) (entry : Entry) (fault : NodeLoanFault)
      → after.totals ≡ before.totals
      → (had.halted ≡ true → IsTrue had.tells → had.faults ≢ 0)
      → IsNoCall entry.act
      → IsLoanRefusal before.core (part_in before) had has asked fault
      → IsLentInDoubt has entry fault
      → later ≡ record counts { book = lent_book session.conits session.client fault counts.book }
      → IsTurn node later after has
  after_lent {later} asked entry fault totals counted no_call refused doubt is =
      turn_with (lent_book session.conits session.client fault counts.book) counts.owes is
      (accounted-lent step session.client before.core (part_in before) asked entry fault agrees.keeps.among totals counted no_call refused doubt)

  -- a call of the session's client was answered
  pub after_call : {later : CountsView} (conit first last : ℕ)
      → has.halted ≡ false
      → conit < session.conits
      → slice_index before.totals conit ≡ first
      → first ≤ last + slice_index counts.book conit
      → after.totals ≡ slice_set (one_more_at (made_place before.core.setup.conits session.client) (one_more_at (turns_place before.core.setup.conits session.client) before.totals)) conit last
      → later ≡ record counts {
        book = slice_set (one_more_at (made_place session.conits session.client) (one_more_at (turns_place session.conits session.client) counts.book)) conit
            (slice_index counts.book conit + last - first);
      }
      → IsTurn node later after has
  after_call {later} conit first last going here was enough totals is =
      turn_with _ counts.owes is
      (accounted-call step session.client conit first last agrees.keeps.among here was enough
      (totals ∙ ap (λ n. slice_set (one_more_at (made_place n session.client) (one_more_at (turns_place n session.client) before.totals)) conit last) (sym (width agrees)))
      (journaled.certain going))

  -- or refused
  pub after_failed : {later : CountsView} (state : LockedView) (moment conit : ℕ) (lost : Option ℕ) (asked : Request) (fault : NodeFault)
      → session.doubt ≡ false
      → conit < session.conits
      → conit_of asked ≡ conit
      → lost ≡ given_up asked
      → amount_in lost ≤ slice_index counts.book conit
      → after.totals ≡ before.totals
      → (had.halted ≡ true → IsTrue had.tells → had.faults ≢ 0)
      → IsRefusal before.core had has fault
      → IsInDoubtAfter has (call_in state moment session.client asked) fault
      → later ≡ record counts { book = failed_book session.conits session.client conit lost fault counts.book; owes = failed_owes session.client conit lost fault counts.owes }
      → IsTurn node later after has
  after_failed {later} state moment conit lost asked fault certain here on takes enough totals counted refused doubt is =
      turn_with _ _ is
      (accounted-failed step before.core state moment session.client conit lost asked fault agrees.keeps.among here on takes (in_doubt agrees ∙ ap (λ (b : Bool). cond b 1 0) certain) enough totals counted refused doubt)

  -- the journal wasn't read again
  pub after_reread_refused : {later : CountsView} (fault : RestartFault)
      → after.totals ≡ before.totals
      → has.doubt ≡ had.doubt
      → IsRereadRefusal had has fault
      → later ≡ record counts { book = restart_book session.conits session.client fault counts.book }
      → IsTurn node later after has
  after_reread_refused {later} fault totals doubt refused is =
      turn_with (restart_book session.conits session.client fault counts.book) counts.owes is
      (accounted-reread_refused step session.client fault agrees.keeps.among totals doubt refused)

  -- no Restart was made
  pub after_restart_refused : {later : CountsView} (state : LockedView) (moment : ℕ) (fault : RestartFault)
      → after.totals ≡ before.totals
      → IsRestartRefusal before.core had has fault
      → HasRestartDoubt state moment has fault
      → later ≡ record counts { book = restart_book session.conits session.client fault counts.book }
      → IsTurn node later after has
  after_restart_refused {later} state moment fault totals refused doubt is =
      turn_with (restart_book session.conits session.client fault counts.book) counts.owes is
      (accounted-restart_refused step before.core state moment session.client fault agrees.keeps.among totals refused doubt)

-- after the clerk learnt more, which is all that changed
pub after_heard : {node : NodeView} {counts later : CountsView} {before after : LockedView} {journal : JournalView} {session : SessionView} {tally now : TallyView}
    → Agreed node counts before session tally now
    → IsAccounted before journal counts.book counts.owes
    → IsJournaled before journal
    → after ≡ record before { clerk = record before.clerk { seen = after.clerk.seen } }
    → IsPrefix before.clerk.seen after.clerk.seen
    → later ≡ counts
    → IsTurn node later after journal
after_heard {node} {counts} {later} {before} {after} {journal} {session} {tally} {now} agrees accounted journaled value grows is =
    let label : IsSameLabel before after =
    (ap (λ (v : LockedView). v.core.setup) value, ap (λ (v : LockedView). v.core.replica) value, ap (λ (v : LockedView). v.clerk.table) value) in
    let kept = IsJournaled-same before after journal journal journaled (IsUntouched-refl journal) (ap (λ (v : LockedView). v.stored) value) (ap (λ (v : LockedView). v.core) value) grows in
    let on = step agrees accounted label (refl, omega arith) kept in (
      keeps_turn agrees.turn (ap (λ (c : CountsView). c.cell) is) label,
      kept,
      subst (λ (c : CountsView). IsAccounted after journal c.book c.owes) (sym is) (accounted-untouched on (ap (λ (v : LockedView). v.totals) value) (IsUntouched-refl journal)),
    )
