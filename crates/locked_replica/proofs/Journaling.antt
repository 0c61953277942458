-- What stays true of a node's journal, and which entries may be kept in it.
use Rattle.std.proofs.Common.{◌≡◌, ◌≢◌, ℕ, ◌-◌, ◌<◌, ◌≤◌, ◌^◌, false, IsTrue, List, [], ◌∷◌, ◌++◌, Option, None, Some, map, length, refl, sym, ap, ◌∙◌, ⊎_elim, subst, arith}
use Rattle.std.proofs.lemmas.Bool.{false≢true}
use Rattle.std.proofs.lemmas.List.{map-append}
use Rattle.tact_base.specs.declared.limits.TheConstants.{CLIENTS, MOMENT_MAX}
use Rattle.tact_io.specs.Faults.{HasRisen}
use Rattle.tact_io.specs.Journals.{MayHave, with_piece}
use Rattle.run_model.specs.Histories.{IsPrefix, moment_at}
use Rattle.run_model.specs.Ranges.{IsActInRange, IsRequestInRange}
use Rattle.run_model.specs.Runs.{IsActDue, IsDue, WasSent}
use Rattle.run_model.specs.ScriptRuns.{zeros}
use Rattle.run_model.specs.declared.call.Request.{Request}
use Rattle.run_model.specs.declared.entry.Act.{Act}
use Rattle.run_model.specs.declared.entry.Act.TheVariants as act
use Rattle.run_model.specs.declared.entry.Entry.{Entry}
use Rattle.run_model.specs.declared.entry.Message.{Message}
use Rattle.run_history.specs.Ticks.{entries_of}
use Rattle.run_history.proofs.RunLemmas.{WasSent-more}
use Rattle.replica_core.specs.States.{Core, IsKept, is_full}
use Rattle.replica_core.specs.Taking.{FitsAt}
use Rattle.replica_core.proofs.DueEntries.{entry_of, is_due}
use Rattle.replica_core.proofs.SendLemmas.{sent_due, sent_is_due}
use Rattle.restart_journal.specs.Pieces.{piece_bytes}
use Rattle.entry_journal.specs.EntryJournals.{HasDoubt, HasKept, HasPiecesOf, IsUntouched, JournalView}
use Rattle.locked_replica.specs.Journals.{DoubtMayCome, IsJournaled, MayComeNext, call_in, send_in}
use Rattle.locked_replica.specs.Loans.{IsLoanInRange, act_of, amount_of, most_of}
use Rattle.locked_replica.specs.Locks.{HasEntered, IsLocked, LockedView, entry_in, part_in}
use Rattle.locked_replica.specs.Parcels.{HasSending}
use Rattle.locked_replica.specs.declared.loan.Loan.{Loan}
use Rattle.locked_replica.specs.declared.loan.Loan.TheVariants as loan
use Rattle.locked_replica.proofs.Entering.{entries-push}

-- an untouched journal that is touched no more
pub IsUntouched-trans : (first second third : JournalView) → IsUntouched first second → IsUntouched second third → IsUntouched first third
IsUntouched-trans first second third one two = record {
  tells = two.tells ∙ one.tells;
  pieces = λ tells. two.pieces (subst IsTrue (sym one.tells) tells) ∙ one.pieces tells;
  faults = two.faults ∙ one.faults;
  halted = two.halted ∙ one.halted;
  doubt = two.doubt ∙ one.doubt;
}

pub IsUntouched-refl : (journal : JournalView) → IsUntouched journal journal
IsUntouched-refl journal = record { tells = refl; pieces = λ tells. refl; faults = refl; halted = refl; doubt = refl }

-- what may come next in what was seen may come next in what is seen later, where the replica and its part are the same
pub DoubtMayCome-later : (state later : LockedView) (doubt : Option Entry)
    → later.stored ≡ state.stored
    → later.core ≡ state.core
    → IsPrefix state.clerk.seen later.clerk.seen
    → DoubtMayCome state doubt
    → DoubtMayCome later doubt
DoubtMayCome-later state later None stored core seen next = tt
DoubtMayCome-later state later (Some doubt) stored core seen next = record {
  replica = next.replica ∙ ap (λ (c : Core). c.replica) (sym core);
  due = subst (λ part. IsDue later.core.setup part doubt) (sym (ap entries_of stored))
      (subst (λ (c : Core). IsDue c.setup (part_in state) doubt) (sym core) next.due);
  sent = WasSent-more state.clerk.seen later.clerk.seen doubt.act seen next.sent;
}

-- a count that rose isn't 0
pub risen-counts : (before after : ℕ) → HasRisen before after → before ≤ after → after ≢ 0
risen-counts before after risen grown =
    ⊎_elim (λ (more : before < after) none. absurd (omega arith)) (λ (most : before ≡ 2 ^ 64 - 1) none. absurd (omega arith)) risen

-- an entry that was appended is stored
pub IsJournaled-kept : (before after : LockedView) (known : List Entry) (entry : Entry) (had has : JournalView)
    → IsJournaled before had
    → HasKept had has entry
    → HasEntered before after known entry
    → IsJournaled after has
IsJournaled-kept before after known entry had has journaled kept entered =
    let grown : part_in after ≡ part_in before ++ entry ∷ [] = ap entries_of entered.stored ∙ entries-push before.stored (length entered.front) entry in
    record {
      pieces = λ tells.
          let told = subst IsTrue kept.tells tells in
          let were : had.pieces ≡ map piece_bytes (part_in before) = subst (HasPiecesOf had.pieces (part_in before)) kept.was (journaled.pieces told) in
          subst (HasPiecesOf has.pieces (part_in after)) (sym kept.certain)
          (kept.has told ∙ ap (λ pieces. with_piece pieces (piece_bytes entry)) were
          ∙ sym (ap (map piece_bytes) grown ∙ map-append piece_bytes (part_in before) (entry ∷ [])));
      next = subst (DoubtMayCome after) (sym kept.certain) tt;
      certain = λ going. kept.certain;
      counted = λ halted. absurd (false≢true (sym kept.going ∙ halted));
    }

-- an entry whose append failed is in doubt
pub IsJournaled-doubt : (state : LockedView) (entry : Entry) (had has : JournalView)
    → IsJournaled state had
    → HasDoubt had has entry
    → MayComeNext state entry
    → had.faults ≤ has.faults
    → IsJournaled state has
IsJournaled-doubt state entry had has journaled doubt next grown = record {
  pieces = λ tells.
      let told = subst IsTrue doubt.tells tells in
      let were : had.pieces ≡ map piece_bytes (part_in state) = subst (HasPiecesOf had.pieces (part_in state)) doubt.was (journaled.pieces told) in
      subst (HasPiecesOf has.pieces (part_in state)) (sym doubt.doubt)
      (subst (λ pieces. MayHave pieces (piece_bytes entry) has.pieces) were (doubt.may_have told));
  next = subst (DoubtMayCome state) (sym doubt.doubt) next;
  certain = λ going. absurd (false≢true (sym going ∙ doubt.halted));
  counted = λ halted tells. risen-counts had.faults has.faults doubt.failed grown;
}

-- where neither the replica, the stored entries nor the journal changed
pub IsJournaled-same : (state later : LockedView) (had has : JournalView)
    → IsJournaled state had
    → IsUntouched had has
    → later.stored ≡ state.stored
    → later.core ≡ state.core
    → IsPrefix state.clerk.seen later.clerk.seen
    → IsJournaled later has
IsJournaled-same state later had has journaled same stored core seen = record {
  pieces = λ tells.
      let told = subst IsTrue same.tells tells in
      subst (λ part. HasPiecesOf has.pieces part has.doubt) (sym (ap entries_of stored))
      (subst (HasPiecesOf has.pieces (part_in state)) (sym same.doubt)
      (subst (λ pieces. HasPiecesOf pieces (part_in state) had.doubt) (sym (same.pieces told)) (journaled.pieces told)));
  next = subst (DoubtMayCome later) (sym same.doubt) (DoubtMayCome-later state later had.doubt stored core seen journaled.next);
  certain = λ going. same.doubt ∙ journaled.certain (sym same.halted ∙ going);
  counted = λ halted tells none. journaled.counted (sym same.halted ∙ halted) (subst IsTrue same.tells tells) (sym same.faults ∙ none);
}

-- nor where the clerk learnt more
pub IsJournaled-learnt : (state learnt : LockedView) (journal : JournalView)
    → learnt ≡ record state { clerk = learnt.clerk }
    → IsPrefix state.clerk.seen learnt.clerk.seen
    → IsJournaled state journal
    → IsJournaled learnt journal
IsJournaled-learnt state learnt journal value seen journaled =
    IsJournaled-same state learnt journal journal journaled (IsUntouched-refl journal)
    (ap (λ (v : LockedView). v.stored) value) (ap (λ (v : LockedView). v.core) value) seen

-- Entries that may come next where the replica isn't full.
module _ (locked : LockedView) (kept : IsLocked locked) (sound : IsKept locked.core) (free : is_full locked.core ≡ false) (moment : ℕ) (moment_in : moment ≤ MOMENT_MAX) where
  act-next : (done : Act)
      → IsActInRange locked.core.setup locked.core.replica done
      → IsActDue locked.core.setup locked.core.replica (part_in locked) (moment_at (part_in locked) moment) done
      → WasSent locked.clerk.seen done
      → MayComeNext locked (entry_in locked moment done)
  act-next done in_range due sent = record {
    replica = refl;
    due = is_due (part_in locked) locked.core kept.stands free sound.places.among moment moment_in done in_range due;
    sent = sent;
  }

  pub call-next : (client : ℕ) (asked : Request)
      → client < CLIENTS
      → IsRequestInRange locked.core.setup asked
      → MayComeNext locked (call_in locked moment client asked)
  call-next client asked among in_range = act-next (call_in locked moment client asked).act (among, in_range) (refl, refl) tt

  pub send-next : (to : ℕ)
      → to < locked.core.setup.replicas
      → to ≢ locked.core.replica
      → MayComeNext locked (send_in locked moment to)
  send-next to to_in other =
      let part = part_in locked in
      let core = locked.core in
      record {
        replica = refl;
        due = subst (λ (message : Message). IsDue core.setup part (entry_of core.replica part moment (act.Send message)))
            (sent_due part core kept.stands sound.setup free sound.places moment moment_in to to_in other (zeros core.setup))
            (sent_is_due part core kept.stands sound.setup free sound.places moment moment_in to to_in other (zeros core.setup));
        sent = tt;
      }

  pub take-next : (message : Message)
      → FitsAt locked.core message
      → HasSending locked.clerk.seen message
      → MayComeNext locked (entry_in locked moment (act.Take message))
  take-next message fits sent = act-next (act.Take message) (fits.in_range, fits.addressed) fits.addressed sent

  pub loan-next : (asked : Loan)
      → IsLoanInRange locked.core.setup locked.core.replica asked
      → amount_of asked ≤ most_of locked.core.setup locked.core.replica (part_in locked) asked
      → MayComeNext locked (entry_in locked moment (act_of asked))
  loan-next (loan.Out holder conit amount) in_range within = act-next (act.Lend holder conit amount) in_range within tt
  loan-next (loan.Back owner conit amount) in_range within = act-next (act.Back owner conit amount) in_range within tt

  pub restart-next : MayComeNext locked (entry_in locked moment act.Restart)
  restart-next = act-next act.Restart tt tt tt
