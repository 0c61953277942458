-- What a journal that is read again tells, and what stays true of it.
use Rattle.std.proofs.Common.{◌≡◌, ◌≢◌, ℕ, ◌≤◌, true, false, IsTrue, [], ◌∷◌, ◌++◌, Err, Option, None, Some, Result, IsErrOf, map, sym, ap, ◌∙◌, subst, arith}
use Rattle.std.proofs.lemmas.Bool.{false≢true}
use Rattle.tact_io.specs.Faults.{HasRisen}
use Rattle.run_model.specs.Histories.{IsPrefix, part_of}
use Rattle.run_model.specs.Runs.{IsDue, IsLawful, IsPart, IsRun, MayFollow, WasSent}
use Rattle.run_model.specs.declared.entry.Act.{Act}
use Rattle.run_model.specs.declared.entry.Entry.{Entry}
use Rattle.run_model.proofs.PartLemmas.{part_of-push_same}
use Rattle.run_model.proofs.PrefixLemmas.{EachAfter-last, EachAfter-push}
use Rattle.run_promises.proofs.Kept.{IsPart-run}
use Rattle.run_history.specs.Ticks.{entries_of}
use Rattle.restart_journal.specs.Pieces.{piece_bytes}
use Rattle.journal_reread.specs.Rereading.{MayBeNext, with_kept}
use Rattle.journal_reread.specs.declared.fault.RereadFault.{RereadFault}
use Rattle.journal_reread.specs.declared.fault.RereadFault.TheVariants as reread
use Rattle.entry_journal.specs.EntryJournals.{HasPiecesOf, JournalView}
use Rattle.locked_replica.specs.Faults.{reread_fault}
use Rattle.locked_replica.specs.Journals.{DoubtMayCome, IsJournaled, MayComeNext}
use Rattle.locked_replica.specs.Locks.{IsLocked, LockedView, part_in}
use Rattle.locked_replica.specs.Restarting.{HasReread, HasTotalsWith, IsRereadRefusal}
use Rattle.locked_replica.specs.declared.fault.RestartFault.{RestartFault}
use Rattle.locked_replica.specs.declared.fault.RestartFault.TheVariants as fault
use Rattle.locked_replica.specs.declared.restarting.Found.{Found}
use Rattle.locked_replica.proofs.Entering.{HasEntered-learnt}
use Rattle.locked_replica.proofs.Journaling.{DoubtMayCome-later, risen-counts}

-- In a run that the clerk has seen, what may come next may follow the part.
module _ (locked : LockedView) (kept : IsLocked locked) (run : IsRun locked.core.setup locked.clerk.seen) where
  pub follows-next : (entry : Entry) → MayComeNext locked entry → MayFollow locked.core.setup locked.core.replica (part_in locked) entry
  follows-next entry next =
      let setup = locked.core.setup in
      let replica = locked.core.replica in
      let seen = locked.clerk.seen in
      let own : part_of seen entry.replica ≡ part_in locked = ap (part_of seen) next.replica ∙ kept.own in
      let lawful : IsLawful setup seen entry = record { due = subst (λ part. IsDue setup part entry) (sym own) next.due; sent = next.sent } in
      let longer = EachAfter-push (IsLawful setup) seen entry run lawful in
      let pushed : part_of (seen ++ entry ∷ []) replica ≡ part_in locked ++ entry ∷ [] =
      part_of-push_same seen entry replica next.replica ∙ ap (λ part. part ++ entry ∷ []) kept.own in
      EachAfter-last (MayFollow setup replica) (part_in locked) entry (subst (IsPart setup replica) pushed (IsPart-run setup (seen ++ entry ∷ []) longer replica))

  pub MayBeNext-doubt : (doubt : Option Entry) → DoubtMayCome locked doubt → MayBeNext locked.core.setup locked.core.replica (part_in locked) doubt
  MayBeNext-doubt None next = tt
  MayBeNext-doubt (Some doubt) next = follows-next doubt next

-- why a journal wasn't read again
pub refusal-reread : {X : Type 0} (read : Result X RereadFault) (before after : JournalView)
    → (IsErrOf read reread.NoMemory → after.halted ≡ before.halted)
    → (IsErrOf read reread.JournalReadFault → (after.halted ≡ true) × HasRisen before.faults after.faults)
    → ((place : ℕ) → read ≡ Err (reread.Foreign place) → (after.halted ≡ true) × (IsTrue before.tells → ⊥))
    → (told : RereadFault)
    → read ≡ Err told
    → IsRereadRefusal before after (reread_fault told)
refusal-reread read before after no_memory failed foreign reread.NoMemory is = no_memory is
refusal-reread read before after no_memory failed foreign reread.JournalReadFault is = failed is
refusal-reread read before after no_memory failed foreign (reread.Foreign place) is = foreign place is

-- a count that isn't 0 stays so
still-counts : (before after : ℕ) → before ≢ 0 → before ≤ after → after ≢ 0
still-counts before after some grown none = some (omega (arith, none))

-- after it was read again none is in doubt, and its pieces are those of the stored entries
pub IsJournaled-reread : (state after : LockedView) (had has : JournalView) (kept : Option Entry)
    → IsJournaled state had
    → has.tells ≡ had.tells
    → (IsTrue had.tells → has.pieces ≡ map piece_bytes (with_kept (part_in state) kept))
    → part_in after ≡ with_kept (part_in state) kept
    → has.doubt ≡ None
    → has.halted ≡ had.halted
    → had.faults ≤ has.faults
    → IsJournaled after has
IsJournaled-reread state after had has kept journaled tells pieces part sure halted grown = record {
  pieces = λ told. subst (HasPiecesOf has.pieces (part_in after)) (sym sure) (pieces (subst IsTrue tells told) ∙ ap (map piece_bytes) (sym part));
  next = subst (DoubtMayCome after) (sym sure) tt;
  certain = λ going. sure;
  counted = λ stopped told. still-counts had.faults has.faults (journaled.counted (sym halted ∙ stopped) (subst IsTrue tells told)) grown;
}

-- Where it wasn't, the same stays in doubt.
module _ (state later : LockedView) (had has : JournalView) (journaled : IsJournaled state had) (tells : has.tells ≡ had.tells) (doubt : has.doubt ≡ had.doubt)
    (grown : had.faults ≤ has.faults) where
  certain-unread : (told : RestartFault) → IsRereadRefusal had has told → has.halted ≡ false → has.doubt ≡ None
  certain-unread fault.NoMemory refused going = doubt ∙ journaled.certain (sym refused ∙ going)
  certain-unread fault.JournalReadFault refused going = absurd (false≢true (sym going ∙ refused.0))
  certain-unread (fault.Foreign place) refused going = absurd (false≢true (sym going ∙ refused.0))
  certain-unread (fault.Full count clock) refused going = absurd refused
  certain-unread fault.JournalFault refused going = absurd refused

  counted-unread : (told : RestartFault) → IsRereadRefusal had has told → has.halted ≡ true → IsTrue had.tells → has.faults ≢ 0
  counted-unread fault.NoMemory refused halted told = still-counts had.faults has.faults (journaled.counted (sym refused ∙ halted) told) grown
  counted-unread fault.JournalReadFault refused halted told = risen-counts had.faults has.faults refused.1 grown
  counted-unread (fault.Foreign place) refused halted told = absurd (refused.1 told)
  counted-unread (fault.Full count clock) refused halted told = absurd refused
  counted-unread fault.JournalFault refused halted told = absurd refused

  pub IsJournaled-unread : (told : RestartFault)
      → IsRereadRefusal had has told
      → (IsTrue had.tells → has.pieces ≡ had.pieces)
      → later.stored ≡ state.stored
      → later.core ≡ state.core
      → IsPrefix state.clerk.seen later.clerk.seen
      → IsJournaled later has
  IsJournaled-unread told refused pieces stored core seen = record {
    pieces = λ yes.
        let were = subst IsTrue tells yes in
        subst (HasPiecesOf has.pieces (part_in later)) (sym doubt)
        (subst (λ part. HasPiecesOf has.pieces part had.doubt) (sym (ap entries_of stored))
        (subst (λ all. HasPiecesOf all (part_in state) had.doubt) (sym (pieces were)) (journaled.pieces were)));
    next = subst (DoubtMayCome later) (sym doubt) (DoubtMayCome-later state later had.doubt stored core seen journaled.next);
    certain = certain-unread told refused;
    counted = λ halted yes. counted-unread told refused halted (subst IsTrue tells yes);
  }

-- what was in doubt and is kept was sent, if it is a message that is taken
pub sent-kept : (state : LockedView) (doubt : Option Entry) (entry : Entry)
    → DoubtMayCome state doubt
    → doubt ≡ Some entry
    → WasSent state.clerk.seen entry.act
sent-kept state doubt entry next is = (subst (DoubtMayCome state) is next).sent

-- The same before the clerk learnt what a session had seen.
module _ (before learnt after : LockedView) (value : learnt ≡ record before { clerk = learnt.clerk }) (mine : IsPrefix before.clerk.seen learnt.clerk.seen) where
  HasTotalsWith-learnt : (done : Act) → HasTotalsWith learnt after done → HasTotalsWith before after done
  HasTotalsWith-learnt done totals = subst (λ (v : LockedView). HasTotalsWith v after done) value totals

  pub HasReread-learnt : (doubt : Option Entry) (found : Option Found) → HasReread learnt after doubt found → HasReread before after doubt found
  HasReread-learnt doubt None same = (same.0 ∙ ap (λ (v : LockedView). v.stored) value, same.1 ∙ ap (λ (v : LockedView). v.totals) value)
  HasReread-learnt doubt (Some found) drawn = record {
    entry = drawn.entry;
    was = drawn.was;
    entered = HasEntered-learnt before learnt after before.clerk.seen drawn.entry value mine mine drawn.entered;
    totals = HasTotalsWith-learnt drawn.entry.act drawn.totals;
    counts = drawn.counts;
  }
