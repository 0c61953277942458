use Rattle.std.proofs.Common.{sym, ap, subst}
use Rattle.run_model.specs.Histories.{calls_in}
use Rattle.run_model.specs.declared.entry.Act.TheVariants as act
use Rattle.run_model.proofs.PrefixLemmas.{IsPrefix-same}
use Rattle.entry_journal.specs.EntryJournals.{HasKept}
use Rattle.locked_replica.specs.Journals.{call_in}
use Rattle.locked_replica.specs.Locks.{HasEntered, LockedView, entry_in, part_in}
use Rattle.locked_replica.proofs.Allowing.{entered-due}
use Rattle.locked_replica.proofs.Journaling.{IsJournaled-kept, IsJournaled-same, IsUntouched-refl}
use Rattle.locked_replica.proofs.locked.Locked.kept_call.Goals as goal

pub returns-clause-journaled : goal.returns-clause-journaled
returns-clause-journaled g c =
    let old = c.args.self.now in
    let mid = c.keep_call.new.self in
    let new = c.enter_call.new.self in
    let had = c.args.journal.now in
    let has = c.keep_call.new.journal in
    let told = c.in_ok-request.ensures in
    let kept = subst (λ (v : LockedView). HasKept had has (call_in v c.args.moment c.args.client c.args.request)) (sym told.value) told.has in
    let journaled = IsJournaled-same old mid had had c.requires.journaled (IsUntouched-refl had)
    (ap (λ (v : LockedView). v.stored) told.value) (ap (λ (v : LockedView). v.core) told.value) (IsPrefix-same _ _ (ap (λ (v : LockedView). v.clerk.seen) (sym told.value))) in
    let number = calls_in (part_in mid) c.args.client in
    let due = entered-due mid new _ c.args.moment c.args.client number c.in_ok-request.request c.enter_call.result c.enter_call.ensures.entered in
    let entered =
    subst (λ asked. HasEntered mid new mid.clerk.seen (call_in mid c.args.moment c.args.client asked)) told.back
    (subst (λ given. HasEntered mid new mid.clerk.seen (entry_in mid c.args.moment (act.Call c.args.client number c.in_ok-request.request given))) due c.enter_call.ensures.entered) in
    IsJournaled-kept mid new _ _ had has journaled kept entered
