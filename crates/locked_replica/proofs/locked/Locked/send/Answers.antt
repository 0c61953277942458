use Rattle.std.proofs.Common.{IfErr, refl, subst}
use Rattle.run_model.specs.declared.entry.Act.TheVariants as act
use Rattle.run_model.proofs.PrefixLemmas.{IsPrefix-trans}
use Rattle.locked_replica.specs.Journals.{IsInDoubtAfter, send_in}
use Rattle.locked_replica.specs.Locks.{LockedView, entry_in}
use Rattle.locked_replica.specs.Parcels.{ParcelView}
use Rattle.locked_replica.proofs.Entering.{IfOk-learnt}
use Rattle.locked_replica.proofs.Journaling.{IsJournaled-learnt}
use Rattle.locked_replica.proofs.locked.Locked.send.Goals as goal

pub kept_send-answer-requires-clause-journaled : goal.kept_send-answer-requires-clause-journaled
kept_send-answer-requires-clause-journaled g c =
    IsJournaled-learnt _ _ _ c.learn.ensures.value c.learn.ensures.mine c.requires.journaled

pub returns-clause-entered : goal.returns-clause-entered
returns-clause-entered g c = rw c.tell.ensures.value
    (IfOk-learnt _ c.args.self.now c.learn.new.self c.kept_send-answer.new.self c.args.note.now.seen
    (λ (v : LockedView) (parcel : ParcelView). entry_in v c.args.moment (act.Send parcel.message))
    c.learn.ensures.value (λ x. refl) c.learn.ensures.mine c.learn.ensures.told c.kept_send-answer.ensures.entered)

pub returns-clause-learnt : goal.returns-clause-learnt
returns-clause-learnt g c =
    let grows = c.kept_send-answer.ensures.grows in
    rw c.tell.ensures.note (IsPrefix-trans _ _ _ c.learn.ensures.mine grows, IsPrefix-trans _ _ _ c.learn.ensures.told grows)

pub returns-clause-doubt : goal.returns-clause-doubt
returns-clause-doubt g c =
    subst (λ (v : LockedView). IfErr c.kept_send-answer.result (IsInDoubtAfter c.kept_send-answer.new.journal (send_in v c.args.moment c.args.to))) c.learn.ensures.value c.kept_send-answer.ensures.doubt
