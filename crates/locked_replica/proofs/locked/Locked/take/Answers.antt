use Rattle.std.proofs.Common.{ap, ◌∙◌, subst}
use Rattle.run_model.specs.Histories.{IsPrefix}
use Rattle.run_model.specs.declared.entry.Act.TheVariants as act
use Rattle.run_model.proofs.PrefixLemmas.{IsPrefix-trans}
use Rattle.run_history.proofs.RunLemmas.{WasSent-more}
use Rattle.locked_replica.specs.Locks.{LockedView}
use Rattle.locked_replica.specs.Parcels.{ParcelView}
use Rattle.locked_replica.proofs.Making.{OnOk-learnt}
use Rattle.locked_replica.proofs.Journaling.{IsJournaled-learnt}
use Rattle.locked_replica.proofs.locked.Locked.take.Goals as goal

pub kept_take-answer-requires-clause-sent : goal.kept_take-answer-requires-clause-sent
kept_take-answer-requires-clause-sent g c =
    WasSent-more c.parcel.inside.note.seen c.learn-2.new.self.clerk.seen (act.Take c.parcel.inside.message) c.learn-2.ensures.told c.parcel.invariant

pub kept_take-answer-requires-clause-journaled : goal.kept_take-answer-requires-clause-journaled
kept_take-answer-requires-clause-journaled g c =
    IsJournaled-learnt _ _ _ c.learn-2.ensures.value c.learn-2.ensures.mine
    (IsJournaled-learnt _ _ _ c.learn.ensures.value c.learn.ensures.mine c.requires.journaled)

pub returns-clause-entered : goal.returns-clause-entered
returns-clause-entered g c = rw (c.tell.ensures.value, ← c.parcel.view_is)
    (OnOk-learnt _ c.args.self.now c.learn-2.new.self c.kept_take-answer.new.self c.args.note.now.seen c.args.moment (act.Take c.parcel.inside.message)
    (c.learn-2.ensures.value ∙ ap (λ (v : LockedView). record v { clerk = c.learn-2.new.self.clerk }) c.learn.ensures.value)
    (IsPrefix-trans _ _ _ c.learn.ensures.mine c.learn-2.ensures.mine) (IsPrefix-trans _ _ _ c.learn.ensures.told c.learn-2.ensures.mine)
    c.kept_take-answer.ensures.entered)

pub returns-clause-learnt : goal.returns-clause-learnt
returns-clause-learnt g c =
    let grows = c.kept_take-answer.ensures.grows in
    let later = IsPrefix-trans _ _ _ c.learn-2.ensures.mine grows in
    rw c.tell.ensures.note (
      IsPrefix-trans _ _ _ c.learn.ensures.mine later,
      IsPrefix-trans _ _ _ c.learn.ensures.told later,
      subst (λ (p : ParcelView). IsPrefix p.seen c.kept_take-answer.new.self.clerk.seen) c.parcel.view_is (IsPrefix-trans _ _ _ c.learn-2.ensures.told grows),
    )
