use Rattle.run_model.specs.declared.entry.Act.TheVariants as act
use Rattle.run_model.proofs.PrefixLemmas.{IsPrefix-trans}
use Rattle.locked_replica.proofs.Journaling.{IsJournaled-learnt}
use Rattle.locked_replica.proofs.Making.{OnOk-learnt}
use Rattle.locked_replica.proofs.locked.Locked.restart.Goals as goal

pub kept_restart-answer-requires-clause-journaled : goal.kept_restart-answer-requires-clause-journaled
kept_restart-answer-requires-clause-journaled g c =
    IsJournaled-learnt _ _ _ c.learn.ensures.value c.learn.ensures.mine c.requires.journaled

pub returns-clause-entered : goal.returns-clause-entered
returns-clause-entered g c = rw c.tell.ensures.value
    (OnOk-learnt _ c.args.self.now c.learn.new.self c.kept_restart-answer.new.self c.args.note.now.seen c.args.moment act.Restart
    c.learn.ensures.value c.learn.ensures.mine c.learn.ensures.told c.kept_restart-answer.ensures.entered)

pub returns-clause-learnt : goal.returns-clause-learnt
returns-clause-learnt g c =
    let grows = c.kept_restart-answer.ensures.grows in
    rw c.tell.ensures.note (IsPrefix-trans _ _ _ c.learn.ensures.mine grows, IsPrefix-trans _ _ _ c.learn.ensures.told grows)
