use Rattle.std.proofs.lemmas.Result.{IfOk-weaker}
use Rattle.run_model.proofs.PrefixLemmas.{IsPrefix-trans}
use Rattle.locked_replica.specs.Restarting.{HasReread}
use Rattle.locked_replica.proofs.Journaling.{IsJournaled-learnt}
use Rattle.locked_replica.proofs.Rereading.{HasReread-learnt}
use Rattle.locked_replica.proofs.locked.Locked.reread.Goals as goal

pub make_again-answer-requires-clause-journaled : goal.make_again-answer-requires-clause-journaled
make_again-answer-requires-clause-journaled g c =
    IsJournaled-learnt _ _ _ c.learn.ensures.value c.learn.ensures.mine c.requires.journaled

pub returns-clause-found : goal.returns-clause-found
returns-clause-found g c =
    let before = c.args.self.now in
    let learnt = c.learn.new.self in
    let after = c.make_again-answer.new.self in
    let doubt = c.args.journal.now.doubt in
    rw c.tell.ensures.value
    (IfOk-weaker _ (HasReread learnt after doubt) (HasReread before after doubt)
    (λ found. HasReread-learnt before learnt after c.learn.ensures.value c.learn.ensures.mine doubt found) c.make_again-answer.ensures.found)

pub returns-clause-told : goal.returns-clause-told
returns-clause-told g c = rw c.tell.ensures.value c.make_again-answer.ensures.told

pub returns-clause-learnt : goal.returns-clause-learnt
returns-clause-learnt g c =
    let grows = c.make_again-answer.ensures.grows in
    rw c.tell.ensures.note (IsPrefix-trans _ _ _ c.learn.ensures.mine grows, IsPrefix-trans _ _ _ c.learn.ensures.told grows)
