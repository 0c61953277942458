use Rattle.std.proofs.Common.{◌≡◌, ◌<◌, refl, sym, ap, ◌∙◌, subst}
use Rattle.tact_base.specs.Setup.{Setup, IsSetup}
use Rattle.run_model.specs.Histories.{calls_in, moment_at}
use Rattle.run_model.specs.Missing.{reserved}
use Rattle.run_model.specs.Runs.{IsRun}
use Rattle.run_model.proofs.PrefixLemmas.{IsPrefix-trans}
use Rattle.locked_replica.specs.Asking.{MayAskWith}
use Rattle.locked_replica.specs.Locks.{LockedView, part_in}
use Rattle.locked_replica.proofs.Allowing.{in_range-asked}
use Rattle.locked_replica.proofs.Entering.{call_entry, IfOk-learnt}
use Rattle.locked_replica.proofs.Journaling.{IsJournaled-learnt}
use Rattle.locked_replica.proofs.locked.Locked.call.Goals as goal

pub kept_call-answer-requires-clause-in_range : goal.kept_call-answer-requires-clause-in_range
kept_call-answer-requires-clause-in_range g c =
    let locked = c.learn.new.self in
    let value = c.learn.ensures.value in
    let setup : locked.core.setup ≡ c.args.desk.now.setup = ap (λ (v : LockedView). v.core.setup) value ∙ c.requires.desk.1 in
    in_range-asked locked c.args.conit c.args.request c.learn.ensures.kept (subst IsSetup (sym setup) c.requires.sound)
    (subst (λ (s : Setup). IsRun s locked.clerk.seen) (sym setup) c.learn.ensures.run)
    (subst (λ (s : Setup). locked.core.replica < s.replicas) (sym setup) c.learn.ensures.among)
    (subst (λ (v : LockedView). c.args.conit < v.core.setup.conits) (sym value) c.requires.conit)
    (subst (λ (v : LockedView). MayAskWith v.core.setup c.args.conit (reserved (part_in v) c.args.conit) c.args.request) (sym value) c.requires.asked)

pub kept_call-answer-requires-clause-journaled : goal.kept_call-answer-requires-clause-journaled
kept_call-answer-requires-clause-journaled g c =
    IsJournaled-learnt _ _ _ c.learn.ensures.value c.learn.ensures.mine c.requires.journaled

pub returns-clause-entered : goal.returns-clause-entered
returns-clause-entered g c = rw c.tell.ensures.value
    (IfOk-learnt _ c.args.self.now c.learn.new.self c.kept_call-answer.new.self c.args.note.now.seen
    (λ (v : LockedView) reply. call_entry v.core.replica (moment_at (part_in v) c.args.moment) c.args.client (calls_in (part_in v) c.args.client) c.args.request reply)
    c.learn.ensures.value (λ x. refl) c.learn.ensures.mine c.learn.ensures.told c.kept_call-answer.ensures.entered)

pub returns-clause-learnt : goal.returns-clause-learnt
returns-clause-learnt g c =
    let grows = c.kept_call-answer.ensures.grows in
    rw c.tell.ensures.note (IsPrefix-trans _ _ _ c.learn.ensures.mine grows, IsPrefix-trans _ _ _ c.learn.ensures.told grows)
