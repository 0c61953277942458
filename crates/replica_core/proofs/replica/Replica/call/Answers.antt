use Rattle.std.proofs.Common.{◌≡◌, ℕ, List, sym, subst, ap, ◌∙◌}
use Rattle.run_model.specs.Histories.{calls_in, moment_at}
use Rattle.run_model.specs.Replies.{reply_of}
use Rattle.run_model.specs.declared.call.Reply.{Reply}
use Rattle.run_model.specs.declared.call.Request.{Request}
use Rattle.run_model.specs.declared.entry.Act.TheVariants as act
use Rattle.run_model.specs.declared.entry.Entry.{Entry}
use Rattle.replica_core.specs.Calling.{Answers, IsWithoutWrite}
use Rattle.replica_core.specs.Stands.{Stands, GoesOn, with_act}
use Rattle.replica_core.specs.States.{Core}
use Rattle.replica_core.proofs.Causes.{cause_named}
use Rattle.replica_core.proofs.replica.Replica.call.Goals as goal

-- What follows from an answer to the request that was matched.
module _ (old new : Core) (moment client : ℕ) (request asked : Request) (given : Reply) (is : request ≡ asked) (answers : Answers old new moment client asked given) where
  goes_on : GoesOn old new moment (λ part. act.Call client (calls_in part client) request given)
  goes_on part stands =
      subst (λ (r : Request). Stands (with_act old.replica part moment (act.Call client (calls_in part client) r given)) new) (sym is) (answers part stands).1

  due : (part : List Entry) → Stands part old → given ≡ reply_of old.setup old.replica part (moment_at part moment) request
  due part stands = (answers part stands).0 ∙ sym (ap (reply_of old.setup old.replica part (moment_at part moment)) is)

pub returns-in_ok-answer_write-in-Write-clause-goes_on : goal.returns-in_ok-answer_write-in-Write-clause-goes_on
returns-in_ok-answer_write-in-Write-clause-goes_on c = goes_on c.args.self.now.core _ c.args.moment c.args.client c.args.request.now _ _ c.in-Write.is c.in_ok-answer_write-in-Write.ensures.answers

pub returns-in_ok-answer_write-in-Write-clause-due : goal.returns-in_ok-answer_write-in-Write-clause-due
returns-in_ok-answer_write-in-Write-clause-due c = due c.args.self.now.core _ c.args.moment c.args.client c.args.request.now _ _ c.in-Write.is c.in_ok-answer_write-in-Write.ensures.answers

pub returns-in_ok-answer_write-in-Write-clause-cause : goal.returns-in_ok-answer_write-in-Write-clause-cause
returns-in_ok-answer_write-in-Write-clause-cause c = λ part stands.
    cause_named _ part c.args.moment c.args.request.now _ c.in_ok-may_enter.ensures.kept
    (due c.args.self.now.core _ c.args.moment c.args.client c.args.request.now _ _ c.in-Write.is c.in_ok-answer_write-in-Write.ensures.answers part stands)

pub returns-in_ok-answer_write-in-Write-clause-spared : goal.returns-in_ok-answer_write-in-Write-clause-spared
returns-in_ok-answer_write-in-Write-clause-spared c = λ without. absurd (subst IsWithoutWrite c.in-Write.is without)

pub returns-in_ok-answer_held-in-Held-clause-goes_on : goal.returns-in_ok-answer_held-in-Held-clause-goes_on
returns-in_ok-answer_held-in-Held-clause-goes_on c = goes_on c.args.self.now.core _ c.args.moment c.args.client c.args.request.now _ _ c.in-Held.is c.in_ok-answer_held-in-Held.ensures.answers

pub returns-in_ok-answer_held-in-Held-clause-due : goal.returns-in_ok-answer_held-in-Held-clause-due
returns-in_ok-answer_held-in-Held-clause-due c = due c.args.self.now.core _ c.args.moment c.args.client c.args.request.now _ _ c.in-Held.is c.in_ok-answer_held-in-Held.ensures.answers

pub returns-in_ok-answer_held-in-Held-clause-cause : goal.returns-in_ok-answer_held-in-Held-clause-cause
returns-in_ok-answer_held-in-Held-clause-cause c = λ part stands.
    cause_named _ part c.args.moment c.args.request.now _ c.in_ok-may_enter.ensures.kept
    (due c.args.self.now.core _ c.args.moment c.args.client c.args.request.now _ _ c.in-Held.is c.in_ok-answer_held-in-Held.ensures.answers part stands)

pub returns-in_ok-answer_held-in-Held-clause-spared : goal.returns-in_ok-answer_held-in-Held-clause-spared
returns-in_ok-answer_held-in-Held-clause-spared c = λ without. absurd (subst IsWithoutWrite c.in-Held.is without)

pub returns-in-Reserve-clause-goes_on : goal.returns-in-Reserve-clause-goes_on
returns-in-Reserve-clause-goes_on c = goes_on c.args.self.now.core _ c.args.moment c.args.client c.args.request.now _ _ c.in-Reserve.is c.answer_reserve.ensures.answers

pub returns-in-Reserve-clause-due : goal.returns-in-Reserve-clause-due
returns-in-Reserve-clause-due c = due c.args.self.now.core _ c.args.moment c.args.client c.args.request.now _ _ c.in-Reserve.is c.answer_reserve.ensures.answers

pub returns-in-Reserve-clause-cause : goal.returns-in-Reserve-clause-cause
returns-in-Reserve-clause-cause c = λ part stands.
    cause_named _ part c.args.moment c.args.request.now _ c.in_ok-may_enter.ensures.kept
    (due c.args.self.now.core _ c.args.moment c.args.client c.args.request.now _ _ c.in-Reserve.is c.answer_reserve.ensures.answers part stands)

pub returns-in-Release-clause-goes_on : goal.returns-in-Release-clause-goes_on
returns-in-Release-clause-goes_on c = goes_on c.args.self.now.core _ c.args.moment c.args.client c.args.request.now _ _ c.in-Release.is c.answer_release.ensures.answers

pub returns-in-Release-clause-due : goal.returns-in-Release-clause-due
returns-in-Release-clause-due c = due c.args.self.now.core _ c.args.moment c.args.client c.args.request.now _ _ c.in-Release.is c.answer_release.ensures.answers

pub returns-in-Release-clause-cause : goal.returns-in-Release-clause-cause
returns-in-Release-clause-cause c = λ part stands.
    cause_named _ part c.args.moment c.args.request.now _ c.in_ok-may_enter.ensures.kept
    (due c.args.self.now.core _ c.args.moment c.args.client c.args.request.now _ _ c.in-Release.is c.answer_release.ensures.answers part stands)

pub returns-in-Read-clause-goes_on : goal.returns-in-Read-clause-goes_on
returns-in-Read-clause-goes_on c = goes_on c.args.self.now.core _ c.args.moment c.args.client c.args.request.now _ _ c.in-Read.is c.answer_read.ensures.answers

pub returns-in-Read-clause-due : goal.returns-in-Read-clause-due
returns-in-Read-clause-due c = due c.args.self.now.core _ c.args.moment c.args.client c.args.request.now _ _ c.in-Read.is c.answer_read.ensures.answers

pub returns-in-Read-clause-cause : goal.returns-in-Read-clause-cause
returns-in-Read-clause-cause c = λ part stands.
    cause_named _ part c.args.moment c.args.request.now _ c.in_ok-may_enter.ensures.kept
    (due c.args.self.now.core _ c.args.moment c.args.client c.args.request.now _ _ c.in-Read.is c.answer_read.ensures.answers part stands)
