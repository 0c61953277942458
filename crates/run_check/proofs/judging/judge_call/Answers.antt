use Rattle.std.proofs.Common.{ℕ, arith, ◌≡◌, ◌≢◌, Some, sym, ap, ◌∙◌, subst}
use Rattle.std.proofs.lemmas.Bool.{false≢true}
use Rattle.run_model.specs.Histories.{part_of, calls_in}
use Rattle.run_model.specs.Replies.{reply_of}
use Rattle.run_model.specs.declared.call.Reply.{Reply}
use Rattle.run_model.specs.declared.cause.Cause.TheVariants as cause
use Rattle.run_record.specs.declared.short.ShortAct.TheVariants as told
use Rattle.run_check.specs.Causes.{IsFirstCause}
use Rattle.run_check.specs.Checking.{short_at}
use Rattle.run_check.proofs.AtReplica.{calls_are, is_memory}
use Rattle.run_check.proofs.FirstCauses.{number_is_first, reply_is_first}
use Rattle.run_check.proofs.Passing.{call_passes}
use Rattle.run_record.proofs.RequestRange.{request_in_range}
use Rattle.run_check.proofs.judging.judge_call.Goals as goal

pub returns-then-number-calls-clause-err : goal.returns-then-number-calls-clause-err
returns-then-number-calls-clause-err g c =
    let calls : c.calls-calls.result ≡ calls_in (part_of g.history c.args.at.replica) c.args.client =
    c.calls-calls.ensures ∙ calls_are g.history c.args.set.now c.requires.0 c.args.at c.requires.1.1.replica c.at.result.now.core c.at.ensures c.args.client c.requires.1.1.act.0 in
    number_is_first c.args.set.now.setup g.history c.args.at (told.Call c.args.client c.args.number c.args.request.now c.args.reply.now) c.requires.1.0 c.args.number c.calls-calls.result
    (ap (λ n. Some (c.args.number, n)) (sym calls), c.if-number-calls.true)

pub call-requires-clause-in_range : goal.call-requires-clause-in_range
call-requires-clause-in_range g c = request_in_range c.args.set.now.setup c.args.request.now c.requires.1.1.act.2

pub want_of_memory-requires : goal.want_of_memory-requires
want_of_memory-requires g c =
    is_memory g.history c.args.set.now c.requires.0 c.args.at c.requires.1.1.replica c.requires.1.0 c.in-Err.fault c.in-Err.ensures.fault

pub returns-then-not-are_same_replies-clause-err : goal.returns-then-not-are_same_replies-clause-err
returns-then-not-are_same_replies-clause-err g c =
    let calls : c.calls-calls.result ≡ calls_in (part_of g.history c.args.at.replica) c.args.client =
    c.calls-calls.ensures ∙ calls_are g.history c.args.set.now c.requires.0 c.args.at c.requires.1.1.replica c.at.result.now.core c.at.ensures c.args.client c.requires.1.1.act.0 in
    let due : c.in-Ok.due ≡ reply_of c.args.set.now.setup c.args.at.replica (part_of g.history c.args.at.replica) c.args.at.moment c.args.request.now =
    c.in-Ok.ensures.due g.history c.requires.0.stands
    ∙ ap (λ (m : ℕ). reply_of c.args.set.now.setup c.args.at.replica (part_of g.history c.args.at.replica) m c.args.request.now) (omega (arith, c.requires.1.0.moment)) in
    let differ : c.args.reply.now ≢ c.in-Ok.due = λ same. false≢true (sym c.if-not-are_same_replies.true ∙ c.are_same_replies.ensures.1 same) in
    subst (λ (r : Reply). IsFirstCause c.args.set.now.setup g.history (short_at c.args.at (told.Call c.args.client c.args.number c.args.request.now c.args.reply.now)) (cause.Reply r c.in-Ok.due))
    (sym c.in_ok-clone.ensures.cases)
    (reply_is_first c.args.set.now.setup g.history c.args.at c.requires.1.0 c.args.client c.args.number c.args.request.now c.args.reply.now
    (c.if-number-calls.false ∙ calls) c.in-Ok.due due differ)

pub returns-clause-ok : goal.returns-clause-ok
returns-clause-ok g c =
    let calls : c.calls-calls.result ≡ calls_in (part_of g.history c.args.at.replica) c.args.client =
    c.calls-calls.ensures ∙ calls_are g.history c.args.set.now c.requires.0 c.args.at c.requires.1.1.replica c.at.result.now.core c.at.ensures c.args.client c.requires.1.1.act.0 in
    call_passes g.history c.args.set.now c.requires.0 c.args.at c.requires.1.1.replica c.requires.1.0 c.call.new.self c.in-Ok.ensures.setup
    c.args.client c.args.number c.args.request.now c.args.reply.now c.in-Ok.due (c.if-number-calls.false ∙ calls) (c.are_same_replies.ensures.0 c.if-not-are_same_replies.false) (c.in-Ok.ensures.goes_on g.history c.requires.0.stands)
