use Rattle.std.proofs.Common.{◌≡◌, ◌+◌, length, None, refl, sym, ap, ◌∙◌, subst}
use Rattle.run_model.specs.Replies.{first_some}
use Rattle.run_model.specs.declared.call.Reply.TheVariants as reply
use Rattle.run_model.specs.declared.call.Request.TheVariants as request
use Rattle.replica_core.specs.Calling.{MayCount, refusal_of, accepted}
use Rattle.replica_core.specs.States.{Core, ReplicaState, log_at, next_write, entered, with_call}
use Rattle.replica_core.proofs.Answering.{Answers-is, write_refused, write_accepted}
use Rattle.replica_core.proofs.Refusals.{all_fit}
use Rattle.replica_core.proofs.replica.Replica.answer_write.Goals as goal

pub returns-in-Some-clause-answers : goal.returns-in-Some-clause-answers
returns-in-Some-clause-answers c =
    let old = c.args.self.now.core in
    Answers-is old (entered (with_call old c.args.client) c.args.moment) c.close_call.new.self.core c.args.moment c.args.client
    (request.Write c.args.weights.now c.args.op) c.in-Some.refusal c.in-Some.refusal
    (ap (λ (s : ReplicaState). s.core) c.close_call.ensures) refl
    (write_refused old c.weights_refusal.ensures.kept c.args.moment c.args.client c.args.weights.now c.args.op c.requires c.in-Some.refusal
    (ap (first_some (refusal_of old.budgets)) (sym c.items.ensures.items) ∙ sym c.weights_refusal.ensures.refusal ∙ c.in-Some.is))

pub accept-requires-clause-counts : goal.accept-requires-clause-counts
accept-requires-clause-counts c =
    let old = c.args.self.now.core in
    let none : first_some (refusal_of old.budgets) c.args.weights.now ≡ None =
    ap (first_some (refusal_of old.budgets)) (sym c.items.ensures.items) ∙ sym c.weights_refusal.ensures.refusal ∙ c.in_default.is in
    subst (λ (core : Core). MayCount core.budgets c.args.weights.now None) (sym c.in_ok-reserve_next.ensures.core) (all_fit old.budgets c.args.weights.now none)

pub returns-clause-answers : goal.returns-clause-answers
returns-clause-answers c =
    let old = c.args.self.now.core in
    let weights = c.args.weights.now in
    let none : first_some (refusal_of old.budgets) weights ≡ None =
    ap (first_some (refusal_of old.budgets)) (sym c.items.ensures.items) ∙ sym c.weights_refusal.ensures.refusal ∙ c.in_default.is in
    Answers-is old (entered (accepted old c.args.client (next_write old c.args.moment weights c.args.op) None) c.args.moment) c.accept.new.self.core c.args.moment
    c.args.client (request.Write weights c.args.op)
    (reply.Done (length (log_at old old.replica)) (old.writes.clock + 1)) c.accept.result
    (c.accept.ensures.core
    ∙ ap (λ (core : Core). entered (accepted core c.args.client (next_write core c.args.moment weights c.args.op) None) c.args.moment)
    c.in_ok-reserve_next.ensures.core)
    (c.accept.ensures.reply ∙ ap (λ (core : Core). reply.Done (length (log_at core core.replica)) (core.writes.clock + 1)) c.in_ok-reserve_next.ensures.core)
    (write_accepted old c.weights_refusal.ensures.kept c.args.moment c.args.client weights c.args.op c.requires none)
