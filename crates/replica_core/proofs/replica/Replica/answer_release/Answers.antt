use Rattle.std.proofs.Common.{◌≡◌, ◌-◌, ℕ, length, get_or, set, refl, ap, ◌∙◌, subst, arith}
use Rattle.tact_base.specs.Setup.{Setup}
use Rattle.run_model.specs.declared.call.Reply.TheVariants as reply
use Rattle.run_model.specs.declared.call.Request.TheVariants as request
use Rattle.replica_core.specs.States.{Core, IsKept, ReplicaState, entered, with_call}
use Rattle.replica_core.proofs.Answering.{Answers-is, release_refused, released}
use Rattle.replica_core.proofs.replica.Replica.answer_release.Goals as goal

pub returns-then-held-amount-clause-answers : goal.returns-then-held-amount-clause-answers
returns-then-held-amount-clause-answers c =
    let old = c.args.self.now.core in
    let held : c.reserved-held.result ≡ get_or old.budgets.reserved c.args.conit 0 =
    c.reserved-held.ensures.reserved ∙ ap (λ (s : ReplicaState). get_or s.core.budgets.reserved c.args.conit 0) c.self.view_is in
    let sized : length old.budgets.reserved ≡ old.setup.conits =
    subst (λ (s : ReplicaState). length s.core.budgets.reserved ≡ s.core.setup.conits) c.self.view_is
    (c.reserved-held.ensures.kept.reserved ∙ ap (λ (s : Setup). s.conits) c.self.invariant.0.budgets.setup) in
    let kept : IsKept old = subst (λ (s : ReplicaState). IsKept s.core) c.self.view_is c.self.invariant.0 in
    Answers-is old (entered (with_call old c.args.client) c.args.moment) c.close_call.new.self.core c.args.moment c.args.client (request.Release c.args.conit c.args.amount)
    (reply.NotHeld c.args.conit (get_or old.budgets.reserved c.args.conit 0) c.args.amount) (reply.NotHeld c.args.conit c.reserved-held.result c.args.amount)
    (ap (λ (s : ReplicaState). s.core) c.close_call.ensures) (ap (λ (held : ℕ). reply.NotHeld c.args.conit held c.args.amount) held)
    (release_refused old kept c.args.moment c.args.client c.args.conit c.args.amount sized c.requires (omega (arith, c.if-held-amount.true, held)))

pub returns-clause-answers : goal.returns-clause-answers
returns-clause-answers c =
    let old = c.args.self.now.core in
    let held : c.reserved-held.result ≡ get_or old.budgets.reserved c.args.conit 0 =
    c.reserved-held.ensures.reserved ∙ ap (λ (s : ReplicaState). get_or s.core.budgets.reserved c.args.conit 0) c.self.view_is in
    let sized : length old.budgets.reserved ≡ old.setup.conits =
    subst (λ (s : ReplicaState). length s.core.budgets.reserved ≡ s.core.setup.conits) c.self.view_is
    (c.reserved-held.ensures.kept.reserved ∙ ap (λ (s : Setup). s.conits) c.self.invariant.0.budgets.setup) in
    let kept : IsKept old = subst (λ (s : ReplicaState). IsKept s.core) c.self.view_is c.self.invariant.0 in
    let left : Core → Core =
    λ (core : Core). entered (record (with_call core c.args.client)
    { budgets = record core.budgets { reserved = set core.budgets.reserved c.args.conit (get_or core.budgets.reserved c.args.conit 0 - c.args.amount) } }) c.args.moment in
    Answers-is old (left old)
    c.close_call-2.new.self.core c.args.moment c.args.client (request.Release c.args.conit c.args.amount) reply.Released reply.Released
    (rw (c.close_call-2.ensures, c.free_held.ensures) (ap (λ (s : ReplicaState). left s.core) c.self.view_is)) refl
    (released old kept c.args.moment c.args.client c.args.conit c.args.amount sized c.requires (omega (arith, c.if-held-amount.false, held)))
