use Rattle.std.proofs.Common.{◌≡◌, ◌+◌, ℕ, List, [], ◌∷◌, length, get_or, unsigned_abs, Some, ap, ap₂, ◌∙◌, subst, rules, arith}
use Rattle.std.proofs.lemmas.Int.{to_z-of_z}
use Rattle.std.specs.Int.{w64}
use Rattle.std.specs.Prelude.{FitsSigned}
use Rattle.tact_base.specs.declared.conit_list.Weight.{Weight}
use Rattle.tact_base.specs.Setup.{Setup}
use Rattle.run_model.specs.declared.call.Reply.TheVariants as reply
use Rattle.run_model.specs.declared.call.Request.TheVariants as request
use Rattle.replica_core.specs.Calling.{accepted}
use Rattle.replica_core.specs.States.{Core, IsKept, ReplicaState, log_at, next_write, entered, with_call}
use Rattle.replica_core.proofs.Answering.{Answers-is, held_refused, held_accepted}
use Rattle.replica_core.proofs.replica.Replica.answer_held.Goals as goal

pub returns-then-held-amount-clause-answers : goal.returns-then-held-amount-clause-answers
returns-then-held-amount-clause-answers c =
    let old = c.args.self.now.core in
    let weight = c.args.weight in
    let fits : FitsSigned w64 weight.nweight = search rules in
    let size : c.unsigned_abs-amount.result ≡ unsigned_abs weight.nweight = simp to_z-of_z at c.unsigned_abs-amount.ensures.value in
    let held : c.reserved-held.result ≡ get_or old.budgets.reserved weight.conit 0 =
    c.reserved-held.ensures.reserved ∙ ap (λ (s : ReplicaState). get_or s.core.budgets.reserved weight.conit 0) c.self.view_is in
    let sized : length old.budgets.reserved ≡ old.setup.conits =
    subst (λ (s : ReplicaState). length s.core.budgets.reserved ≡ s.core.setup.conits) c.self.view_is
    (c.reserved-held.ensures.kept.reserved ∙ ap (λ (s : Setup). s.conits) c.self.invariant.0.budgets.setup) in
    let kept : IsKept old = subst (λ (s : ReplicaState). IsKept s.core) c.self.view_is c.self.invariant.0 in
    Answers-is old (entered (with_call old c.args.client) c.args.moment) c.close_call.new.self.core c.args.moment c.args.client (request.Held weight c.args.op)
    (reply.NotHeld weight.conit (get_or old.budgets.reserved weight.conit 0) (unsigned_abs weight.nweight)) (reply.NotHeld weight.conit c.reserved-held.result c.unsigned_abs-amount.result)
    (ap (λ (s : ReplicaState). s.core) c.close_call.ensures) (ap₂ (λ (held amount : ℕ). reply.NotHeld weight.conit held amount) held size)
    (held_refused old kept c.args.moment c.args.client weight c.args.op c.requires sized (omega (arith, c.if-held-amount.true, held, size)))

pub returns-clause-answers : goal.returns-clause-answers
returns-clause-answers c =
    let old = c.args.self.now.core in
    let weight = c.args.weight in
    let fits : FitsSigned w64 weight.nweight = search rules in
    let size : c.unsigned_abs-amount.result ≡ unsigned_abs weight.nweight = simp to_z-of_z at c.unsigned_abs-amount.ensures.value in
    let held : c.reserved-held.result ≡ get_or old.budgets.reserved weight.conit 0 =
    c.reserved-held.ensures.reserved ∙ ap (λ (s : ReplicaState). get_or s.core.budgets.reserved weight.conit 0) c.self.view_is in
    let sized : length old.budgets.reserved ≡ old.setup.conits =
    subst (λ (s : ReplicaState). length s.core.budgets.reserved ≡ s.core.setup.conits) c.self.view_is
    (c.reserved-held.ensures.kept.reserved ∙ ap (λ (s : Setup). s.conits) c.self.invariant.0.budgets.setup) in
    let kept : IsKept old = subst (λ (s : ReplicaState). IsKept s.core) c.self.view_is c.self.invariant.0 in
    Answers-is old (entered (accepted old c.args.client (next_write old c.args.moment (weight ∷ []) c.args.op) (Some weight)) c.args.moment) c.accept.new.self.core
    c.args.moment c.args.client (request.Held weight c.args.op)
    (reply.Done (length (log_at old old.replica)) (old.writes.clock + 1)) c.accept.result
    (c.accept.ensures.core
    ∙ ap₂ (λ (core : Core) (ws : List Weight). entered (accepted core c.args.client (next_write core c.args.moment ws c.args.op) (Some weight)) c.args.moment)
    c.in_ok-reserve_next.ensures.core c.only.ensures)
    (c.accept.ensures.reply ∙ ap (λ (core : Core). reply.Done (length (log_at core core.replica)) (core.writes.clock + 1)) c.in_ok-reserve_next.ensures.core)
    (held_accepted old kept c.args.moment c.args.client weight c.args.op c.requires sized (omega (arith, c.if-held-amount.false, held, size)))
