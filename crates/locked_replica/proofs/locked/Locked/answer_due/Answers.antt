use Rattle.std.proofs.Common.{rules, ◌≡◌, ◌≢◌, ◌<◌, ◌≤◌, ℕ, true, false, [], length, inr, ⊎_elim, subst, arith}
use Rattle.std.proofs.lemmas.List.{nil_from_length}
use Rattle.run_model.specs.Taking.{told_have}
use Rattle.replica_core.specs.States.{log_at}
use Rattle.locked_replica.specs.Locks.{IsLocked}
use Rattle.locked_replica.proofs.Dues.{answer-kept}
use Rattle.locked_replica.proofs.locked.Locked.answer_due.Goals as goal

pub returns-then-told_count-have : goal.returns-then-told_count-have
returns-then-told_count-have c =
    let locked = c.args.self.now in
    let origin : ℕ = c.loop-origin.origin in
    let within : origin < locked.core.setup.replicas = search rules in
    let more : told_have c.args.message.now origin < length (log_at locked.core origin) = search rules in
    answer-kept locked (subst IsLocked c.self.view_is c.self.invariant.0) c.args.message.now true (λ yes. inr (origin, within, more), λ found. search rules)

pub returns : goal.returns
returns c =
    let locked = c.args.self.now in
    let all : (k : ℕ) → k < locked.core.setup.replicas → length (log_at locked.core k) ≤ told_have c.args.message.now k = search rules in
    let none : c.args.message.now.writes ≡ [] = nil_from_length c.args.message.now.writes (search rules) in
    answer-kept locked (subst IsLocked c.self.view_is c.self.invariant.0) c.args.message.now false
    (λ no. absurd (search rules), λ found. ⊎_elim (λ (some : c.args.message.now.writes ≢ []). absurd (some none)) (λ (origin, within, more). absurd (omega (arith, more, all origin within))) found)
