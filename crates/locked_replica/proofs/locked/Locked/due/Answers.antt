use Rattle.std.proofs.Common.{rules, ◌≢◌, ◌<◌, ◌≤◌, ℕ, true, false, length, subst, arith}
use Rattle.replica_core.specs.States.{known_at, log_at}
use Rattle.locked_replica.specs.Locks.{IsLocked}
use Rattle.locked_replica.proofs.Dues.{behind-kept}
use Rattle.locked_replica.proofs.locked.Locked.due.Goals as goal

pub returns-then-known-have : goal.returns-then-known-have
returns-then-known-have c =
    let locked = c.args.self.now in
    let origin : ℕ = c.loop-origin.origin in
    let within : origin < locked.core.setup.replicas = search rules in
    let other : origin ≢ c.args.to = search rules in
    let more : known_at locked.core c.args.to origin < length (log_at locked.core origin) = search rules in
    behind-kept locked (subst IsLocked c.self.view_is c.self.invariant.0) c.args.to true c.requires.to (λ yes. (origin, within, other, more), λ found. search rules)

pub returns : goal.returns
returns c =
    let locked = c.args.self.now in
    let all : (k : ℕ) → k < locked.core.setup.replicas → k ≢ c.args.to → length (log_at locked.core k) ≤ known_at locked.core c.args.to k = search rules in
    behind-kept locked (subst IsLocked c.self.view_is c.self.invariant.0) c.args.to false c.requires.to
    (λ no. absurd (search rules), λ (origin, within, other, more). absurd (omega (arith, more, all origin within other)))
