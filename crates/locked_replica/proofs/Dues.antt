-- What a replica behind a lock has and knows, in the words of its part.
use Rattle.std.proofs.Common.{◌≡◌, ◌≢◌, ℕ, ◌<◌, ◌↔◌, ◌⊎◌, Bool, IsTrue, [], length, ap, inl, inr, ⊎_elim, arith}
use Rattle.run_model.specs.Taking.{have, known, told_have}
use Rattle.run_model.specs.declared.entry.Message.{Message}
use Rattle.anti_entropy.specs.Counts.{IsBehind}
use Rattle.replica_core.specs.States.{known_at, log_at}
use Rattle.replica_core.proofs.StandsByPlace.{log_at-part}
use Rattle.locked_replica.specs.Locks.{IsLocked, LockedView, part_in}
use Rattle.locked_replica.specs.Parcels.{IsAnswerDue}

module _ (locked : LockedView) (kept : IsLocked locked) where
  -- how many writes of an origin it has, and how many it knows another to have
  have-part : (origin : ℕ) → origin < locked.core.setup.replicas → length (log_at locked.core origin) ≡ have locked.core.replica (part_in locked) origin
  have-part origin within = ap length (log_at-part (part_in locked) locked.core kept.stands.writes origin within)

  known-part : (to origin : ℕ)
      → to < locked.core.setup.replicas
      → origin < locked.core.setup.replicas
      → known_at locked.core to origin ≡ known (part_in locked) to origin
  known-part to origin among within = kept.stands.writes.known to origin among within

  -- whether a message is due
  pub behind-kept : (to : ℕ) (is : Bool)
      → to < locked.core.setup.replicas
      → (IsTrue is ↔ ((origin : ℕ) × (origin < locked.core.setup.replicas) × (origin ≢ to) × (known_at locked.core to origin < length (log_at locked.core origin))))
      → (IsTrue is ↔ IsBehind locked.core.setup locked.core.replica (part_in locked) to)
  behind-kept to is among due = (
    λ yes.
        let (origin, within, other, more) = due.0 yes in
        (origin, within, other, omega (arith, more, known-part to origin among within, have-part origin within)),
    λ (origin, within, other, more).
        due.1 (origin, within, other, omega (arith, more, known-part to origin among within, have-part origin within)),
  )

  -- whether an answer is due
  pub answer-kept : (message : Message) (is : Bool)
      → (IsTrue is ↔ ((message.writes ≢ []) ⊎ ((origin : ℕ) × (origin < locked.core.setup.replicas) × (told_have message origin < length (log_at locked.core origin)))))
      → (IsTrue is ↔ IsAnswerDue locked.core.setup locked.core.replica (part_in locked) message)
  answer-kept message is due = (
    λ yes. ⊎_elim (λ some. inl some) (λ (origin, within, more). inr (origin, within, omega (arith, more, have-part origin within))) (due.0 yes),
    λ asked. due.1 (⊎_elim (λ some. inl some) (λ (origin, within, more). inr (origin, within, omega (arith, more, have-part origin within))) asked),
  )
