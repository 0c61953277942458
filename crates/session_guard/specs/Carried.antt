-- What a pass says of a trip.
use Rattle.std.specs.Prelude.{ℕ, ◌<◌, ◌≤◌, List, All, length, slice_index}
use Rattle.tact_base.specs.Setup.{Setup}
use Rattle.tact_base.specs.declared.write.Write.{Write}
use Rattle.run_model.specs.declared.entry.Entry.{Entry}
use Rattle.session_guard.specs.Guards.{IsGuarded, ReadsAt, WritesAt}
use Rattle.session_guard.specs.Passes.{IsPass, PassState}
use Rattle.session_guard.specs.Positions.{have_before}

-- The numbers of a pass are those of a trip: of each origin none of the trip's writes is past them, and no read of it was
-- where more were; and the trip is guarded.
pub record IsCarried (setup : Setup) (history : List Entry) (pass : PassState) (trip : List ℕ) : Type 0 where
  pub is_pass : IsPass setup.replicas pass
  pub within : All (λ position. position < length history) trip
  pub writes : All (λ position. (write : Write) → WritesAt history position write
      → (write.origin < setup.replicas) × (write.index < slice_index pass.writes write.origin)) trip
  pub reads : All (λ position. ReadsAt history position → (origin : ℕ) → origin < setup.replicas
      → have_before history position origin ≤ slice_index pass.reads origin) trip
  pub guarded : IsGuarded setup history trip
