-- Parcels that are taken.
use Rattle.std.specs.Prelude.{◌≡◌, ℕ, ◌<◌, Option, None, Some}
use Rattle.run_model.specs.Histories.{IsPrefix}
use Rattle.run_model.specs.declared.entry.Act.TheVariants as act
use Rattle.locked_replica.specs.Parcels.{ParcelView}
use Rattle.replica_lock.specs.Sessions.{HasMade, NodeView, SessionView}
use Rattle.steady_node.specs.Going.{IsUnmarked, entries_left}

-- a session has seen that its replica took a parcel's message, after all that it had seen, and all that the parcel tells
pub record HasTaken (node : NodeView) (before after : SessionView) (parcel : ParcelView) : Type 0 where
  pub between : SessionView
  pub moment : ℕ
  pub behind : IsPrefix before.seen between.seen
  pub made : HasMade node.desk.setup between after moment (act.Take parcel.message)
  pub told : IsPrefix parcel.seen after.seen

-- a parcel that is taken once: it was, or it comes back, and the session is marked
abbrev pub IsTaking : NodeView → SessionView → SessionView → ParcelView → Option ParcelView → Type 0
IsTaking node before after parcel None = HasTaken node before after parcel
IsTaking node before after parcel (Some back) =
    (back ≡ parcel) × (IsUnmarked after → ⊥) × (entries_left after < entries_left before)
