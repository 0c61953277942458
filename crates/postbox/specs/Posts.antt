-- Inboxes for one replica of a desk.
use Rattle.std.specs.Prelude.{◌≡◌, ℕ, List, [], All}
use Rattle.atomic_table.specs.Seated.{TableId}
use Rattle.link_faults.specs.Inboxes.{InboxState, carried}
use Rattle.link_faults.specs.Plans.{fate_of}
use Rattle.link_faults.specs.declared.plan.Fate.{Fate}
use Rattle.link_faults.specs.declared.plan.LinkPlan.{LinkPlan}
use Rattle.run_model.specs.declared.entry.Message.{Message}
use Rattle.locked_replica.specs.Parcels.{ParcelView}
use Rattle.postbox.specs.declared.post.Address.{Address}

-- the table of its desk, its replica, and the plan, the parcels that wait and the counts
pub record PostView : Type 0 where
  pub desk : TableId
  pub to : ℕ
  pub inbox : InboxState ParcelView

-- the cell of a postbox, the table of its desk, its replica, and the plan of its link
pub record PostboxView : Type 0 where
  pub cell : TableId
  pub desk : TableId
  pub to : ℕ
  pub plan : LinkPlan

-- where an inbox stands, which never changes
abbrev pub address_of : PostView → Address
address_of post = record { note = record { table = post.desk; seen = [] }; to = post.to; plan = post.inbox.plan }

-- a parcel is of a desk, and addressed to a replica
abbrev pub IsFor : TableId → ℕ → ParcelView → Type 0
IsFor desk to parcel = (parcel.desk ≡ desk) × (parcel.message.to ≡ to)

-- so is each
abbrev pub AreFor : TableId → ℕ → List ParcelView → Type 0
AreFor desk to parcels = All (IsFor desk to) parcels

-- an inbox, with messages in place of the parcels that carry them
abbrev pub messages_in : InboxState ParcelView → InboxState Message
messages_in inbox = carried (λ (parcel : ParcelView). parcel.message) inbox

-- the fate, by a plan, of some put while so many parcels wait
abbrev pub IsFateBy : LinkPlan → Fate → Type 0
IsFateBy plan fate = (number : ℕ) × (waiting : ℕ) × (fate ≡ fate_of plan number waiting)
