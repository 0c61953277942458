-- What the steps of a round do: which entries are made, what waits, and what the replicas have seen.
use Rattle.std.specs.Prelude.{◌≡◌, ◌≢◌, ℕ, ◌+◌, ◌<◌, ◌≤◌, List, [], ◌∷◌, ◌++◌, Contains, length, map, get_or}
use Rattle.run_model.specs.Histories.{IsPrefix}
use Rattle.run_model.specs.declared.entry.Act.TheVariants as act
use Rattle.run_model.specs.declared.entry.Entry.{Entry}
use Rattle.run_model.specs.declared.entry.Message.{Message}
use Rattle.link_faults.specs.Inboxes.{InboxState}
use Rattle.link_faults.specs.Plans.{no_faults}
use Rattle.locked_replica.specs.Parcels.{ParcelView}
use Rattle.replica_lock.specs.Sessions.{SessionView}
use Rattle.run_work.specs.Ends.{AreUnmarked, made_by}
use Rattle.run_work.specs.Settling.{SettlingView}
use Rattle.run_work.specs.declared.seat.End.{End}

-- the first place of the least of numbers
pub record IsLead (numbers : List ℕ) (place : ℕ) : Type 0 where
  pub within : place < length numbers
  pub least : (other : ℕ) → other < length numbers → get_or numbers place 0 ≤ get_or numbers other 0
  pub first : (other : ℕ) → other < place → get_or numbers place 0 < get_or numbers other 0

-- the session of an end's least client has seen a front of the history
abbrev pub HasSeen : End → List Entry → Type 0
HasSeen end front =
    (place : ℕ) (none : SessionView)
    → IsLead (map (λ (session : SessionView). session.client) end.sessions.items) place
    → IsPrefix front (get_or end.sessions.items place none).seen

-- so has that of a replica, and that of each
abbrev pub HasSeenAt : SettlingView → ℕ → List Entry → Type 0
HasSeenAt settling replica front = (none : End) → HasSeen (get_or settling.ends replica none) front

abbrev pub HaveSeen : SettlingView → List Entry → Type 0
HaveSeen settling front = (replica : ℕ) → replica < length settling.nodes → HasSeenAt settling replica front

-- a front was seen that ends with a sending of a message, after a front of its own
pub record HasSeenSending (Seen : List Entry → Type 0) (front : List Entry) (from to : ℕ) (message : Message) : Type 0 where
  pub before : List Entry
  pub sent : Entry
  pub behind : IsPrefix front before
  pub by : sent.replica ≡ from
  pub sends : sent.act ≡ act.Send message
  pub addressed : message.to ≡ to
  pub seen : Seen (before ++ sent ∷ [])

-- a front was seen that ends with a taking of a message
pub record HasSeenTaking (Seen : List Entry → Type 0) (replica : ℕ) (message : Message) : Type 0 where
  pub before : List Entry
  pub taken : Entry
  pub by : taken.replica ≡ replica
  pub takes : taken.act ≡ act.Take message
  pub seen : Seen (before ++ taken ∷ [])

-- how many entries were made for a replica's sessions, the messages that wait for it, and every how many puts its link loses one
abbrev pub made_at : SettlingView → ℕ → ℕ
made_at settling replica = get_or (map made_by settling.ends) replica 0

abbrev pub messages_in : InboxState ParcelView → List Message
messages_in inbox = map (λ parcel. parcel.message) inbox.waiting

abbrev pub waiting_at : SettlingView → ℕ → List Message
waiting_at settling replica = get_or (map messages_in settling.inboxes) replica []

abbrev pub lose_at : SettlingView → ℕ → ℕ
lose_at settling replica = (get_or (map (λ (inbox : InboxState ParcelView). inbox.plan) settling.inboxes) replica no_faults).lose

-- nothing waits
abbrev pub AreEmpty : SettlingView → Type 0
AreEmpty settling = (replica : ℕ) → replica < length settling.nodes → waiting_at settling replica ≡ []

-- no entries were made, and what waits is what it was
pub record AreStill (before after : SettlingView) : Type 0 where
  pub inboxes : after.inboxes ≡ before.inboxes
  pub made : (replica : ℕ) → made_at after replica ≤ made_at before replica

-- While the sessions are unmarked, at most one entry was made, for this replica; and what waits is what it was.
pub record HasMadeOne (replica : ℕ) (before after : SettlingView) : Type 0 where
  pub inboxes : after.inboxes ≡ before.inboxes
  pub mine : AreUnmarked after.ends → made_at after replica ≤ made_at before replica + 1
  pub others : AreUnmarked after.ends → (other : ℕ) → other ≢ replica → made_at after other ≤ made_at before other

-- at most two messages more wait for a replica, and for the others what waited
pub record HaveCome (to : ℕ) (before after : SettlingView) : Type 0 where
  pub count : length (waiting_at after to) ≤ length (waiting_at before to) + 2
  pub kept : (message : Message) → Contains (waiting_at before to) message → Contains (waiting_at after to) message
  pub others : (other : ℕ) → other ≢ to → waiting_at after other ≡ waiting_at before other

-- a replica sent to another
pub record HasSentTo (from to : ℕ) (before after : SettlingView) : Type 0 where
  pub mine : AreUnmarked after.ends → made_at after from ≤ made_at before from + 1
  pub others : AreUnmarked after.ends → (other : ℕ) → other ≢ from → made_at after other ≤ made_at before other
  pub come : HaveCome to before after

-- a replica sent to each other
pub record HasSentAll (from : ℕ) (before after : SettlingView) : Type 0 where
  pub mine : AreUnmarked after.ends → made_at after from + 1 ≤ made_at before from + length before.nodes
  pub others : AreUnmarked after.ends → (other : ℕ) → other ≢ from → made_at after other ≤ made_at before other
  pub none : waiting_at after from ≡ waiting_at before from
  pub count : (to : ℕ) → length (waiting_at after to) ≤ length (waiting_at before to) + 2
  pub kept : (to : ℕ) (message : Message) → Contains (waiting_at before to) message → Contains (waiting_at after to) message

-- each replica sent to each other, of which there are seven at most
pub record HaveSentAll (before after : SettlingView) : Type 0 where
  pub made : AreUnmarked after.ends → (replica : ℕ) → replica < length before.nodes → made_at after replica ≤ made_at before replica + 7
  pub count : (to : ℕ) → to < length before.nodes → length (waiting_at after to) ≤ length (waiting_at before to) + 14

-- a replica took no more than waited for it, and for the others there waits what waited
pub record HasTaken (replica : ℕ) (before after : SettlingView) : Type 0 where
  pub mine : AreUnmarked after.ends → made_at after replica ≤ made_at before replica + length (waiting_at before replica)
  pub others : AreUnmarked after.ends → (other : ℕ) → other ≢ replica → made_at after other ≤ made_at before other
  pub stayed : (other : ℕ) → other ≢ replica → waiting_at after other ≡ waiting_at before other

-- a replica has seen its sending to another after a front, and the message waits there, where the link loses none
pub record HasReached (front : List Entry) (from to : ℕ) (settling : SettlingView) : Type 0 where
  pub message : Message
  pub sent : HasSeenSending (HasSeenAt settling from) front from to message
  pub waits : lose_at settling to ≡ 0 → Contains (waiting_at settling to) message

-- and the other has seen that it took it, where the link loses none
pub record HasArrived (front : List Entry) (from to : ℕ) (settling : SettlingView) : Type 0 where
  pub message : Message
  pub sent : HasSeenSending (HasSeenAt settling from) front from to message
  pub taken : lose_at settling to ≡ 0 → HasSeenTaking (HasSeenAt settling to) to message

abbrev pub HaveArrived : List Entry → SettlingView → Type 0
HaveArrived front settling =
    (from to : ℕ) → from < length settling.nodes → to < length settling.nodes → to ≢ from → HasArrived front from to settling
