-- What is true of every run: what the promises rest on.
use Rattle.std.proofs.Common.{◌≡◌, ℕ, ◌<◌, ◌≤◌, List, length, get_or, drop, All, AllPairs}
use Rattle.tact_base.specs.declared.write.Cover.{Cover}
use Rattle.tact_base.specs.declared.write.Write.{Write}
use Rattle.tact_base.specs.Setup.{Setup}
use Rattle.run_model.specs.Histories.{part_of, last_moment, sent_in, IsPrefix}
use Rattle.run_model.specs.OwnWrites.{own}
use Rattle.run_model.specs.Taking.{OriginState, origin_state, told_have, told_cover, told_first, told_writes, have, clock, known}
use Rattle.run_model.specs.declared.entry.Entry.{Entry}
use Rattle.run_model.specs.declared.entry.Message.{Message}

-- writes of one replica stand in order
pub record AreNumbered (replica : ℕ) (writes : List Write) : Type 0 where
  pub origins : All (λ (write : Write). write.origin ≡ replica) writes
  pub indices : (place : ℕ) (d : Write)
      → place < length writes
      → (get_or writes place d).index ≡ place
  pub stamps : AllPairs (λ (one other : Write). one.stamp < other.stamp) writes
  pub moments : AllPairs (λ (one other : Write). one.moment ≤ other.moment) writes
  pub stamps_least : All (λ (write : Write). 1 ≤ write.stamp) writes

-- so do the own writes of a part, up to its clock and its last moment
pub record IsNumbered (replica : ℕ) (part : List Entry) : Type 0 where
  pub writes : AreNumbered replica (own part)
  pub open writes use *
  pub stamps_most : All (λ (write : Write). write.stamp ≤ clock part) (own part)
  pub moments_most : All (λ (write : Write). write.moment ≤ last_moment part) (own part)

-- a cover vouches for the part of its origin: it tells a state that the part was in, and each write past its count is
-- later
pub record Vouches (part : List Entry) (cover : Cover) : Type 0 where
  pub count : cover.count ≤ length (own part)
  pub stamp : cover.stamp ≤ clock part
  pub moment : cover.moment ≤ last_moment part
  pub later : All (λ (write : Write). cover.count ≤ write.index → (cover.stamp < write.stamp) × (cover.moment ≤ write.moment)) (own part)

-- what a replica with this clock keeps of an origin that has this part
pub record IsSoundKeeping (clock : ℕ) (kept : OriginState) (part : List Entry) : Type 0 where
  pub log : IsPrefix kept.log (own part)
  pub stamps : All (λ (write : Write). write.stamp ≤ clock) kept.log
  pub cover : Vouches part kept.cover
  pub count : kept.cover.count ≤ length kept.log

-- what a message tells of an origin, where the sender has this many of its writes, and the origin this part
pub record IsSoundTold (message : Message) (origin had : ℕ) (part : List Entry) : Type 0 where
  pub have : told_have message origin ≤ had
  pub first : told_first message origin ≤ had
  pub writes : IsPrefix (told_writes message origin) (drop (told_first message origin) (own part))
  pub cover : Vouches part (told_cover message origin)
  pub count : (told_cover message origin).count ≤ told_have message origin

-- a message that a replica sent
pub record IsSoundMessage (history : List Entry) (sender : ℕ) (message : Message) : Type 0 where
  pub from : message.from ≡ sender
  pub told : (origin : ℕ)
      → IsSoundTold message origin (have sender (part_of history sender) origin) (part_of history origin)
  pub stamps : All (λ (write : Write). write.stamp ≤ (told_cover message sender).stamp) message.writes

-- the number of each message is its place
abbrev pub HaveTheirPlaces : List Message → Type 0
HaveTheirPlaces messages = (place : ℕ) (d : Message) → place < length messages → (get_or messages place d).number ≡ place

-- a history whose parts fit together
pub record Sound (setup : Setup) (history : List Entry) : Type 0 where
  -- own writes are in order
  pub own : (replica : ℕ) → IsNumbered replica (part_of history replica)
  -- logs are beginnings, and covers vouch
  pub kept : (replica origin : ℕ)
      → IsSoundKeeping (clock (part_of history replica)) (origin_state (part_of history replica) origin) (part_of history origin)
  -- what is known of a peer, the peer has
  pub known : (replica peer origin : ℕ)
      → known (part_of history replica) peer origin ≤ have peer (part_of history peer) origin
  -- sent messages tell no more than what is so, and the number of one is its place
  pub sent : (replica : ℕ)
      → All (IsSoundMessage history replica) (sent_in (part_of history replica))
  pub numbers : (replica : ℕ) → HaveTheirPlaces (sent_in (part_of history replica))
