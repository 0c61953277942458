-- What a primary's order promises, whatever is lost, repeated or reordered.
use Rattle.std.specs.Prelude.{◌≢◌, ℕ, ◌<◌, ◌==◌, Bool, false, List, All, AllPairs, Contains, filter, length}
use Rattle.run_model.specs.Histories.{EachAfter, IsPrefix}
use Rattle.run_model.specs.Promises.{AreAgreed}
use Rattle.primary_commit.specs.Networks.{committed_at, network_after, peer_at}
use Rattle.primary_commit.specs.Peers.{have, primary}
use Rattle.primary_commit.specs.declared.items.Pick.{Pick}
use Rattle.primary_commit.specs.declared.primary.Event.{Event}
use Rattle.primary_commit.specs.declared.primary.Event.TheVariants as event

-- whether an event is that an origin accepts, and whether a pick was accepted in events: its origin accepted more than its
-- index
abbrev pub accepts : ℕ → Event → Bool
accepts origin (event.Accept replica op) = replica == origin
accepts origin other = false

abbrev pub IsAccepted : List Event → Pick → Type 0
IsAccepted events pick = pick.index < length (filter (accepts pick.origin) events)

-- a pick stands after all of its origin with a lesser index
abbrev pub StandsAfter : List Pick → Pick → Type 0
StandsAfter before pick = (index : ℕ) → index < pick.index → Contains before (record pick { index = index })

-- Of the committed picks of a peer each was accepted, stands once, and stands after those of its origin before it.
pub record IsOrder (events : List Event) (picks : List Pick) : Type 0 where
  pub accepted : All (IsAccepted events) picks
  pub once : AllPairs (λ (one other : Pick). one ≢ other) picks
  pub in_order : EachAfter StandsAfter picks

-- the primary's committed picks have every item that it has
abbrev pub HasAll : ℕ → List Event → Type 0
HasAll n events =
    (origin index : ℕ) → origin < n → index < have (peer_at (network_after n events) primary) origin
    → Contains (committed_at n events primary) (record { origin = origin; index = index })

-- Of the events up to any two points and any two peers one committed list is a prefix of the other; and up to any point the
-- committed lists are orders of what was accepted, of which the primary's has all that it has.
pub record IsAgreed (n : ℕ) (events : List Event) : Type 0 where
  pub agreed : (one other : List Event) (replica peer : ℕ) → IsPrefix one events → IsPrefix other events → replica < n → peer < n
      → AreAgreed (committed_at n one replica) (committed_at n other peer)
  pub orders : (front : List Event) (replica : ℕ) → IsPrefix front events → replica < n → IsOrder front (committed_at n front replica)
  pub all : (front : List Event) → IsPrefix front events → HasAll n front
