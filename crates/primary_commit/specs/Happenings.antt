-- What happened among peers, and what is kept of it: the peers and the notices that the events left.
use Rattle.std.specs.Prelude.{◌≡◌, ◌≢◌, ℕ, ◌<◌, ◌≤◌, List, get_or, length}
use Rattle.tact_base.specs.declared.limits.TheConstants.{HISTORY_MAX, REPLICAS_MAX, REPLICAS_MIN}
use Rattle.primary_commit.specs.Networks.{AreEvents, Network, network_after}
use Rattle.primary_commit.specs.Peers.{IsFor, PeerState}
use Rattle.primary_commit.specs.declared.items.Notice.{Notice}
use Rattle.primary_commit.specs.declared.primary.Event.{Event}
use Rattle.primary_commit.specs.declared.primary.Event.TheVariants as event
use Rattle.primary_commit.specs.declared.primary.TheConstants.{EVENTS_MAX}

-- so many peers, and what happened among them
pub record Happened : Type 0 where
  pub n : ℕ
  pub events : List Event

pub record HasLeft (happened : Happened) (network : Network) : Type 0 where
  pub least : REPLICAS_MIN ≤ happened.n
  pub most : happened.n ≤ REPLICAS_MAX
  pub few : length happened.events ≤ EVENTS_MAX
  pub may : AreEvents happened.n happened.events
  pub left : network ≡ network_after happened.n happened.events

-- An event that may happen among peers: of some of them that are in few events, a posting to another with a first of each
-- origin, the taking of a notice that its receiver may take.
abbrev pub IsReady : List PeerState → ℕ → Type 0
IsReady peers replica = (none : PeerState) → (get_or peers replica none).events < HISTORY_MAX

abbrev pub MayHappen : List PeerState → List Notice → Event → Type 0
MayHappen peers notices (event.Accept replica op) =
    (replica < length peers) × ((none : PeerState) → (get_or peers replica none).replica ≡ replica) × IsReady peers replica
MayHappen peers notices (event.Post from to firsts place) =
    (from < length peers) × IsReady peers from
    × ((none : PeerState) → let peer = get_or peers from none in (peer.replica ≡ from) × (to < length peer.logs) × (to ≢ from) × (length firsts ≡ length peer.logs))
MayHappen peers notices (event.Take number) =
    (number < length notices)
    × ((none : Notice) → let notice = get_or notices number none in (notice.to < length peers) × IsReady peers notice.to × ((no_peer : PeerState) → IsFor (get_or peers notice.to no_peer) notice))
