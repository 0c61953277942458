-- Peers that accept, post and take, event by event.
use Rattle.std.specs.Prelude.{◌≡◌, ◌≢◌, ℕ, ◌<◌, List, [], ◌∷◌, ◌++◌, fold, get_or, length, map, set}
use Rattle.std.specs.List.{range_with_len}
use Rattle.run_model.specs.Histories.{EachAfter}
use Rattle.primary_commit.specs.Peers.{PeerState, after_accept, after_post, after_take, committed, fresh_peer, notice_of}
use Rattle.primary_commit.specs.declared.items.Notice.{Notice}
use Rattle.primary_commit.specs.declared.items.Pick.{Pick}
use Rattle.primary_commit.specs.declared.primary.Event.{Event}
use Rattle.primary_commit.specs.declared.primary.Event.TheVariants as event

-- the peers by number, and all notices that were posted
pub record Network : Type 0 where
  pub peers : List PeerState
  pub notices : List Notice

abbrev pub fresh_network : ℕ → Network
fresh_network n = record { peers = map (fresh_peer n) (range_with_len 0 n); notices = [] }

abbrev pub peer_at : Network → ℕ → PeerState
peer_at network replica = get_or network.peers replica (fresh_peer 0 replica)

abbrev pub no_notice : Notice
no_notice = record { from = 0; to = 0; number = 0; firsts = []; items = []; place = 0; picks = [] }

abbrev pub notice_at : Network → ℕ → Notice
notice_at network number = get_or network.notices number no_notice

-- a network after one event, and after events in order
abbrev pub with_peer : Network → PeerState → Network
with_peer network peer = record network { peers = set network.peers peer.replica peer }

abbrev pub after_event : Network → Event → Network
after_event network (event.Accept replica op) = with_peer network (after_accept (peer_at network replica) op)
after_event network (event.Post from to firsts place) =
    let posted = with_peer network (after_post (peer_at network from)) in
    record posted { notices = network.notices ++ notice_of (peer_at network from) to firsts place ∷ [] }
after_event network (event.Take notice) =
    let taken = notice_at network notice in
    with_peer network (after_take (peer_at network taken.to) taken)

abbrev pub network_after : ℕ → List Event → Network
network_after n events = fold after_event (fresh_network n) events

-- the committed picks of a peer after events
abbrev pub committed_at : ℕ → List Event → ℕ → List Pick
committed_at n events replica = committed (peer_at (network_after n events) replica)

-- an event that may follow others: of peers that there are, a post to another one, a take of what was posted
abbrev pub MayFollow : ℕ → List Event → Event → Type 0
MayFollow n before (event.Accept replica op) = replica < n
MayFollow n before (event.Post from to firsts place) = (from < n) × (to < n) × (to ≢ from) × (length firsts ≡ n)
MayFollow n before (event.Take notice) = notice < length (network_after n before).notices

abbrev pub AreEvents : ℕ → List Event → Type 0
AreEvents n events = EachAfter (MayFollow n) events
