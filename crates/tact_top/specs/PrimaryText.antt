-- The summary of drawn events among peers: the counts of them, and each peer's state at the end.
use Rattle.std.specs.Prelude.{ℕ, Bool, true, false, List, [], ◌∷◌, ◌++◌, codes, count_by, decimal, length, map}
use Rattle.std.specs.List.{flat_map, range_with_len}
use Rattle.run_model.specs.Text.{line_text}
use Rattle.primary_commit.specs.Networks.{Network, network_after, peer_at}
use Rattle.primary_commit.specs.Peers.{PeerState, committed}
use Rattle.primary_commit.specs.declared.primary.Event.{Event}
use Rattle.primary_commit.specs.declared.primary.Event.TheVariants as event
use Rattle.drawn_events.specs.DrawnEvents.{counts_of, drawn_events}

-- kinds of events
unfoldable pub is_accept : Event → Bool
is_accept (event.Accept replica op) = true
is_accept other = false

unfoldable pub is_post : Event → Bool
is_post (event.Post from to firsts place) = true
is_post other = false

unfoldable pub is_take : Event → Bool
is_take (event.Take notice) = true
is_take other = false

-- the counts of events, each behind its name
abbrev pub kind_counts : List Event → List (List ℕ)
kind_counts events =
    codes "accepts" ∷ decimal (count_by is_accept events) ∷ codes "posts" ∷ decimal (count_by is_post events)
    ∷ codes "takes" ∷ decimal (count_by is_take events) ∷ []

abbrev pub event_tokens : ℕ → List Event → List (List ℕ)
event_tokens number events = decimal number ∷ codes "events" ∷ decimal (length events) ∷ kind_counts events

-- their line, with its line feed
abbrev pub events_text : ℕ → List Event → List ℕ
events_text number events = line_text (codes "primary" ∷ event_tokens number events) ++ 10 ∷ []

-- the line of a peer: how many items it has of each origin, how many picks it was told, and how many are committed
abbrev pub have_tokens : PeerState → List (List ℕ)
have_tokens peer = codes "have" ∷ map decimal (counts_of peer)

abbrev pub told_tokens : PeerState → List (List ℕ)
told_tokens peer = codes "told" ∷ decimal (length peer.told) ∷ codes "committed" ∷ decimal (length (committed peer)) ∷ []

abbrev pub peer_tokens : PeerState → ℕ → List (List ℕ)
peer_tokens peer replica = decimal replica ∷ have_tokens peer ++ told_tokens peer

abbrev pub peer_text : PeerState → ℕ → List ℕ
peer_text peer replica = line_text (codes "peer" ∷ peer_tokens peer replica) ++ 10 ∷ []

abbrev pub peers_text : List Event → List ℕ
peers_text events = flat_map (λ replica. peer_text (peer_at (network_after 4 events) replica) replica) (range_with_len 0 4)

-- the summary of the events that a number draws
abbrev pub primary_text : ℕ → List ℕ
primary_text number = events_text number (drawn_events number) ++ peers_text (drawn_events number)
