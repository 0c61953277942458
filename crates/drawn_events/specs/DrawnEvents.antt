-- The events that a number draws: four peers that accept, post and take at random, and no other choice.
use Rattle.std.specs.Prelude.{◌≡◌, ℕ, ◌==◌, pos, nat_lt, List, [], ◌++◌, length, map, replicate, Option, if◌then◌else◌}
use Rattle.std.specs.List.{range_with_len}
use Rattle.std.specs.Option.{option_map}
use Rattle.tact_base.specs.declared.write.Op.TheVariants.{Put}
use Rattle.drawn_scripts.specs.Draws.{Drawing, drawn, ◌>>=◌, after_steps, listed, one_drawn, pick, some_drawn, two_drawn}
use Rattle.primary_commit.specs.Happenings.{Happened}
use Rattle.primary_commit.specs.Networks.{AreEvents, Network, network_after, peer_at}
use Rattle.primary_commit.specs.Peers.{PeerState, have}
use Rattle.primary_commit.specs.declared.primary.Event.{Event}
use Rattle.primary_commit.specs.declared.primary.Event.TheVariants as event

unfoldable pub accept_drawn : Drawing Event
accept_drawn = do
  replica ← pick 4
  key ← pick 8
  size ← pick 100
  drawn (event.Accept replica (Put key (pos size)))

-- The firsts and the place that a posting to a peer is given: as to one that has nothing, or what it has, and how many picks
-- it was told.
abbrev pub counts_of : PeerState → List ℕ
counts_of peer = map (have peer) (range_with_len 0 4)

abbrev pub firsts_given : PeerState → ℕ → List ℕ
firsts_given peer kind = if kind == 0 then replicate 4 0 else counts_of peer

abbrev pub place_given : PeerState → ℕ → ℕ
place_given peer kind = if kind == 0 then 0 else length peer.told

-- a posting from one peer to another
unfoldable pub post_drawn : Network → Drawing Event
post_drawn network = do
  two ← two_drawn
  kind ← pick 2
  drawn (event.Post two.0 two.1 (firsts_given (peer_at network two.1) kind) (place_given (peer_at network two.1) kind))

-- the taking of one of so many notices that were posted
unfoldable pub take_drawn : ℕ → Drawing (Option Event)
take_drawn posted = do
  notice ← one_drawn posted
  drawn (option_map event.Take notice)

-- what a step does, by a number below ten
abbrev pub event_drawn : Network → ℕ → Drawing (Option Event)
event_drawn network kind =
    if nat_lt kind 4 then some_drawn accept_drawn
    else if nat_lt kind 7 then some_drawn (post_drawn network)
    else take_drawn (length network.notices)

-- one more step
unfoldable pub step_drawn : List Event → Drawing (List Event)
step_drawn events = do
  kind ← pick 10
  more ← event_drawn (network_after 4 events) kind
  drawn (events ++ listed more)

-- the events after so many steps, and those that a number draws
abbrev pub events_after : ℕ → Drawing (List Event)
events_after steps = after_steps (λ step. step_drawn) [] steps

abbrev pub drawn_events : ℕ → List Event
drawn_events number = (events_after 1000 number).0

-- what happens among four peers
pub record IsAmongFour (happened : Happened) : Type 0 where
  pub four : happened.n ≡ 4
  pub may : AreEvents 4 happened.events
