-- How a peer keeps its committed order and the image of it.
use Rattle.std.specs.Prelude.{◌≡◌, ◌==◌, ℕ, ◌+◌, ◌-◌, ◌<◌, ◌≤◌, nat_le, true, List, [], ◌++◌, All, drop, filter, flat_map, get_or, if◌then◌else◌, length, map, take}
use Rattle.std.specs.List.{range_with_len}
use Rattle.tact_base.specs.Images.{image_of}
use Rattle.tact_base.specs.declared.limits.TheConstants.{HISTORY_MAX, REPLICAS_MAX}
use Rattle.rollback_apply.specs.Image.{ImageState, base_of}
use Rattle.primary_commit.specs.Peers.{PeerState, IsPeer, committed, has, op_of}
use Rattle.primary_commit.specs.declared.items.Item.{Item}
use Rattle.primary_commit.specs.declared.items.Pick.{Pick}

-- the items by origin, and how many more of each origin can surely be put in without taking memory
pub record LogsState : Type 0 where
  pub logs : List (List Item)
  pub room : ℕ

-- what matters of a peer to what is committed: its items and the order that it was told
abbrev pub peer_with : List (List Item) → List Pick → PeerState
peer_with logs told = record { replica = 0; logs = logs; told = told; events = 0; posts = 0 }

-- So many picks of the order are known to be committed, and the image is that of their operations.
pub record IsSettled (peer : PeerState) (count : ℕ) (image : ImageState) : Type 0 where
  pub within : count ≤ length peer.told
  pub had : All (λ pick. has peer pick ≡ true) (take count peer.told)
  pub counted : image.committed ≡ count
  pub none : image.ops ≡ []
  pub values : (key : ℕ) → base_of image key ≡ image_of (map (op_of peer) (take count peer.told)) key

-- Between calls these are all that are committed.
pub record KeepsPeer (peer : PeerState) (count : ℕ) (image : ImageState) : Type 0 where
  pub is_peer : IsPeer peer
  pub settled : IsSettled peer count image
  pub all : take count peer.told ≡ committed peer
  pub few : length peer.logs ≤ REPLICAS_MAX
  pub events : peer.events ≤ HISTORY_MAX
  pub posts : peer.posts ≤ peer.events

-- a log after items of its origin from a first one on: with those that it lacks, unless they leave a gap
abbrev pub log_after : List Item → ℕ → List Item → List Item
log_after log first items = log ++ (if nat_le first (length log) then drop (length log - first) items else [])

-- of each origin the items past so many, origin by origin
abbrev pub gained : List ℕ → List (List Item) → List Item
gained haves logs = flat_map (λ origin. drop (get_or haves origin 0) (get_or logs origin [])) (range_with_len 0 (length logs))

-- an order after picks told from a place on: with those that it lacks, unless they leave a gap
abbrev pub order_after : List Pick → ℕ → List Pick → List Pick
order_after told place picks = if nat_le place (length told) then told ++ drop (length told - place) picks else told
