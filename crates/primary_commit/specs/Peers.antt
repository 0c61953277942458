-- What peers keep and tell each other, over plain lists. One of them, the primary, numbers all items as they come to it; the
-- others learn its order (in outline after Bayou's primary commit; the messages are this project's own).
use Rattle.std.specs.Prelude.{◌≡◌, ℕ, ℤ, pos, ◌+◌, ◌-◌, ◌<◌, ◌≤◌, ◌==◌, Bool, nat_le, nat_lt, min, List, [], ◌∷◌, ◌++◌, drop, filter, flat_map, get_or, if◌then◌else◌, length, map, set, take}
use Rattle.std.specs.List.{range_with_len, take_while}
use Rattle.tact_base.specs.Images.{image_of}
use Rattle.tact_base.specs.declared.write.Op.{Op}
use Rattle.tact_base.specs.declared.write.Op.TheVariants as op
use Rattle.primary_commit.specs.declared.items.Item.{Item}
use Rattle.primary_commit.specs.declared.items.Notice.{Notice}
use Rattle.primary_commit.specs.declared.items.Pick.{Pick}

-- its number, by origin the items that it has, the order that it was told, and of how many events and postings it was the
-- replica
pub record PeerState : Type 0 where
  pub replica : ℕ
  pub logs : List (List Item)
  pub told : List Pick
  pub events : ℕ
  pub posts : ℕ

-- a peer among so many that has done nothing
abbrev pub fresh_peer : ℕ → ℕ → PeerState
fresh_peer n replica = record { replica = replica; logs = map (λ origin. []) (range_with_len 0 n); told = []; events = 0; posts = 0 }

-- the replica that numbers
abbrev pub primary : ℕ
primary = 0

abbrev pub pick_of : Item → Pick
pick_of item = record { origin = item.origin; index = item.index }

-- the origins, the items that a peer has of one, and how many these are
abbrev pub origins : PeerState → List ℕ
origins peer = range_with_len 0 (length peer.logs)

abbrev pub log_of : PeerState → ℕ → List Item
log_of peer origin = get_or peer.logs origin []

abbrev pub have : PeerState → ℕ → ℕ
have peer origin = length (log_of peer origin)

-- The picks that are committed at a peer: those that it was told, up to the first whose item it hasn't.
abbrev pub has : PeerState → Pick → Bool
has peer pick = nat_lt pick.index (have peer pick.origin)

abbrev pub committed : PeerState → List Pick
committed peer = take_while (has peer) peer.told

-- what a key holds after the operations of these
abbrev pub no_item : Item
no_item = record { origin = 0; index = 0; op = op.Put 0 (pos 0) }

abbrev pub op_of : PeerState → Pick → Op
op_of peer pick = (get_or (log_of peer pick.origin) pick.index no_item).op

abbrev pub value : PeerState → ℕ → ℤ
value peer key = image_of (map (op_of peer) (committed peer)) key

-- the order that a peer was told with items that come to it: the primary's own has them behind
abbrev pub numbered : PeerState → List Item → List Pick
numbered peer items = if peer.replica == primary then peer.told ++ map pick_of items else peer.told

-- a peer that accepts an operation
abbrev pub accepted_item : PeerState → Op → Item
accepted_item peer op = record { origin = peer.replica; index = have peer peer.replica; op = op }

abbrev pub after_accept : PeerState → Op → PeerState
after_accept peer op = record peer {
  logs = set peer.logs peer.replica (log_of peer peer.replica ++ accepted_item peer op ∷ []);
  told = numbered peer (accepted_item peer op ∷ []);
  events = peer.events + 1;
}

-- What a peer tells another, where firsts and a place are given: no first is past what it has, and the place isn't past what
-- it was told. At most 64 items and 256 picks.
abbrev pub first_told : PeerState → List ℕ → ℕ → ℕ
first_told peer firsts origin = min (have peer origin) (get_or firsts origin 0)

abbrev pub place_told : PeerState → ℕ → ℕ
place_told peer place = min (length peer.told) place

abbrev pub notice_of : PeerState → ℕ → List ℕ → ℕ → Notice
notice_of peer to firsts place = record {
  from = peer.replica;
  to = to;
  number = peer.posts;
  firsts = map (first_told peer firsts) (origins peer);
  items = take 64 (flat_map (λ origin. drop (first_told peer firsts origin) (log_of peer origin)) (origins peer));
  place = place_told peer place;
  picks = take 256 (drop (place_told peer place) peer.told);
}

abbrev pub after_post : PeerState → PeerState
after_post peer = record peer { events = peer.events + 1; posts = peer.posts + 1 }

-- the items of an origin that a notice adds to what a peer has: those that it hasn't, where none before them is missing
abbrev pub items_of : Notice → ℕ → List Item
items_of notice origin = filter (λ item. item.origin == origin) notice.items

abbrev pub added : PeerState → Notice → ℕ → List Item
added peer notice origin =
    let first = get_or notice.firsts origin 0 in
    if nat_le first (have peer origin) then drop (have peer origin - first) (items_of notice origin) else []

abbrev pub all_added : PeerState → Notice → List Item
all_added peer notice = flat_map (added peer notice) (origins peer)

-- the order that a peer was told goes on by the picks behind it, where none before them is missing
abbrev pub told_on : PeerState → Notice → List Pick
told_on peer notice = if nat_le notice.place (length peer.told) then peer.told ++ drop (length peer.told - notice.place) notice.picks else peer.told

abbrev pub told_after : PeerState → Notice → List Pick
told_after peer notice = if peer.replica == primary then peer.told ++ map pick_of (all_added peer notice) else told_on peer notice

abbrev pub after_take : PeerState → Notice → PeerState
after_take peer notice = record peer {
  logs = map (λ origin. log_of peer origin ++ added peer notice origin) (origins peer);
  told = told_after peer notice;
  events = peer.events + 1;
}

-- what every peer keeps: it is one of those whose items it keeps, and each item stands at its index in the log of its origin
pub record IsPeer (peer : PeerState) : Type 0 where
  pub among : peer.replica < length peer.logs
  pub placed : (origin index : ℕ) (none : Item) → index < have peer origin
      → ((get_or (log_of peer origin) index none).origin ≡ origin) × ((get_or (log_of peer origin) index none).index ≡ index)

-- the items of each origin among these are those from its first on, in order
abbrev pub AreNext : List ℕ → List Item → Type 0
AreNext firsts items = (origin index : ℕ) (none : Item) → index < length (filter (λ item. item.origin == origin) items)
    → (get_or (filter (λ item. item.origin == origin) items) index none).index ≡ get_or firsts origin 0 + index

-- A notice that a peer may take: it is addressed to it, with a first of each origin, and its items of each origin are those
-- from its first on, in order.
pub record IsFor (peer : PeerState) (notice : Notice) : Type 0 where
  pub addressed : notice.to ≡ peer.replica
  pub counted : length notice.firsts ≡ length peer.logs
  pub in_order : AreNext notice.firsts notice.items
  pub few_items : length notice.items ≤ 64
  pub few_picks : length notice.picks ≤ 256
