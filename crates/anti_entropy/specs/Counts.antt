-- What a replica sends to a peer, and whether it has to, by two lists: by origin, how many of its writes the replica
-- has, and how many the peer is known to have.
use Rattle.std.specs.Prelude.{◌≡◌, ◌≢◌, ℕ, ◌<◌, List, length, map, slice_index}
use Rattle.std.specs.List.{range_with_len}
use Rattle.tact_base.specs.Counts.{first_index}
use Rattle.tact_base.specs.Setup.{Setup, replicas_of}
use Rattle.run_model.specs.Taking.{have, known}
use Rattle.run_model.specs.declared.entry.Entry.{Entry}

-- by origin, where its writes begin in a message to a peer, where no first is given
abbrev pub firsts_of : List ℕ → List ℕ → ℕ → List ℕ
firsts_of haves peer_haves peer =
    map (λ origin. first_index peer origin (slice_index haves origin) (slice_index peer_haves origin) 0) (range_with_len 0 (length haves))

-- the two lists are those of a replica that did this part, for this peer
pub record AreCountsOf (setup : Setup) (replica : ℕ) (part : List Entry) (peer : ℕ) (haves peer_haves : List ℕ) : Type 0 where
  pub has : haves ≡ map (have replica part) (replicas_of setup)
  pub knows : peer_haves ≡ map (known part peer) (replicas_of setup)

-- of some origin other than the peer itself, the replica that did this part has more writes than it knows the peer to
-- have
abbrev pub IsBehind : Setup → ℕ → List Entry → ℕ → Type 0
IsBehind setup replica part peer = (origin : ℕ) × (origin < setup.replicas) × (origin ≢ peer) × (known part peer origin < have replica part origin)
