-- What a replica gives up once it took a message, from what it keeps.
use Rattle.std.specs.Prelude.{ℕ, ◌+◌, ◌≤◌, nat_lt, max, List, ◌∷◌, map, take, drop, length, slice_index}
use Rattle.std.specs.List.{prefix_len}
use Rattle.tact_base.specs.Covers.{least_of}
use Rattle.tact_base.specs.WriteOrder.{committed_to}
use Rattle.tact_base.specs.declared.write.Write.{Write}
use Rattle.replica_core.specs.Dropped.{may_lack, past_of}
use Rattle.replica_core.specs.States.{Core, base_at, log_at, known_at, origins_of}

-- how many writes of an origin it knows each replica to have
abbrev pub known_all_at : Core → ℕ → ℕ
known_all_at core origin =
    least_of (length (log_at core origin) ∷ map (λ peer. known_at core peer origin) (may_lack core.setup core.replica origin))

-- of each origin it knows each replica to have at least so many writes
abbrev pub IsKnownByAll : Core → List ℕ → Type 0
IsKnownByAll core known = (origin : ℕ) → slice_index known origin ≤ known_all_at core origin

-- the committed writes that it holds, in order
abbrev pub held_committed : Core → List Write
held_committed core = drop core.writes.dropped (committed_to core.writes.point core.writes.seen)

-- how many of them stand before the first that some replica isn't known to have
abbrev pub longest_at : Core → ℕ
longest_at core = prefix_len (λ write. nat_lt write.index (known_all_at core write.origin)) (held_committed core)

-- with so many of them given up: in order, and in the log of each origin all up to the last of them
abbrev pub without_front : Core → ℕ → Core
without_front core count =
    let gone = take count (held_committed core) in
    record core {
      writes = record core.writes {
        bases = map (λ origin. max (base_at core origin) (past_of gone origin)) (origins_of core);
        dropped = core.writes.dropped + count;
      };
    }

-- with those given up that it knows each replica to have
abbrev pub trimmed : Core → Core
trimmed core = without_front core (longest_at core)
