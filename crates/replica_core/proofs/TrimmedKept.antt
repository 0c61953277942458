-- A replica goes on keeping what it keeps where it gives up what each replica is known to have.
use Rattle.std.proofs.Common.{◌≡◌, ℕ, ◌+◌, ◌<◌, max, nat_lt, true, List, map, take, length, get_or, All, ap, ap₂, ◌∙◌, lt_of_lt_of_le, ltb-true, arith}
use Rattle.std.proofs.lemmas.List.Elements.{All-take, All-weaker}
use Rattle.std.proofs.lemmas.List.FromFn.{fill_by_all, length-map-range_with_len}
use Rattle.tact_base.proofs.ListLemmas.{get_or-map_range}
use Rattle.tact_base.specs.declared.limits.TheConstants.{HISTORY_MAX}
use Rattle.tact_base.specs.declared.write.Write.{Write}
use Rattle.replica_core.specs.Dropped.{past_of}
use Rattle.replica_core.specs.States.{Core, IsKept, AreBasesHad, base_at, log_at, known_at, origins_of}
use Rattle.replica_core.specs.Trimming.{known_all_at, held_committed, longest_at, trimmed}
use Rattle.replica_core.proofs.DroppedLemmas.{least_of-may_lack, past_of-within, prefix_len-each}
use Rattle.replica_core.proofs.TrimmedWrites.{IsPlaced, held-placed}

-- the writes that it gives up
abbrev pub gone_of : Core → List Write
gone_of core = take (longest_at core) (held_committed core)

-- so many of its origin are given up then
abbrev pub base_then : Core → ℕ → ℕ
base_then core origin = max (base_at core origin) (past_of (gone_of core) origin)

-- a core with other writes given up, where the rest is as it was
abbrev pub with_given_up : Core → List ℕ → List (List Write) → List Write → ℕ → ℕ → Core
with_given_up core bases logs seen dropped point =
    record core { writes = record core.writes { bases = bases; logs = logs; seen = seen; dropped = dropped; point = point } }

pub with_given_up-is : (core : Core) (bases : List ℕ) (logs : List (List Write)) (seen : List Write) (dropped point : ℕ)
    → length bases ≡ core.setup.replicas
    → ((origin : ℕ) → origin < core.setup.replicas → get_or bases origin 0 ≡ base_then core origin)
    → logs ≡ core.writes.logs
    → seen ≡ core.writes.seen
    → dropped ≡ core.writes.dropped + longest_at core
    → point ≡ core.writes.point
    → with_given_up core bases logs seen dropped point ≡ trimmed core
with_given_up-is core bases logs seen dropped point sized each same_logs same_seen more same_point =
    let filled = fill_by_all (base_then core) bases core.setup.replicas 0 sized each in
    ap₂ (λ (ns : List ℕ) (ls : List (List Write)). with_given_up core ns ls seen dropped point) filled same_logs
    ∙ ap₂ (λ (ws : List Write) (n : ℕ). with_given_up core (map (base_then core) (origins_of core)) core.writes.logs ws n point) same_seen more
    ∙ ap (λ (n : ℕ). with_given_up core (map (base_then core) (origins_of core)) core.writes.logs core.writes.seen (core.writes.dropped + longest_at core) n) same_point

module _ (core : Core) (kept : IsKept core) where
  gone-placed : All (IsPlaced core) (gone_of core)
  gone-placed = All-take (IsPlaced core) (longest_at core) (held_committed core) (held-placed core kept.between)

  pub gone-within : All (λ (write : Write). write.index < length (log_at core write.origin)) (gone_of core)
  gone-within =
      All-weaker (IsPlaced core) (λ (write : Write). write.index < length (log_at core write.origin)) (λ write placed. placed.1) (gone_of core) gone-placed

  pub gone-few : All (λ (write : Write). write.index < HISTORY_MAX) (gone_of core)
  gone-few =
      All-weaker (λ (write : Write). write.index < length (log_at core write.origin)) (λ (write : Write). write.index < HISTORY_MAX)
      (λ write within. lt_of_lt_of_le within (kept.few.each write.origin)) (gone_of core) gone-within

  gone-known : All (λ (write : Write). write.index < known_all_at core write.origin) (gone_of core)
  gone-known =
      let test = λ (write : Write). nat_lt write.index (known_all_at core write.origin) in
      All-weaker (λ (write : Write). test write ≡ true) (λ (write : Write). write.index < known_all_at core write.origin)
      (λ write passes. ltb-true write.index (known_all_at core write.origin) passes) (gone_of core) (prefix_len-each test (held_committed core))

  base_is : (origin : ℕ) → origin < core.setup.replicas → base_at (trimmed core) origin ≡ base_then core origin
  base_is origin within = get_or-map_range (base_then core) core.setup.replicas origin 0 within

  bases_had : AreBasesHad (trimmed core)
  bases_had = record {
    within = λ origin within.
        omega (arith, base_is origin within, kept.bases.within origin within, past_of-within (λ (o : ℕ). length (log_at core o)) (gone_of core) gone-within origin);
    had = λ peer origin peer_in within apart other.
        omega (
          arith,
          base_is origin within,
          kept.bases.had peer origin peer_in within apart other,
          past_of-within (known_all_at core) (gone_of core) gone-known origin,
          least_of-may_lack core.setup core.replica origin (length (log_at core origin)) (λ (p : ℕ). known_at core p origin) peer peer_in apart other,
        );
  }

  pub IsKept-trimmed : IsKept (trimmed core)
  IsKept-trimmed = record {
    setup = kept.setup;
    places = record {
      among = kept.places.among;
      bases_sized = length-map-range_with_len (base_then core) 0 core.setup.replicas;
      logs_sized = kept.places.logs_sized;
      covers_sized = kept.places.covers_sized;
      known_sized = kept.places.known_sized;
      calls_sized = kept.places.calls_sized;
    };
    budgets = record { setup = kept.budgets.setup; replica = kept.budgets.replica };
    between = record { ordered = kept.between.ordered; placed = kept.between.placed; own = kept.between.own; committed = kept.between.committed };
    bases = bases_had;
    few = kept.few;
    lent = kept.lent;
  }
