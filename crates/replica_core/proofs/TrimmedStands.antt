-- A replica that took a message gives up what the definitions say.
use Rattle.std.proofs.Common.{◌≡◌, ℕ, ◌+◌, ◌*◌, ◌<◌, ◌≤◌, ◌==◌, max, nat_le, nat_lt, true, not, List, [], ◌∷◌, ◌++◌, map, take, drop, filter, length, get_or, All, Some, sym, ap, ap₂, ◌∙◌, arith}
use Rattle.std.specs.List.{prefix_len}
use Rattle.std.proofs.Math.Seq.{take-add}
use Rattle.std.proofs.lemmas.List.{take-append-le, map-append}
use Rattle.std.proofs.lemmas.List.Elements.{All-weaker, All-drop, All-filter, filter-append}
use Rattle.tact_base.proofs.ListLemmas.{get_or-map_range, map_agree, map_range_agree}
use Rattle.tact_base.proofs.Peers.{All-kept, All-peers}
use Rattle.tact_base.specs.Covers.{least_of}
use Rattle.tact_base.specs.Setup.{Setup, replicas_of, peers_of}
use Rattle.tact_base.specs.WriteOrder.{committed_to}
use Rattle.tact_base.specs.declared.write.Write.{Write}
use Rattle.run_model.specs.Histories.{last_moment, greatest}
use Rattle.run_model.specs.Order.{seen, point, committed}
use Rattle.run_model.specs.Runs.{IsPart}
use Rattle.run_model.specs.Taking.{log_of, cover_of, clock, known}
use Rattle.run_model.specs.declared.entry.Entry.{Entry}
use Rattle.run_model.specs.declared.entry.Message.{Message}
use Rattle.run_model.proofs.PartLemmas.{taken_by, greatest-append}
use Rattle.run_model.proofs.PrefixLemmas.{IsPrefix-length}
use Rattle.replica_core.specs.Dropped.{may_lack, known_all, past_of, dropped, dropped_of}
use Rattle.replica_core.specs.States.{Core, WritesKept, base_at, log_at, known_at}
use Rattle.replica_core.specs.Stands.{WritesStand}
use Rattle.replica_core.specs.Trimming.{known_all_at, held_committed, longest_at, trimmed}
use Rattle.replica_core.proofs.DroppedLemmas.{committed-goes_on, dropped-few, dropped-taken, prefix_len-agree}

-- past some writes of an origin, and some more
pub past_of-append : (one other : List Write) (origin : ℕ)
    → past_of (one ++ other) origin ≡ max (past_of one origin) (past_of other origin)
past_of-append one other origin =
    let is_of = λ (write : Write). write.origin == origin in
    let past = λ (write : Write). write.index + 1 in
    ap (λ (ws : List Write). greatest (map past ws)) (filter-append is_of one other)
    ∙ ap greatest (map-append past (filter is_of one) (filter is_of other))
    ∙ greatest-append (map past (filter is_of one)) (map past (filter is_of other))

-- What is kept of writes is what the definitions say of a part, but that so many of the first committed writes are
-- given up, and so many of each origin.
pub record WritesHeld (setup : Setup) (replica : ℕ) (part : List Entry) (count : ℕ) (base : ℕ → ℕ) (kept : WritesKept) : Type 0 where
  pub bases : kept.bases ≡ map base (replicas_of setup)
  pub logs : kept.logs ≡ map (log_of replica part) (replicas_of setup)
  pub covers : kept.covers ≡ map (cover_of replica part (last_moment part)) (replicas_of setup)
  pub known : (peer origin : ℕ)
      → peer < setup.replicas
      → origin < setup.replicas
      → get_or kept.known (peer * setup.replicas + origin) 0 ≡ known part peer origin
  pub seen : kept.seen ≡ seen setup replica part
  pub dropped : kept.dropped ≡ count
  pub point : kept.point ≡ point setup replica part
  pub clock : kept.clock ≡ clock part

-- so it stands for the part where these are given up after it
pub WritesStand-held : (setup : Setup) (replica : ℕ) (part : List Entry) (kept : WritesKept)
    → WritesHeld setup replica part (dropped setup replica part) (dropped_of setup replica part) kept
    → WritesStand setup replica part kept
WritesStand-held setup replica part kept held = record {
  bases = held.bases;
  logs = held.logs;
  covers = held.covers;
  known = held.known;
  seen = held.seen;
  dropped = held.dropped;
  point = held.point;
  clock = held.clock;
}

-- After a take, where what was given up before it is so still.
module _ (part : List Entry) (entry : Entry) (message : Message) (takes : taken_by entry ≡ Some message) (core : Core)
    (is_part : IsPart core.setup core.replica (part ++ entry ∷ [])) (earlier : IsPart core.setup core.replica part)
    (among : All (λ (write : Write). write.origin < core.setup.replicas) core.writes.seen)
    (held : WritesHeld core.setup core.replica (part ++ entry ∷ []) (dropped core.setup core.replica part) (dropped_of core.setup core.replica part) core.writes) where
  abbrev further : List Entry
  further = part ++ entry ∷ []

  abbrev count : ℕ
  count = dropped core.setup core.replica part

  abbrev all : List Write
  all = committed core.setup core.replica further

  log_is : (origin : ℕ) → origin < core.setup.replicas → log_at core origin ≡ log_of core.replica further origin
  log_is origin within =
      ap (λ (logs : List (List Write)). get_or logs origin []) held.logs
      ∙ get_or-map_range (log_of core.replica further) core.setup.replicas origin [] within

  -- it knows of each replica what the definitions say
  known_all_is : (origin : ℕ)
      → origin < core.setup.replicas
      → known_all_at core origin ≡ known_all core.setup core.replica further origin
  known_all_is origin within =
      ap₂ (λ (n : ℕ) (ns : List ℕ). least_of (n ∷ ns)) (ap length (log_is origin within))
      (map_agree (λ peer. known_at core peer origin) (λ peer. known further peer origin) (may_lack core.setup core.replica origin)
      (All-kept (λ peer. known_at core peer origin ≡ known further peer origin) (λ peer. not (peer == origin)) (peers_of core.setup core.replica)
      (All-peers core.setup core.replica (λ peer. not (peer == origin) ≡ true → known_at core peer origin ≡ known further peer origin)
      (λ peer peer_in other apart. held.known peer origin peer_in within))))

  held_is : held_committed core ≡ drop count all
  held_is = ap₂ drop held.dropped (ap₂ committed_to held.point held.seen)

  -- so many more are given up
  longest_is : longest_at core ≡ prefix_len (λ write. nat_lt write.index (known_all core.setup core.replica further write.origin)) (drop count all)
  longest_is =
      let here = λ (write : Write). nat_lt write.index (known_all_at core write.origin) in
      let defined = λ (write : Write). nat_lt write.index (known_all core.setup core.replica further write.origin) in
      let each : All (λ (write : Write). write.origin < core.setup.replicas) (held_committed core) =
      All-drop (λ (write : Write). write.origin < core.setup.replicas) core.writes.dropped (committed_to core.writes.point core.writes.seen)
      (All-filter (λ (write : Write). nat_le write.stamp core.writes.point) (λ (write : Write). write.origin < core.setup.replicas) core.writes.seen among) in
      prefix_len-agree here defined (held_committed core)
      (All-weaker (λ (write : Write). write.origin < core.setup.replicas) (λ (write : Write). here write ≡ defined write)
      (λ write within. ap (nat_lt write.index) (known_all_is write.origin within)) (held_committed core) each)
      ∙ ap (prefix_len defined) held_is

  dropped_is : (trimmed core).writes.dropped ≡ dropped core.setup core.replica further
  dropped_is =
      ap₂ (λ (n m : ℕ). n + m) held.dropped longest_is
      ∙ sym (dropped-taken core.setup core.replica part entry is_part message takes)

  few : count ≤ length all
  few = omega (arith, dropped-few core.setup core.replica part earlier, IsPrefix-length (committed core.setup core.replica part) all (committed-goes_on core.setup core.replica part entry is_part))

  -- those that were given up, and these
  gone_is : take (dropped core.setup core.replica further) all ≡ take count (committed core.setup core.replica part) ++ take (longest_at core) (held_committed core)
  gone_is =
      let longer = committed-goes_on core.setup core.replica part entry is_part in
      ap (λ (n : ℕ). take n all) (sym dropped_is ∙ ap (λ (n : ℕ). n + longest_at core) held.dropped)
      ∙ take-add count (longest_at core) all
      ∙ ap₂ (λ (xs ys : List Write). xs ++ ys)
      (ap (take count) longer.1 ∙ take-append-le count (committed core.setup core.replica part) longer.0 (dropped-few core.setup core.replica part earlier))
      (ap (take (longest_at core)) (sym held_is))

  bases_are : (trimmed core).writes.bases ≡ map (dropped_of core.setup core.replica further) (replicas_of core.setup)
  bases_are =
      let gone = take (longest_at core) (held_committed core) in
      map_range_agree (λ origin. max (base_at core origin) (past_of gone origin)) (dropped_of core.setup core.replica further) core.setup.replicas
      (λ origin within.
      let was : base_at core origin ≡ dropped_of core.setup core.replica part origin =
      ap (λ (bases : List ℕ). get_or bases origin 0) held.bases ∙ get_or-map_range (dropped_of core.setup core.replica part) core.setup.replicas origin 0 within in
      ap (λ (n : ℕ). max n (past_of gone origin)) was
      ∙ sym (past_of-append (take count (committed core.setup core.replica part)) gone origin)
      ∙ ap (λ (ws : List Write). past_of ws origin) (sym gone_is))

  -- What it gives up then is what is given up after the part with the take.
  pub WritesStand-trimmed : WritesStand core.setup core.replica further (trimmed core).writes
  WritesStand-trimmed = record {
    bases = bases_are;
    logs = held.logs;
    covers = held.covers;
    known = held.known;
    seen = held.seen;
    dropped = dropped_is;
    point = held.point;
    clock = held.clock;
  }
