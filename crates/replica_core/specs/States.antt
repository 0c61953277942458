-- The state of a replica, as plain lists and numbers.
use Rattle.std.specs.Prelude.{◌≡◌, ◌≢◌, ℕ, ◌+◌, ◌*◌, ◌<◌, ◌≤◌, ◌||◌, Bool, nat_le, max, List, [], ◌∷◌, ◌++◌, All, map, length, slice_index, slice_index_or, slice_set}
use Rattle.std.specs.List.{flat_map, range_with_len}
use Rattle.tact_base.specs.Counts.{one_more}
use Rattle.tact_base.specs.Covers.{no_cover, later_cover, least_stamp}
use Rattle.tact_base.specs.Setup.{Setup, IsSetup}
use Rattle.tact_base.specs.WriteOrder.{in_order, with_write}
use Rattle.tact_base.specs.declared.limits.TheConstants.{STAMP_MAX, HISTORY_MAX, CLIENTS, ALPHA_MAX, AMOUNT_MAX}
use Rattle.tact_base.specs.declared.conit_list.Weight.{Weight}
use Rattle.tact_base.specs.declared.write.Cover.{Cover}
use Rattle.tact_base.specs.declared.write.Op.{Op}
use Rattle.tact_base.specs.declared.write.Write.{Write}
use Rattle.split_budget.specs.Budgets.{BudgetState}
use Rattle.write_log.specs.Logs.{LogState, room_of}
use Rattle.replica_core.specs.Seen.{AreOnConits}

-- What it keeps of writes. By origin: how many of its first writes are given up, its whole log, and its cover, its own
-- at the moment of its last entry. By peer and then origin: how many of the origin's writes the peer is known to have.
-- All writes in order, of which those up to the point are committed, and the first so many of these are given up. Its
-- clock.
pub record WritesKept : Type 0 where
  pub bases : List ℕ
  pub logs : List (List Write)
  pub covers : List Cover
  pub known : List ℕ
  pub seen : List Write
  pub dropped : ℕ
  pub point : ℕ
  pub clock : ℕ

-- What it counts: by client its calls; how many messages it sent; how many entries it made; and the moment of the last.
pub record CountsKept : Type 0 where
  pub calls : List ℕ
  pub sends : ℕ
  pub count : ℕ
  pub last : ℕ

-- What a replica of a setup keeps: writes, budgets (without their room) and counts.
pub record Core : Type 0 where
  pub setup : Setup
  pub replica : ℕ
  pub writes : WritesKept
  pub budgets : BudgetState
  pub counts : CountsKept

-- and for how many more own writes it surely has room without taking memory, and for how many told writes of each other
-- origin beside these
pub record ReplicaState : Type 0 where
  pub core : Core
  pub spare : ℕ
  pub beside : ℕ

-- the log that it has of an origin, the cover that it has of one, and how many writes of an origin it knows a peer to
-- have
abbrev pub log_at : Core → ℕ → List Write
log_at core origin = slice_index_or core.writes.logs origin []

abbrev pub cover_at : Core → ℕ → Cover
cover_at core origin = slice_index_or core.writes.covers origin no_cover

abbrev pub known_at : Core → ℕ → ℕ → ℕ
known_at core peer origin = slice_index core.writes.known (peer * core.setup.replicas + origin)

-- how many of the first writes of an origin are given up
abbrev pub base_at : Core → ℕ → ℕ
base_at core origin = slice_index core.writes.bases origin

-- the numbers of its origins
abbrev pub origins_of : Core → List ℕ
origins_of core = range_with_len 0 core.setup.replicas

-- no entry may follow: so many were made, or the clock stands at its end
abbrev pub is_full : Core → Bool
is_full core = nat_le HISTORY_MAX core.counts.count || nat_le STAMP_MAX core.writes.clock

-- its lists have a place for each origin, for each peer and origin, and for each client
pub record HasPlaces (core : Core) : Type 0 where
  pub among : core.replica < core.setup.replicas
  pub bases_sized : length core.writes.bases ≡ core.setup.replicas
  pub logs_sized : length core.writes.logs ≡ core.setup.replicas
  pub covers_sized : length core.writes.covers ≡ core.setup.replicas
  pub known_sized : length core.writes.known ≡ core.setup.replicas * core.setup.replicas
  pub calls_sized : length core.counts.calls ≡ CLIENTS

-- its budgets are those of this replica of the setup
pub record HasBudgets (core : Core) : Type 0 where
  pub setup : core.budgets.setup ≡ core.setup
  pub replica : core.budgets.replica ≡ core.replica

-- The next writes of an origin, of whose log there are so many: they weigh on so many conits alone, and with them the
-- log is no longer than a history.
pub record AreNext (conits origin count : ℕ) (writes : List Write) : Type 0 where
  pub origins : All (λ (write : Write). write.origin ≡ origin) writes
  pub indices : map (λ (write : Write). write.index) writes ≡ range_with_len count (length writes)
  pub on_conits : AreOnConits conits writes
  pub few : count + length writes ≤ HISTORY_MAX

-- all writes of its logs, joined by origin
abbrev pub joined : ℕ → List (List Write) → List Write
joined replicas logs = flat_map (λ origin. slice_index_or logs origin []) (range_with_len 0 replicas)

-- What holds of it between two entries: the writes in order are those of its logs, each within its log; its own cover
-- isn't past its clock; and what is committed goes no further than the least stamp.
pub record IsBetweenEntries (core : Core) : Type 0 where
  pub ordered : core.writes.seen ≡ in_order (joined core.setup.replicas core.writes.logs)
  pub placed : All (λ (write : Write). (write.origin < core.setup.replicas) × (write.index < length (log_at core write.origin))) core.writes.seen
  pub own : (cover_at core core.replica).stamp ≤ core.writes.clock
  pub committed : core.writes.point ≤ least_stamp core.writes.covers

-- What is given up of an origin is in its log, and each replica is known to have it.
pub record AreBasesHad (core : Core) : Type 0 where
  pub within : (origin : ℕ) → origin < core.setup.replicas → base_at core origin ≤ length (log_at core origin)
  pub had : (peer origin : ℕ) → peer < core.setup.replicas → origin < core.setup.replicas → peer ≢ origin → peer ≢ core.replica
      → base_at core origin ≤ known_at core peer origin

-- numbers that an opening and so many entries can have lent: each at most the greatest alpha, and the greatest amount
-- for each entry
abbrev pub AreLentBy : ℕ → List ℕ → Type 0
AreLentBy count numbers = All (λ lent. lent ≤ ALPHA_MAX + count * AMOUNT_MAX) numbers

-- No log is longer than a history, and its own no longer than the count of its entries.
pub record AreFew (replica count : ℕ) (logs : List (List Write)) : Type 0 where
  pub entries : count ≤ HISTORY_MAX
  pub own : length (slice_index_or logs replica []) ≤ count
  pub each : (origin : ℕ) → length (slice_index_or logs origin []) ≤ HISTORY_MAX

-- What every replica keeps.
pub record IsKept (core : Core) : Type 0 where
  pub setup : IsSetup core.setup
  pub places : HasPlaces core
  pub budgets : HasBudgets core
  pub between : IsBetweenEntries core
  pub bases : AreBasesHad core
  pub few : AreFew core.replica core.counts.count core.writes.logs
  pub lent : AreLentBy core.counts.count core.budgets.lent

-- There is room for so many own writes in its log, among what it has seen, and in the budgets; and beside it for so
-- many told writes of each other origin, in its log and among what it has seen.
pub record HasRooms (replica spare beside : ℕ) (logs : LogState) (seen_room budget_room : ℕ) : Type 0 where
  pub own : spare ≤ room_of logs replica
  pub others : (origin : ℕ) → origin ≢ replica → origin < length logs.logs → beside ≤ room_of logs origin
  pub seen : spare + beside ≤ seen_room
  pub budgets : spare ≤ budget_room

-- what the replica is at now: so many own writes, its clock, and a moment
abbrev pub own_cover : Core → ℕ → Cover
own_cover core moment = record { count = length (log_at core core.replica); stamp = core.writes.clock; moment = moment }

-- the covers with its own at a moment
abbrev pub covers_with_own : Core → ℕ → List Cover
covers_with_own core moment = slice_set core.writes.covers core.replica (later_cover (cover_at core core.replica) (own_cover core moment))

-- after one more entry at the moment that follows a handed one: its own cover is raised, and what can be is committed
abbrev pub entered : Core → ℕ → Core
entered core handed =
    let last = max handed core.counts.last in
    let covers = covers_with_own core last in
    record core {
      writes = record core.writes { covers = covers; point = least_stamp covers };
      counts = record core.counts { count = core.counts.count + 1; last = last };
    }

-- The same of an entry that is counted already.
abbrev pub closed : Core → ℕ → Core
closed core handed =
    let last = max handed core.counts.last in
    let covers = covers_with_own core last in
    record core {
      writes = record core.writes { covers = covers; point = least_stamp covers };
      counts = record core.counts { last = last };
    }

-- with one more message sent, and with one more call of a client
abbrev pub with_sent : Core → Core
with_sent core = record core { counts = record core.counts { sends = one_more core.counts.sends } }

abbrev pub with_call : Core → ℕ → Core
with_call core client =
    record core { counts = record core.counts { calls = slice_set core.counts.calls client (one_more (slice_index core.counts.calls client)) } }

-- the write that it accepts next, at the moment that follows a handed one
abbrev pub next_write : Core → ℕ → List Weight → Op → Write
next_write core handed weights op = record {
  origin = core.replica;
  index = length (log_at core core.replica);
  stamp = core.writes.clock + 1;
  moment = max handed core.counts.last;
  weights = weights;
  op = op;
}

-- its writes with one of its own, whose stamp becomes the clock
abbrev pub with_own : Core → Write → WritesKept
with_own core write = record core.writes {
  logs = slice_set core.writes.logs core.replica (log_at core core.replica ++ write ∷ []);
  seen = with_write write core.writes.seen;
  clock = write.stamp;
}
