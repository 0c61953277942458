-- Which messages a replica can take, and what a taken one changes of what it keeps.
use Rattle.std.specs.Prelude.{◌≡◌, ◌≢◌, ℕ, ◌+◌, ◌-◌, ◌<◌, ◌≤◌, ◌==◌, max, List, ◌++◌, All, drop, map, length, slice_index, slice_set, if◌then◌else◌}
use Rattle.tact_base.specs.Logs.{log_after}
use Rattle.tact_base.specs.Setup.{Setup, place_of}
use Rattle.tact_base.specs.declared.write.Cover.{Cover}
use Rattle.tact_base.specs.declared.write.Write.{Write}
use Rattle.run_model.specs.Histories.{greatest}
use Rattle.run_model.specs.Ranges.{IsMessageInRange}
use Rattle.run_model.specs.Taking.{OriginState, after_taking, told_have, told_cover, told_first, told_writes}
use Rattle.run_model.specs.declared.entry.Message.{Message}
use Rattle.split_budget.specs.Budgets.{BudgetState, with_given_up, lent_to, returned_by, lent_by}
use Rattle.replica_core.specs.States.{Core, log_at, cover_at, known_at}
use Rattle.replica_core.specs.Stands.{AreByPeer}

-- the writes of an origin that a message adds to its log
abbrev pub added_at : Core → Message → ℕ → List Write
added_at core message origin = drop (length (log_at core origin) - told_first message origin) (told_writes message origin)

-- a message that a replica can take
pub record FitsAt (core : Core) (message : Message) : Type 0 where
  pub in_range : IsMessageInRange core.setup message
  pub addressed : message.to ≡ core.replica
  -- no more of the replica's own writes is told than there is
  pub own_have : told_have message core.replica ≤ length (log_at core core.replica)
  -- no more is told to have been returned than was lent
  pub returned : (conit : ℕ) → conit < core.setup.conits → slice_index message.returned conit ≤ lent_to core.budgets message.from conit
  -- what is added stands above the point and at most at the stamp of the sender
  pub stamps : (origin : ℕ) → origin < core.setup.replicas → told_first message origin ≤ length (log_at core origin)
      → All (λ (write : Write). (core.writes.point < write.stamp) × (write.stamp ≤ (told_cover message message.from).stamp)) (added_at core message origin)

-- what it keeps of an origin, and the same after a message, which leaves its own writes alone
abbrev pub kept_at : Core → ℕ → OriginState
kept_at core origin = record { log = log_at core origin; cover = cover_at core origin }

abbrev pub kept_after : Core → Message → ℕ → OriginState
kept_after core message origin = if origin == core.replica then kept_at core origin else after_taking origin (kept_at core origin) message

-- of these the log
abbrev pub log_told : Core → Message → ℕ → List Write
log_told core message origin =
    if origin == core.replica then log_at core origin
    else log_after (log_at core origin) (told_first message origin) (told_writes message origin)

-- a replica with the next writes of an origin in its log, and these writes seen in order
abbrev pub with_next : Core → ℕ → List Write → List Write → Core
with_next core origin writes seen = record core {
  writes = record core.writes {
    logs = slice_set core.writes.logs origin (log_at core origin ++ writes);
    seen = seen;
  };
}

-- a number that is known of a peer, raised by what a message tells of its sender
abbrev pub raised_by : Message → ℕ → ℕ → ℕ → ℕ
raised_by message peer before told = if peer == message.from then max before told else before

-- numbers by replica and conit, raised by what a message tells of its sender on each conit
abbrev pub AreToldBy : Setup → Message → List ℕ → List ℕ → List ℕ → Type 0
AreToldBy setup message told old new =
    (peer conit : ℕ) → peer < setup.replicas → conit < setup.conits
    → slice_index new (place_of setup peer conit) ≡ raised_by message peer (slice_index old (place_of setup peer conit)) (slice_index told conit)

-- budgets where a peer is known to have so many own writes
abbrev pub with_known : BudgetState → ℕ → ℕ → BudgetState
with_known budgets peer count =
    with_given_up (record budgets { known = slice_set budgets.known peer (max (slice_index budgets.known peer) count) })

-- The writes of a replica after a message: of each origin its log and its cover, what peers are known to have, and the
-- clock. What is given up stays so.
pub record AreWritesTaken (old new : Core) (message : Message) : Type 0 where
  pub bases : new.writes.bases ≡ old.writes.bases
  pub dropped : new.writes.dropped ≡ old.writes.dropped
  pub kept : (origin : ℕ) → origin < old.setup.replicas → kept_at new origin ≡ kept_after old message origin
  pub known : (peer origin : ℕ) → peer < old.setup.replicas → origin < old.setup.replicas
      → known_at new peer origin ≡ raised_by message peer (known_at old peer origin) (told_have message origin)
  pub clock : new.writes.clock ≡ max old.writes.clock (greatest (map (λ (cover : Cover). cover.stamp) message.covers))

-- Budgets give up some more of their first rows: of writes that each peer is known to have.
pub record GiveUpRows (setup : Setup) (replica : ℕ) (old new : BudgetState) : Type 0 where
  pub rises : old.given_up ≤ new.given_up
  pub within : new.given_up ≤ old.given_up + length old.weights
  pub had : (peer : ℕ) → peer < setup.replicas → peer ≢ replica → new.given_up ≤ slice_index new.known peer
  pub weights : new.weights ≡ drop (new.given_up - old.given_up) old.weights

-- Its budgets after a message: how many own writes the sender has, and what it told that it lent and that it gave back.
pub record AreBudgetsTaken (setup : Setup) (replica : ℕ) (old new : BudgetState) (message : Message) : Type 0 where
  pub same : new ≡ record old {
    given_up = new.given_up;
    weights = new.weights;
    known = new.known;
    lent_known = new.lent_known;
    returned_known = new.returned_known;
  }
  pub rows : GiveUpRows setup replica old new
  pub known : (peer : ℕ) → peer < setup.replicas → peer ≢ replica
      → slice_index new.known peer ≡ raised_by message peer (slice_index old.known peer) (told_have message replica)
  pub lent : AreByPeer setup replica (lent_by new) (λ peer conit. raised_by message peer (lent_by old peer conit) (slice_index message.lent conit))
  pub returned : AreByPeer setup replica (returned_by new) (λ peer conit. raised_by message peer (returned_by old peer conit) (slice_index message.returned conit))
