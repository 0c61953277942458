-- The four session guarantees (Terry and others, 1994), over a history and the positions of a client's accepted writes and
-- answered reads.
use Rattle.std.specs.Prelude.{◌≡◌, ℕ, ◌<◌, List, [], AllPairs, Contains, IsSomeAnd, slice_get, take, Some}
use Rattle.std.specs.Option.{option_and_then, option_map_or}
use Rattle.tact_base.specs.Setup.{Setup}
use Rattle.tact_base.specs.declared.write.Write.{Write}
use Rattle.run_model.specs.Histories.{part_of}
use Rattle.run_model.specs.Order.{seen}
use Rattle.run_model.specs.OwnWrites.{accepted_by}
use Rattle.run_model.specs.declared.call.Reply.TheVariants as reply
use Rattle.run_model.specs.declared.entry.Act.{Act}
use Rattle.run_model.specs.declared.entry.Act.TheVariants as act
use Rattle.run_model.specs.declared.entry.Entry.{Entry}

-- the write that was accepted at a position
abbrev pub WritesAt : List Entry → ℕ → Write → Type 0
WritesAt history position write =
    option_and_then (λ entry. accepted_by entry.replica entry.moment entry.act) (slice_get history position) ≡ Some write

-- a read was answered there
abbrev pub IsRead : Act → Type 0
IsRead (act.Call client number request (reply.Value value sums)) = Unit {0}
IsRead other = ⊥

abbrev pub ReadsAt : List Entry → ℕ → Type 0
ReadsAt history position = IsSomeAnd (slice_get history position) (λ entry. IsRead entry.act)

-- the writes that the replica of the entry at a position had seen before it
abbrev pub seen_before : Setup → List Entry → ℕ → List Write
seen_before setup history position =
    option_map_or (λ entry. seen setup entry.replica (part_of (take position history) entry.replica)) (slice_get history position) []

-- read your writes: of two positions, a write at the first was seen where there is a read at the second
abbrev pub ReadsYourWrites : Setup → List Entry → ℕ → ℕ → Type 0
ReadsYourWrites setup history first second =
    (write : Write) → WritesAt history first write → ReadsAt history second → Contains (seen_before setup history second) write

-- monotonic reads: of two reads, the second saw all that the first saw
abbrev pub ReadsMonotonically : Setup → List Entry → ℕ → ℕ → Type 0
ReadsMonotonically setup history first second =
    (write : Write) → ReadsAt history first → ReadsAt history second → Contains (seen_before setup history first) write
    → Contains (seen_before setup history second) write

-- monotonic writes: of two writes, the second has the greater stamp
abbrev pub WritesMonotonically : List Entry → ℕ → ℕ → Type 0
WritesMonotonically history first second =
    (write later : Write) → WritesAt history first write → WritesAt history second later → write.stamp < later.stamp

-- writes follow reads: a write has a greater stamp than all that a read before it saw
abbrev pub WritesFollowReads : Setup → List Entry → ℕ → ℕ → Type 0
WritesFollowReads setup history first second =
    (write later : Write) → ReadsAt history first → Contains (seen_before setup history first) write → WritesAt history second later
    → write.stamp < later.stamp

-- all four, of every two positions of a trip
pub record IsGuarded (setup : Setup) (history : List Entry) (trip : List ℕ) : Type 0 where
  pub read_your_writes : AllPairs (ReadsYourWrites setup history) trip
  pub monotonic_reads : AllPairs (ReadsMonotonically setup history) trip
  pub monotonic_writes : AllPairs (WritesMonotonically history) trip
  pub writes_follow_reads : AllPairs (WritesFollowReads setup history) trip
