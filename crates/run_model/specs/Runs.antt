-- Which entry may follow: a part, and a history.
use Rattle.std.specs.Prelude.{◌≡◌, ℕ, ◌-◌, ◌<◌, ◌≤◌, List, All, Contains, length, drop, slice_index}
use Rattle.tact_base.specs.declared.limits.TheConstants.{HISTORY_MAX, STAMP_MAX}
use Rattle.tact_base.specs.declared.write.Write.{Write}
use Rattle.tact_base.specs.Setup.{Setup}
use Rattle.run_model.specs.Histories.{part_of, last_moment, sent_in, calls_in, EachAfter}
use Rattle.run_model.specs.Taking.{told_have, told_cover, told_first, told_writes, have, clock}
use Rattle.run_model.specs.Loans.{lent, home, free}
use Rattle.run_model.specs.Messages.{message_of}
use Rattle.run_model.specs.Order.{point}
use Rattle.run_model.specs.Ranges.{IsMessageInRange, IsEntryInRange}
use Rattle.run_model.specs.Replies.{reply_of}
use Rattle.run_model.specs.declared.entry.Act.{Act}
use Rattle.run_model.specs.declared.entry.Act.TheVariants as act
use Rattle.run_model.specs.declared.entry.Entry.{Entry}
use Rattle.run_model.specs.declared.entry.Message.{Message}

-- an act that is due after a part of a replica, at a moment
abbrev pub IsActDue : Setup → ℕ → List Entry → ℕ → Act → Type 0
IsActDue setup replica part moment (act.Call client number request reply) =
    (number ≡ calls_in part client) × (reply ≡ reply_of setup replica part moment request)
IsActDue setup replica part moment (act.Send message) = message ≡ message_of setup replica part moment message.to message.firsts
IsActDue setup replica part moment (act.Take message) = message.to ≡ replica
IsActDue setup replica part moment (act.Lend to conit amount) = amount ≤ home setup replica part conit
IsActDue setup replica part moment (act.Back owner conit amount) = amount ≤ free setup replica part owner conit
IsActDue setup replica part moment act.Restart = Unit {0}

-- an entry that is due after a part of its replica
pub record IsDue (setup : Setup) (part : List Entry) (entry : Entry) : Type 0 where
  pub room : length part < HISTORY_MAX
  pub moment : last_moment part ≤ entry.moment
  pub clock_below : clock part < STAMP_MAX
  pub in_range : IsEntryInRange setup entry
  pub act : IsActDue setup entry.replica part entry.moment entry.act

-- the writes of an origin that a take adds to a log
abbrev pub added : ℕ → List Entry → Message → ℕ → List Write
added replica part message origin = drop (have replica part origin - told_first message origin) (told_writes message origin)

-- a message that a part's replica can take
pub record Fits (setup : Setup) (replica : ℕ) (part : List Entry) (message : Message) : Type 0 where
  pub in_range : IsMessageInRange setup message
  pub addressed : message.to ≡ replica
  -- no more of the replica's own writes is told than there is
  pub own_have : told_have message replica ≤ have replica part replica
  -- no more is told to have been returned than was lent
  pub returned : (conit : ℕ) → conit < setup.conits → slice_index message.returned conit ≤ lent setup replica part message.from conit
  -- what is added stands above the point and at most at the stamp of the sender
  pub stamps : (origin : ℕ) → origin < setup.replicas → told_first message origin ≤ have replica part origin
      → All (λ (write : Write). (point setup replica part < write.stamp) × (write.stamp ≤ (told_cover message message.from).stamp)) (added replica part message origin)

-- a part that can be: each entry is due after those before it, and each taken message fits there
abbrev pub FitsIfTaken : Setup → ℕ → List Entry → Act → Type 0
FitsIfTaken setup replica part (act.Take message) = Fits setup replica part message
FitsIfTaken setup replica part other = Unit {0}

abbrev pub MayFollow : Setup → ℕ → List Entry → Entry → Type 0
MayFollow setup replica part entry = (entry.replica ≡ replica) × IsDue setup part entry × FitsIfTaken setup replica part entry.act

abbrev pub IsPart : Setup → ℕ → List Entry → Type 0
IsPart setup replica part = EachAfter (MayFollow setup replica) part

-- a taken message was sent, by the replica that it tells
abbrev pub WasSent : List Entry → Act → Type 0
WasSent history (act.Take message) = Contains (sent_in (part_of history message.from)) message
WasSent history other = Unit {0}

-- an entry that may follow a history
pub record IsLawful (setup : Setup) (history : List Entry) (entry : Entry) : Type 0 where
  pub due : IsDue setup (part_of history entry.replica) entry
  pub sent : WasSent history entry.act

-- a run: each entry may follow those before it, so a message is taken never, once or often, and in any order
abbrev pub IsRun : Setup → List Entry → Type 0
IsRun setup history = EachAfter (IsLawful setup) history
