-- What the checker keeps while it goes through a record, and what becomes of an entry.
use Rattle.std.specs.Prelude.{◌≡◌, ◌≢◌, ℕ, ◌<◌, ◌≤◌, List, [], length, slice_index, slice_index_or}
use Rattle.tact_base.specs.declared.limits.TheConstants.{HISTORY_MAX}
use Rattle.tact_base.specs.Setup.{Setup, IsSetup}
use Rattle.run_model.specs.Histories.{part_of, last_moment, sent_in}
use Rattle.run_model.specs.Runs.{IsRun}
use Rattle.run_model.specs.declared.entry.Entry.{Entry}
use Rattle.run_model.specs.declared.entry.Message.{Message}
use Rattle.run_record.specs.declared.short.Short.{Short}
use Rattle.run_record.specs.declared.short.ShortAct.{ShortAct}
use Rattle.replica_set.specs.Sets.{SetState, StandsFor}
use Rattle.run_check.specs.Expanded.{with_short}
use Rattle.run_check.specs.Causes.{IsFirstCause}
use Rattle.run_check.specs.Verdicts.{IsLawfulShort}
use Rattle.run_check.specs.declared.refusal.At.{At}
use Rattle.run_check.specs.declared.refusal.Refusal.{Refusal}
use Rattle.run_check.specs.declared.refusal.Refusal.TheVariants.{Unlawful, NoMemory}

-- the replicas follow a run: they stand for it
pub record Follow (history : List Entry) (set : SetState) : Type 0 where
  pub good : IsSetup set.setup
  pub run : IsRun set.setup history
  pub stands : StandsFor history set

-- of each replica the messages that it sent, in order of their numbers
pub record AreSent (replicas : ℕ) (history : List Entry) (sent : List (List Message)) : Type 0 where
  pub sized : length sent ≡ replicas
  pub each : (replica : ℕ) → replica < replicas → slice_index_or sent replica [] ≡ sent_in (part_of history replica)

-- an entry at a place of a replica
abbrev pub short_at : At → ShortAct → Short
short_at at told = record { replica = at.replica; moment = at.moment; act = told }

-- a replica that has room for an entry at a moment
pub record IsInTime (history : List Entry) (at : At) : Type 0 where
  pub room : length (part_of history at.replica) < HISTORY_MAX
  pub moment : last_moment (part_of history at.replica) ≤ at.moment

-- an entry passed: it is lawful, and the replicas follow the run with it
pub record HasPassed (setup : Setup) (history : List Entry) (short : Short) (set : SetState) : Type 0 where
  pub lawful : IsLawfulShort setup history short
  pub follow : Follow (with_short setup history short) set
  pub setup_same : set.setup ≡ setup

-- an entry was refused: for the first test that it fails, or for want of memory
abbrev pub IsRefusalOf : Setup → List Entry → Short → Refusal → Type 0
IsRefusalOf setup history short (Unlawful cause) = IsFirstCause setup history short cause
IsRefusalOf setup history short NoMemory = Unit {0}

-- where two lists of numbers differ first
pub record IsApart (told due : List ℕ) (place one other : ℕ) : Type 0 where
  pub within : place < length told
  pub here : one ≡ slice_index told place
  pub there : other ≡ slice_index due place
  pub apart : one ≢ other
  pub before : (earlier : ℕ) → earlier < place → slice_index told earlier ≡ slice_index due earlier
