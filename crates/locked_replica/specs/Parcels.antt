-- What contracts see of parcels, and the message that one is made with.
use Rattle.std.specs.Prelude.{◌≢◌, ℕ, ◌<◌, ◌⊎◌, List, [], Contains}
use Rattle.atomic_table.specs.Seated.{TableId}
use Rattle.tact_base.specs.Setup.{Setup}
use Rattle.run_model.specs.Histories.{moment_at, part_of, sent_in}
use Rattle.run_model.specs.Messages.{message_of}
use Rattle.run_model.specs.ScriptRuns.{zeros}
use Rattle.run_model.specs.Taking.{have, told_have}
use Rattle.run_model.specs.declared.entry.Entry.{Entry}
use Rattle.run_model.specs.declared.entry.Message.{Message}

-- the message that a parcel carries, the table of its desk, and what its note has seen of the history
pub record ParcelView : Type 0 where
  pub message : Message
  pub desk : TableId
  pub seen : List Entry

-- a history has the sending of a message, by the replica that the message tells
abbrev pub HasSending : List Entry → Message → Type 0
HasSending history message = Contains (sent_in (part_of history message.from)) message

-- the message that a replica sends to another after a part of its own, at the moment that follows a handed one, where
-- no firsts are given
abbrev pub message_to : Setup → ℕ → List Entry → ℕ → ℕ → Message
message_to setup replica part moment to = message_of setup replica part (moment_at part moment) to (zeros setup)

-- A message is to be answered by a replica that did a part: it has writes, or of some origin the replica has more
-- writes than it tells of.
abbrev pub IsAnswerDue : Setup → ℕ → List Entry → Message → Type 0
IsAnswerDue setup replica part message =
    (message.writes ≢ []) ⊎ ((origin : ℕ) × (origin < setup.replicas) × (told_have message origin < have replica part origin))
