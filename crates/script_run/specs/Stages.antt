-- What a script plays on: what it keeps of what was played, and what a step of it leaves.
use Rattle.std.specs.Prelude.{◌≡◌, ℕ, ◌<◌, ◌≤◌, true, List, ◌∷◌, [], ◌++◌, length, map, slice_index_or, Option, Some, None}
use Rattle.tact_base.specs.Setup.{Setup}
use Rattle.tact_base.specs.declared.conit_list.Need.{Need}
use Rattle.tact_base.specs.declared.limits.TheConstants.{CLIENTS, MOMENT_MAX}
use Rattle.run_model.specs.Histories.{part_of, sent_in, calls_in, moment_at}
use Rattle.run_model.specs.Messages.{message_of}
use Rattle.run_model.specs.Ranges.{IsRequestInRange}
use Rattle.run_model.specs.Replies.{reply_of}
use Rattle.run_model.specs.Runs.{IsRun}
use Rattle.run_model.specs.ScriptRuns.{Played, zeros, after_line, entries_text, text_after}
use Rattle.run_model.specs.declared.call.Reply.{Reply}
use Rattle.run_model.specs.declared.call.Reply.TheVariants as reply
use Rattle.run_model.specs.declared.call.Request.{Request}
use Rattle.run_model.specs.declared.call.Request.TheVariants as request
use Rattle.run_model.specs.declared.entry.Act.{Act}
use Rattle.run_model.specs.declared.entry.Act.TheVariants as act
use Rattle.run_model.specs.declared.entry.Entry.{Entry}
use Rattle.run_model.specs.declared.entry.Message.{Message}
use Rattle.run_model.specs.declared.script_line.Line.{Line}
use Rattle.run_model.specs.declared.script_line.Line.TheVariants as line
use Rattle.reference_book.specs.Books.{IsBookOf}
use Rattle.replica_set.specs.Sets.{SetState, StandsFor, GoesOn}
use Rattle.script_text.specs.Fronts.{HasItsMessage}
use Rattle.script_text.specs.LineRanges.{IsLineInRange}
use Rattle.script_run.specs.declared.stage.Stage.{Stage}

-- what a script comes to: a setup, and the history that it tells under it
pub record Ended : Type 0 where
  pub setup : Setup
  pub history : List Entry

-- the setup, and what was played so far
abbrev pub setup_in : Stage → Setup
setup_in stage = stage.set.setup

abbrev pub played_in : Stage → Played
played_in stage = record { history = stage.history.items; handed = stage.handed }

-- what entries do
abbrev pub acts_of : List Entry → List Act
acts_of entries = map (λ (entry : Entry). entry.act) entries

-- what a client asks of a replica
pub record Asked : Type 0 where
  pub replica : ℕ
  pub client : ℕ
  pub request : Request

-- what a line has a client ask, if it does
abbrev pub asked_by : Line → Option Asked
asked_by (line.Write replica client op weights) = Some (record { replica = replica; client = client; request = request.Write weights op })
asked_by (line.Held replica client op weight) = Some (record { replica = replica; client = client; request = request.Held weight op })
asked_by (line.Reserve replica client conit amount) = Some (record { replica = replica; client = client; request = request.Reserve conit amount })
asked_by (line.Release replica client conit amount) = Some (record { replica = replica; client = client; request = request.Release conit amount })
asked_by (line.Read replica client key needs) = Some (record { replica = replica; client = client; request = request.Read key needs })
asked_by other = None

-- an act that calls, with a request in range
pub record IsAsking (setup : Setup) (doing : Act) : Type 0 where
  pub client : ℕ
  pub number : ℕ
  pub request : Request
  pub reply : Reply
  pub calls : doing ≡ act.Call client number request reply
  pub known : client < CLIENTS
  pub in_range : IsRequestInRange setup request

-- The replica of an entry answers a call of a client, the one of this number: the entry has then the call, with the reply
-- that is due.
pub record IsAnsweredBy (old new : SetState) (asked answered : Entry) (handed client number : ℕ) (request : Request) : Type 0 where
  pub reply : Reply
  pub entry : answered ≡ record asked { act = act.Call client number request reply }
  pub goes_on : GoesOn old new asked.replica handed (λ part. act.Call client (calls_in part client) request reply)
  pub due : (history : List Entry)
      → StandsFor history old
      → let part = part_of history asked.replica in
      reply ≡ reply_of old.setup asked.replica part (moment_at part handed) request

-- One replica sends to another, where these firsts are given: the entry of this moment has then the message that is due.
pub record IsSentBy (old new : SetState) (from moment handed to : ℕ) (firsts : List ℕ) (sending : Entry) : Type 0 where
  pub message : Message
  pub entry : sending ≡ record { replica = from; moment = moment; act = act.Send message }
  pub goes_on : GoesOn old new from handed (λ part. act.Send message)
  pub due : (history : List Entry)
      → StandsFor history old
      → let part = part_of history from in
      message ≡ message_of old.setup from part (moment_at part handed) to firsts

-- the takings of all messages that each replica sent
abbrev pub AreSent : Setup → List Entry → List (List Entry) → Type 0
AreSent setup history sent = (from : ℕ) → from < setup.replicas → acts_of (slice_index_or sent from []) ≡ map act.Take (sent_in (part_of history from))

-- What a stage keeps: the replicas stand for what was played, which is a run; all messages that were sent; and the book
-- of all writes, where it prints.
pub record Keeps (stage : Stage) : Type 0 where
  pub stands : StandsFor stage.history.items stage.set
  pub run : IsRun (setup_in stage) stage.history.items
  pub handed : stage.handed ≤ MOMENT_MAX
  pub sized : length stage.sent.items ≡ (setup_in stage).replicas
  pub sent : AreSent (setup_in stage) stage.history.items stage.sent.items
  pub zeros : stage.zeros ≡ zeros (setup_in stage)
  pub book : stage.prints ≡ true → IsBookOf (setup_in stage) stage.history.items stage.book

-- An entry was made that isn't entered yet: with it the replicas stand for a run, and the book is that of it.
pub record IsMade (stage : Stage) (entry : Entry) : Type 0 where
  pub replica : entry.replica < (setup_in stage).replicas
  pub stands : StandsFor (stage.history.items ++ entry ∷ []) stage.set
  pub run : IsRun (setup_in stage) (stage.history.items ++ entry ∷ [])
  pub book : stage.prints ≡ true → IsBookOf (setup_in stage) (stage.history.items ++ entry ∷ []) stage.book

-- It is entered, and where the stage prints, the text gained its line and the comments on it.
pub record Entered (old new : Stage) (entry : Entry) (out out' : List ℕ) : Type 0 where
  pub stage : new ≡ record old { history = new.history }
  pub history : new.history.items ≡ old.history.items ++ entry ∷ []
  pub text : old.prints ≡ true → out' ≡ out ++ entries_text (setup_in old) old.history.items (entry ∷ [])

-- It goes on to something played, under its setup, and prints as before.
pub record GoesOnTo (old new : Stage) (end : Played) : Type 0 where
  pub keeps : Keeps new
  pub setup : setup_in new ≡ setup_in old
  pub played : played_in new ≡ end
  pub prints : new.prints ≡ old.prints

-- It does so by entries, and where it prints, the text gained their lines and the comments on them.
pub record Enters (old new : Stage) (end : Played) (out out' : List ℕ) : Type 0 where
  pub goes : GoesOnTo old new end
  pub made : List Entry
  pub history : end.history ≡ old.history.items ++ made
  pub text : old.prints ≡ true → out' ≡ out ++ entries_text (setup_in old) old.history.items made

-- the needs of a read that was answered with a value
abbrev pub needs_met : Request → Reply → List Need
needs_met (request.Read key needs) (reply.Value value sums) = needs
needs_met _ _ = []

abbrev pub needs_in : Act → List Need
needs_in (act.Call client number request reply) = needs_met request reply
needs_in other = []

-- a line that can be done: the first of a script, or one in range whose message, if it takes one, was sent
abbrev pub IsReadyFor : Setup → List Entry → Line → Type 0
IsReadyFor setup history (line.Start replicas conits alpha loan) = Unit {0}
IsReadyFor setup history other = IsLineInRange setup other × HasItsMessage setup history other

-- It does what a line says, and where it prints, the text gained what the line prints.
pub record Steps (old new : Stage) (line : Line) (out out' : List ℕ) : Type 0 where
  pub goes : GoesOnTo old new (after_line (setup_in old) (played_in old) line)
  pub text : old.prints ≡ true → out' ≡ out ++ text_after (setup_in old) (played_in old) line
