-- What may be relied on before each line of a script: what the lines before it have made is ready for it.
use Rattle.std.specs.Prelude.{◌≡◌, ℕ, ◌+◌, ◌≤◌, List, Contains, length, slice_get, Some}
use Rattle.tact_base.specs.declared.limits.TheConstants.{HISTORY_MAX, STAMP_MAX, MOMENT_MAX}
use Rattle.tact_base.specs.Setup.{Setup}
use Rattle.run_model.specs.Histories.{part_of, last_moment, sent_in}
use Rattle.run_model.specs.Ranges.{IsMessageInRange}
use Rattle.run_model.specs.Runs.{IsRun}
use Rattle.run_model.specs.ScriptRuns.{Played}
use Rattle.run_model.specs.Taking.{clock}
use Rattle.run_model.specs.declared.entry.Entry.{Entry}
use Rattle.run_model.specs.declared.entry.Message.{Message}
use Rattle.run_model.specs.declared.script_line.Line.{Line}
use Rattle.run_model.specs.declared.script_line.Line.TheVariants as line
use Rattle.script_text.specs.LineRanges.{IsLineInRange}

-- the message that one sent under a number, for another
pub record IsNamed (setup : Setup) (history : List Entry) (replica from number : ℕ) (message : Message) : Type 0 where
  pub found : slice_get (sent_in (part_of history from)) number ≡ Some message
  pub receiver : message.to ≡ replica
  pub sender : message.from ≡ from
  pub in_range : IsMessageInRange setup message
  pub was_sent : Contains (sent_in (part_of history message.from)) message

-- the message that a `take` names was sent
abbrev pub HasItsMessage : Setup → List Entry → Line → Type 0
HasItsMessage setup history (line.Take replica from number) = (message : Message) × IsNamed setup history replica from number message
HasItsMessage setup history other = Unit {0}

-- What lines have made is a run, with moments within the limit and room for two more entries of each replica, and the
-- next line can be played.
pub record IsReady (setup : Setup) (played : Played) (next : Line) : Type 0 where
  pub run : IsRun setup played.history
  pub handed : played.handed ≤ MOMENT_MAX
  pub moments : (replica : ℕ) → last_moment (part_of played.history replica) ≤ MOMENT_MAX
  pub room : (replica : ℕ) → length (part_of played.history replica) + 2 ≤ HISTORY_MAX
  pub clocks : (replica : ℕ) → clock (part_of played.history replica) + 4 ≤ STAMP_MAX
  pub in_range : IsLineInRange setup next
  pub message : HasItsMessage setup played.history next
