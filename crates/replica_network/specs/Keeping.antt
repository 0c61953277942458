-- What is kept of the replicas of a setup and of all that they did.
use Rattle.std.specs.Prelude.{◌≡◌, ℕ, List, map, slice_get, Option, Some}
use Rattle.std.specs.Option.{option_and_then}
use Rattle.tact_base.specs.Setup.{IsSetup}
use Rattle.run_model.specs.Histories.{sent_by_act, sent_in}
use Rattle.run_model.specs.Runs.{IsRun}
use Rattle.run_model.specs.ScriptRuns.{zeros}
use Rattle.run_model.specs.declared.entry.Entry.{Entry}
use Rattle.run_model.specs.declared.entry.Message.{Message}
use Rattle.replica_set.specs.Sets.{SetState, StandsFor}

-- the message that the entry at a place sends
abbrev pub message_at : List Entry → ℕ → Option Message
message_at entries place = option_and_then (λ entry. sent_by_act entry.act) (slice_get entries place)

-- The replicas stand for the entries, which are a run; at the places the messages were sent, by number; and the firsts
-- are zeros.
pub record Keeps (set : SetState) (entries : List Entry) (places firsts : List ℕ) : Type 0 where
  pub good : IsSetup set.setup
  pub stands : StandsFor entries set
  pub run : IsRun set.setup entries
  pub sends : map (message_at entries) places ≡ map Some (sent_in entries)
  pub zeros : firsts ≡ zeros set.setup
