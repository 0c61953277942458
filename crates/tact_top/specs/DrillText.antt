-- The summary of a drill: the counts of what happened, and each replica's state at the end.
use Rattle.std.specs.Prelude.{ℕ, Bool, true, false, List, [], ◌∷◌, ◌++◌, codes, count_by, decimal, drop, length}
use Rattle.std.specs.List.{flat_map}
use Rattle.tact_base.specs.Setup.{Setup, replicas_of}
use Rattle.run_model.specs.Call.{is_waiting}
use Rattle.run_model.specs.ScriptRuns.{history_of, show_text}
use Rattle.run_model.specs.Text.{line_text}
use Rattle.run_model.specs.declared.call.Reply.TheVariants as reply
use Rattle.run_model.specs.declared.entry.Act.{Act}
use Rattle.run_model.specs.declared.entry.Act.TheVariants as act
use Rattle.run_model.specs.declared.entry.Entry.{Entry}
use Rattle.script_text.specs.Setups.{setup_of}
use Rattle.drawn_scripts.specs.DrawnScripts.{drawn_script}
use Rattle.tact_top.specs.declared.counting.Counts.{Counts}

-- kinds of acts
unfoldable pub is_done : Act → Bool
is_done (act.Call client number request (reply.Done index stamp)) = true
is_done other = false

unfoldable pub is_wait : Act → Bool
is_wait (act.Call client number request answer) = is_waiting answer
is_wait other = false

unfoldable pub is_heavy : Act → Bool
is_heavy (act.Call client number request (reply.TooHeavy conit peer weight share)) = true
is_heavy other = false

unfoldable pub is_value : Act → Bool
is_value (act.Call client number request (reply.Value value sums)) = true
is_value other = false

unfoldable pub is_send : Act → Bool
is_send (act.Send message) = true
is_send other = false

unfoldable pub is_take : Act → Bool
is_take (act.Take message) = true
is_take other = false

-- how many entries have an act of a kind
abbrev pub count_of : (Act → Bool) → List Entry → ℕ
count_of kind history = count_by (λ (entry : Entry). kind entry.act) history

-- all counts of a history
abbrev pub counts_of : List Entry → Counts
counts_of history = record {
  entries = length history;
  done = count_of is_done history;
  waits = count_of is_wait history;
  heavy = count_of is_heavy history;
  values = count_of is_value history;
  sends = count_of is_send history;
  takes = count_of is_take history;
}

-- the counts of replies, and of messages, each behind its name
abbrev pub reply_counts : Counts → List (List ℕ)
reply_counts counts =
    codes "done" ∷ decimal counts.done ∷ codes "waits" ∷ decimal counts.waits
    ∷ codes "heavy" ∷ decimal counts.heavy ∷ codes "values" ∷ decimal counts.values ∷ []

abbrev pub sent_counts : ℕ → ℕ → List (List ℕ)
sent_counts sends takes = codes "sends" ∷ decimal sends ∷ codes "takes" ∷ decimal takes ∷ []

abbrev pub message_counts : List Entry → List (List ℕ)
message_counts history = sent_counts (count_of is_send history) (count_of is_take history)

abbrev pub count_tokens : ℕ → Counts → List (List ℕ)
count_tokens number counts =
    decimal number ∷ codes "entries" ∷ decimal counts.entries ∷ reply_counts counts ++ sent_counts counts.sends counts.takes

-- their line, with its line feed
abbrev pub counts_text : ℕ → Counts → List ℕ
counts_text number counts = line_text (codes "drill" ∷ count_tokens number counts) ++ 10 ∷ []

-- the line of a replica: the comment that shows it, without its first two characters
abbrev pub shown_line : Setup → List Entry → ℕ → List ℕ
shown_line setup history replica = drop 2 (show_text setup history replica)

-- the summary of what happened under a setup
abbrev pub summary_text : ℕ → Setup → List Entry → List ℕ
summary_text number setup history = counts_text number (counts_of history) ++ flat_map (shown_line setup history) (replicas_of setup)

-- the summary of the script that a number draws
abbrev pub drill_text : ℕ → List ℕ
drill_text number =
    let lines = drawn_script number in
    let setup = setup_of lines in
    summary_text number setup (history_of setup lines)
