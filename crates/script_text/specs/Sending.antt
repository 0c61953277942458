-- Which messages the lines of a script send.
use Rattle.std.specs.Prelude.{ℕ, ◌==◌, Bool, false, List, [], ◌∷◌, ◌++◌, fold, replicate, slice_get, slice_set, slice_index_or}
use Rattle.std.specs.Option.{option_map_or}
use Rattle.run_model.specs.declared.script_line.Line.{Line}
use Rattle.run_model.specs.declared.script_line.Line.TheVariants as line
use Rattle.script_text.specs.Setups.{setup_of}

-- the receivers of each replica's messages, in order of their numbers, after one more message
abbrev pub with_sent : List (List ℕ) → ℕ → ℕ → List (List ℕ)
with_sent sent from to = slice_set sent from (slice_index_or sent from [] ++ to ∷ [])

-- the same after one more line: a `sync` sends there and back
abbrev pub sent_after : List (List ℕ) → Line → List (List ℕ)
sent_after sent (line.Send from to firsts) = with_sent sent from to
sent_after sent (line.Sync first second) = with_sent (with_sent sent first second) second first
sent_after sent other = sent

-- the same after all lines of a script
abbrev pub sent_by : List Line → List (List ℕ)
sent_by lines = fold sent_after (replicate (setup_of lines).replicas []) lines

-- whether the message with this number of the one was sent to the other
abbrev pub is_sent : List (List ℕ) → ℕ → ℕ → ℕ → Bool
is_sent sent from number to = option_map_or (λ receiver. receiver == to) (slice_get (slice_index_or sent from []) number) false
