-- Records as text: the lines of the setup, one for each entry, and the last one with their count.
use Rattle.std.specs.Prelude.{ℕ, Bool, true, false, List, [], ◌∷◌, ◌++◌, codes, decimal, length, map}
use Rattle.std.specs.List.{flat_map}
use Rattle.run_model.specs.Text.{line_text, header_text, end_text, request_tokens, reply_tokens}
use Rattle.run_record.specs.declared.short.Short.{Short}
use Rattle.run_record.specs.declared.short.ShortAct.{ShortAct}
use Rattle.run_record.specs.declared.short.ShortAct.TheVariants.{Call, Send, Take, Lend, Back, Restart}
use Rattle.run_record.specs.Records.{Held}

-- an act
abbrev pub short_act_tokens : ShortAct → List (List ℕ)
short_act_tokens (Call client number request reply) =
    codes "call" ∷ decimal client ∷ decimal number ∷ request_tokens request ++ codes "=" ∷ reply_tokens reply
short_act_tokens (Send to number firsts) = codes "send" ∷ map decimal (to ∷ number ∷ firsts)
short_act_tokens (Take from number) = codes "take" ∷ map decimal (from ∷ number ∷ [])
short_act_tokens (Lend to conit amount) = codes "lend" ∷ map decimal (to ∷ conit ∷ amount ∷ [])
short_act_tokens (Back owner conit amount) = codes "back" ∷ map decimal (owner ∷ conit ∷ amount ∷ [])
short_act_tokens Restart = codes "restart" ∷ []

-- an act is a call
abbrev pub is_call : ShortAct → Bool
is_call (Call client number request reply) = true
is_call _ = false

-- the line of an entry, `e REPLICA MOMENT` and its act, with its line feed
abbrev pub short_line : Short → List ℕ
short_line short = line_text (codes "e" ∷ decimal short.replica ∷ decimal short.moment ∷ short_act_tokens short.act) ++ 10 ∷ []

-- a record
abbrev pub record_text : Held → List ℕ
record_text held = header_text held.setup ++ flat_map short_line held.entries ++ end_text (length held.entries)
