-- How entries, requests, replies and setups are written as text: tokens with single spaces between them, numbers in
-- decimal without leading zeros.
use Rattle.std.specs.Prelude.{◌≡◌, ℕ, List, [], ◌∷◌, ◌++◌, length, map, take, codes, decimal}
use Rattle.std.specs.List.{join_with_byte, flat_map}
use Rattle.std.specs.Fmt.{signed_decimal}
use Rattle.tact_base.specs.declared.conit_list.Weight.{Weight}
use Rattle.tact_base.specs.declared.conit_list.Need.{Need}
use Rattle.tact_base.specs.declared.write.Op.{Op}
use Rattle.tact_base.specs.declared.write.Op.TheVariants.{Put, Add, Shift}
use Rattle.run_model.specs.declared.call.Request.{Request}
use Rattle.run_model.specs.declared.call.Request.TheVariants.{Write, Held, Reserve, Release, Read}
use Rattle.run_model.specs.declared.call.Reply.{Reply}
use Rattle.run_model.specs.declared.call.Reply.TheVariants.{Done, Granted, Released, Value, TooHeavy, WaitHeld, WaitShare, WaitLent, WaitOrder, WaitStale, NotHeld}
use Rattle.run_model.specs.declared.entry.Act.{Act}
use Rattle.run_model.specs.declared.entry.Act.TheVariants.{Call, Send, Take, Lend, Back, Restart}
use Rattle.run_model.specs.declared.entry.Entry.{Entry}
use Rattle.tact_base.specs.Setup.{Setup, owners_and_conits, alpha_of, loans_of}

-- the tokens, with a space between each two
abbrev pub line_text : List (List ℕ) → List ℕ
line_text tokens = join_with_byte 32 tokens

-- the tokens, with a space before each
abbrev pub spaced : List (List ℕ) → List ℕ
spaced tokens = flat_map (λ token. 32 ∷ token) tokens

-- a text begins with another
abbrev pub BeginsWith : List ℕ → List ℕ → Type 0
BeginsWith front text = take (length front) text ≡ front

-- a weight: `CONIT:NWEIGHT:OWEIGHT`
abbrev pub weight_token : Weight → List ℕ
weight_token w = join_with_byte 58 (decimal w.conit ∷ signed_decimal w.nweight ∷ decimal w.oweight ∷ [])

-- a need: `CONIT:NUM:ORDER:STALE`
abbrev pub need_token : Need → List ℕ
need_token n = join_with_byte 58 (decimal n.conit ∷ decimal n.num ∷ decimal n.order ∷ decimal n.stale ∷ [])

-- an operation
abbrev pub op_tokens : Op → List (List ℕ)
op_tokens (Put key value) = codes "put" ∷ decimal key ∷ signed_decimal value ∷ []
op_tokens (Add key delta) = codes "add" ∷ decimal key ∷ signed_decimal delta ∷ []
op_tokens (Shift from to amount) = codes "shift" ∷ decimal from ∷ decimal to ∷ decimal amount ∷ []

-- a request
abbrev pub request_tokens : Request → List (List ℕ)
request_tokens (Write weights op) = codes "write" ∷ op_tokens op ++ map weight_token weights
request_tokens (Held weight op) = codes "held" ∷ op_tokens op ++ weight_token weight ∷ []
request_tokens (Reserve conit amount) = codes "reserve" ∷ decimal conit ∷ decimal amount ∷ []
request_tokens (Release conit amount) = codes "release" ∷ decimal conit ∷ decimal amount ∷ []
request_tokens (Read key needs) = codes "read" ∷ decimal key ∷ map need_token needs

-- a reply: its name, then its fields
abbrev pub reply_tokens : Reply → List (List ℕ)
reply_tokens (Done index stamp) = codes "done" ∷ map decimal (index ∷ stamp ∷ [])
reply_tokens Granted = codes "granted" ∷ []
reply_tokens Released = codes "released" ∷ []
reply_tokens (Value value sums) = codes "value" ∷ map signed_decimal (value ∷ sums)
reply_tokens (TooHeavy conit peer weight share) = codes "too-heavy" ∷ map decimal (conit ∷ peer ∷ weight ∷ share ∷ [])
reply_tokens (WaitHeld conit peer reserved weight share) = codes "wait-held" ∷ map decimal (conit ∷ peer ∷ reserved ∷ weight ∷ share ∷ [])
reply_tokens (WaitShare conit peer missing reserved weight share) =
    codes "wait-share" ∷ map decimal (conit ∷ peer ∷ missing ∷ reserved ∷ weight ∷ share ∷ [])
reply_tokens (WaitLent conit holder out total num) = codes "wait-lent" ∷ map decimal (conit ∷ holder ∷ out ∷ total ∷ num ∷ [])
reply_tokens (WaitOrder conit replica tentative order) = codes "wait-order" ∷ map decimal (conit ∷ replica ∷ tentative ∷ order ∷ [])
reply_tokens (WaitStale conit replica moment wanted) = codes "wait-stale" ∷ map decimal (conit ∷ replica ∷ moment ∷ wanted ∷ [])
reply_tokens (NotHeld conit held amount) = codes "not-held" ∷ map decimal (conit ∷ held ∷ amount ∷ [])

-- an act
abbrev pub act_tokens : Act → List (List ℕ)
act_tokens (Call client number request reply) =
    codes "call" ∷ decimal client ∷ decimal number ∷ request_tokens request ++ codes "=" ∷ reply_tokens reply
act_tokens (Send message) = codes "send" ∷ map decimal (message.to ∷ message.number ∷ message.firsts)
act_tokens (Take message) = codes "take" ∷ map decimal (message.from ∷ message.number ∷ [])
act_tokens (Lend to conit amount) = codes "lend" ∷ map decimal (to ∷ conit ∷ amount ∷ [])
act_tokens (Back owner conit amount) = codes "back" ∷ map decimal (owner ∷ conit ∷ amount ∷ [])
act_tokens Restart = codes "restart" ∷ []

-- an entry: `e REPLICA MOMENT` and its act
abbrev pub entry_text : Entry → List ℕ
entry_text entry = line_text (codes "e" ∷ decimal entry.replica ∷ decimal entry.moment ∷ act_tokens entry.act)

-- the line of an owner and a conit: `bound OWNER CONIT ALPHA` and the loans by holder
abbrev pub bound_line : Setup → ℕ × ℕ → List ℕ
bound_line setup (owner, conit) =
    line_text (codes "bound" ∷ map decimal (owner ∷ conit ∷ alpha_of setup owner conit ∷ loans_of setup owner conit)) ++ 10 ∷ []

-- the lines that a record begins with: `tact 1 REPLICAS CONITS`, then one for each owner and conit, each with its line
-- feed
abbrev pub header_text : Setup → List ℕ
header_text setup =
    line_text (codes "tact" ∷ map decimal (1 ∷ setup.replicas ∷ setup.conits ∷ [])) ++ 10 ∷ []
    ++ flat_map (bound_line setup) (owners_and_conits setup)

-- the line that a record ends with, with its line feed: `end` and the count of its entries
abbrev pub end_text : ℕ → List ℕ
end_text count = line_text (codes "end" ∷ decimal count ∷ []) ++ 10 ∷ []
