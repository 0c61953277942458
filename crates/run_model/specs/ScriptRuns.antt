-- What a script means: the history that its lines make, one after another, and the text of it.
use Rattle.std.specs.Prelude.{ℕ, nat_le, List, [], ◌∷◌, ◌++◌, length, drop, map, fold, codes, decimal, slice_get, Option, None, Some, if◌then◌else◌}
use Rattle.std.specs.List.{flat_map, join_with_byte, last_or}
use Rattle.std.specs.Fmt.{signed_decimal}
use Rattle.tact_base.specs.declared.conit_list.Need.{Need}
use Rattle.tact_base.specs.declared.write.Write.{Write}
use Rattle.tact_base.specs.Setup.{Setup, replicas_of}
use Rattle.run_model.specs.Histories.{part_of, moment_at, sent_in, calls_in}
use Rattle.run_model.specs.Taking.{have, clock}
use Rattle.run_model.specs.Loans.{home, free}
use Rattle.run_model.specs.Messages.{message_of}
use Rattle.run_model.specs.Order.{point, committed, tentative}
use Rattle.run_model.specs.Reference.{reference, num_error, order_error, age}
use Rattle.run_model.specs.Replies.{reply_of}
use Rattle.run_model.specs.Text.{line_text, entry_text, header_text, end_text}
use Rattle.run_model.specs.declared.call.Request.{Request}
use Rattle.run_model.specs.declared.call.Request.TheVariants as request
use Rattle.run_model.specs.declared.call.Reply.TheVariants as reply
use Rattle.run_model.specs.declared.entry.Act.{Act}
use Rattle.run_model.specs.declared.entry.Act.TheVariants as act
use Rattle.run_model.specs.declared.entry.Entry.{Entry}
use Rattle.run_model.specs.declared.entry.Message.{Message}
use Rattle.run_model.specs.declared.script_line.Line.{Line}
use Rattle.run_model.specs.declared.script_line.Line.TheVariants as line

-- what the lines of a script have made so far: a history, and the moment that the next ones are handed
pub record Played : Type 0 where
  pub history : List Entry
  pub handed : ℕ

abbrev pub not_played : Played
not_played = record { history = []; handed = 0 }

-- with one more entry of a replica, at the moment that is due there
abbrev pub enters : Played → ℕ → (List Entry → ℕ → Act) → Played
enters played replica act =
    let part = part_of played.history replica in
    let moment = moment_at part played.handed in
    record played { history = played.history ++ record { replica = replica; moment = moment; act = act part moment } ∷ [] }

-- a call of a client, with the reply that is due
abbrev pub calls : Setup → Played → ℕ → ℕ → Request → Played
calls setup played replica client request =
    enters played replica (λ part moment. act.Call client (calls_in part client) request (reply_of setup replica part moment request))

-- a sending, with the message that is due where these firsts are given
abbrev pub sends : Setup → Played → ℕ → ℕ → List ℕ → Played
sends setup played from to given = enters played from (λ part moment. act.Send (message_of setup from part moment to given))

-- a taking of the message that another sent under a number
abbrev pub takes_one : Played → ℕ → Option Message → Played
takes_one played replica (Some message) = enters played replica (λ part moment. act.Take message)
takes_one played replica None = played

abbrev pub takes : Played → ℕ → ℕ → ℕ → Played
takes played replica from number = takes_one played replica (slice_get (sent_in (part_of played.history from)) number)

-- no firsts: a zero for each replica
abbrev pub zeros : Setup → List ℕ
zeros setup = map (λ origin. 0) (replicas_of setup)

-- one sends to another, which takes the message: the last that it sent
abbrev pub passes : Setup → Played → ℕ → ℕ → Played
passes setup played from to =
    takes (sends setup played from to (zeros setup)) to from (length (sent_in (part_of played.history from)))

-- what a line makes; a loan or a return over its limit makes no entry
abbrev pub after_line : Setup → Played → Line → Played
after_line setup played (line.At moment) = record played { handed = moment }
after_line setup played (line.Write replica client op weights) = calls setup played replica client (request.Write weights op)
after_line setup played (line.Held replica client op weight) = calls setup played replica client (request.Held weight op)
after_line setup played (line.Reserve replica client conit amount) = calls setup played replica client (request.Reserve conit amount)
after_line setup played (line.Release replica client conit amount) = calls setup played replica client (request.Release conit amount)
after_line setup played (line.Read replica client key needs) = calls setup played replica client (request.Read key needs)
after_line setup played (line.Send from to firsts) = sends setup played from to firsts
after_line setup played (line.Take replica from number) = takes played replica from number
after_line setup played (line.Sync first second) = passes setup (passes setup played first second) second first
after_line setup played (line.Lend owner holder conit amount) =
    if nat_le amount (home setup owner (part_of played.history owner) conit)
    then enters played owner (λ part moment. act.Lend holder conit amount) else played
after_line setup played (line.Back holder owner conit amount) =
    if nat_le amount (free setup holder (part_of played.history holder) owner conit)
    then enters played holder (λ part moment. act.Back owner conit amount) else played
after_line setup played (line.Restart replica) = enters played replica (λ part moment. act.Restart)
after_line setup played other = played

-- what lines make, one after another
abbrev pub played_by : Setup → List Line → Played
played_by setup lines = fold (after_line setup) not_played lines

-- the history of a script
abbrev pub history_of : Setup → List Line → List Entry
history_of setup lines = (played_by setup lines).history

-- a comment: a sign, and tokens
abbrev pub comment : List (List ℕ) → List ℕ
comment tokens = line_text (codes "#" ∷ tokens) ++ 10 ∷ []

-- the place of a write, as `ORIGIN.INDEX`
abbrev pub place_token : Option Write → List ℕ
place_token (Some write) = join_with_byte 46 (decimal write.origin ∷ decimal write.index ∷ [])
place_token None = codes "none"

-- the state of a replica
abbrev pub show_text : Setup → List Entry → ℕ → List ℕ
show_text setup history replica =
    let part = part_of history replica in
    comment (codes "show" ∷ decimal replica ∷ codes "have" ∷ map (λ origin. decimal (have replica part origin)) (replicas_of setup)
    ++ codes "clock" ∷ decimal (clock part) ∷ codes "point" ∷ decimal (point setup replica part)
    ∷ codes "committed" ∷ decimal (length (committed setup replica part)) ∷ codes "last" ∷ place_token (last_or None (committed setup replica part))
    ∷ codes "tentative" ∷ decimal (length (tentative setup replica part)) ∷ [])

-- an error and its bound
abbrev pub bounded_token : ℕ → ℕ → List ℕ
bounded_token error bound = join_with_byte 47 (decimal error ∷ decimal bound ∷ [])

-- how well a need of an answered read was met, by the history that ends with the answer
abbrev pub need_text : Setup → List Entry → ℕ → ℕ → Need → List ℕ
need_text setup history replica moment need =
    comment (codes "need" ∷ decimal need.conit ∷ codes "num" ∷ bounded_token (num_error setup history replica need.conit) need.num
    ∷ codes "order" ∷ bounded_token (order_error setup history replica need.conit) need.order
    ∷ codes "stale" ∷ bounded_token (age setup history replica moment) need.stale ∷ [])

-- the comments on an act: one for each need of a read that was answered with a value
abbrev pub act_comments : Setup → List Entry → ℕ → ℕ → Act → List ℕ
act_comments setup history replica moment (act.Call client number (request.Read key needs) (reply.Value value sums)) =
    flat_map (need_text setup history replica moment) needs
act_comments setup history replica moment other = []

-- the lines of the entries that a history has past another, each with its comments
abbrev pub entries_text : Setup → List Entry → List Entry → List ℕ
entries_text setup before [] = []
entries_text setup before (entry ∷ rest) =
    entry_text entry ++ 10 ∷ act_comments setup (before ++ entry ∷ []) entry.replica entry.moment entry.act
    ++ entries_text setup (before ++ entry ∷ []) rest

-- the comment of a line that makes no entry
abbrev pub line_comment : Setup → List Entry → Line → List ℕ
line_comment setup history (line.Show replica) = show_text setup history replica
line_comment setup history (line.Ref conit) = comment (codes "ref" ∷ decimal conit ∷ signed_decimal (reference setup history conit) ∷ [])
line_comment setup history (line.Lend owner holder conit amount) =
    let limit = home setup owner (part_of history owner) conit in
    if nat_le amount limit then []
    else comment (codes "lend" ∷ map decimal (owner ∷ holder ∷ conit ∷ amount ∷ []) ++ codes "home" ∷ decimal limit ∷ [])
line_comment setup history (line.Back holder owner conit amount) =
    let limit = free setup holder (part_of history holder) owner conit in
    if nat_le amount limit then []
    else comment (codes "back" ∷ map decimal (holder ∷ owner ∷ conit ∷ amount ∷ []) ++ codes "free" ∷ decimal limit ∷ [])
line_comment setup history other = []

-- what a line prints: its comment, judged before it, and the entries that it makes
abbrev pub text_after : Setup → Played → Line → List ℕ
text_after setup played line =
    line_comment setup played.history line
    ++ entries_text setup played.history (drop (length played.history) (after_line setup played line).history)

-- what lines print, one after another
abbrev pub lines_text : Setup → Played → List Line → List ℕ
lines_text setup played [] = []
lines_text setup played (line ∷ lines) = text_after setup played line ++ lines_text setup (after_line setup played line) lines

-- the text of a script
abbrev pub play_text : Setup → List Line → List ℕ
play_text setup lines = header_text setup ++ lines_text setup not_played lines ++ end_text (length (history_of setup lines))
