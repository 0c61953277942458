-- What the line of an entry says, token by token, where there are so many replicas and conits.
use Rattle.std.specs.Prelude.{ℕ, codes, Option, Some, None, Result, Ok, Err}
use Rattle.tact_base.specs.declared.limits.TheConstants.{AMOUNT_MAX, HISTORY_MAX, MOMENT_MAX}
use Rattle.run_model.specs.declared.status.LineKind.{LineKind}
use Rattle.run_model.specs.declared.status.LineKind.TheVariants.{UnknownWord, Extra}
use Rattle.run_record.specs.declared.entry_words.ActWord.{ActWord}
use Rattle.run_record.specs.declared.entry_words.ActWord.TheVariants as word
use Rattle.run_record.specs.declared.short.Short.{Short}
use Rattle.run_record.specs.declared.short.ShortAct.{ShortAct}
use Rattle.run_record.specs.declared.short.ShortAct.TheVariants.{Call, Send, Take, Lend, Back, Restart}
use Rattle.run_record.specs.EntryWords.{act_word}
use Rattle.run_record.specs.CallTokens.{any_number_at, conit_at, request_at, reply_at, word_due}
use Rattle.run_record.specs.Fields.{◌>>=◌, Tokens, Field, token_at, number_at, replica_at, other_replica_at, client_at, end_at}
use Rattle.run_record.specs.Lists.{numbers_at}

-- `call CLIENT NUMBER REQUEST = REPLY`, behind its word
unfoldable pub call_at : ℕ → Tokens → Field ShortAct
call_at conits tokens = do
  client ← client_at tokens
  number ← any_number_at client.1
  request ← request_at conits number.1
  equals ← word_due (codes "=") UnknownWord request.1
  reply ← reply_at equals
  Ok (Call client.0 number.0 request.0 reply.0, reply.1)

-- `send TO NUMBER FIRST..`, a first for each replica
unfoldable pub send_at : ℕ → ℕ → Tokens → Field ShortAct
send_at replicas replica tokens = do
  to ← other_replica_at replicas replica tokens
  number ← any_number_at to.1
  firsts ← numbers_at HISTORY_MAX replicas number.1
  Ok (Send to.0 number.0 firsts.0, firsts.1)

-- `take FROM NUMBER`
unfoldable pub take_at : ℕ → ℕ → Tokens → Field ShortAct
take_at replicas replica tokens = do
  from ← other_replica_at replicas replica tokens
  number ← any_number_at from.1
  Ok (Take from.0 number.0, number.1)

-- `lend HOLDER CONIT AMOUNT`
unfoldable pub lend_at : ℕ → ℕ → ℕ → Tokens → Field ShortAct
lend_at replicas conits replica tokens = do
  to ← other_replica_at replicas replica tokens
  conit ← conit_at conits to.1
  amount ← number_at AMOUNT_MAX conit.1
  Ok (Lend to.0 conit.0 amount.0, amount.1)

-- `back OWNER CONIT AMOUNT`
unfoldable pub back_at : ℕ → ℕ → ℕ → Tokens → Field ShortAct
back_at replicas conits replica tokens = do
  owner ← other_replica_at replicas replica tokens
  conit ← conit_at conits owner.1
  amount ← number_at AMOUNT_MAX conit.1
  Ok (Back owner.0 conit.0 amount.0, amount.1)

-- an act of a replica, by its word
abbrev pub act_by : ℕ → ℕ → ℕ → Option ActWord → Tokens → Field ShortAct
act_by replicas conits replica (Some word.Call) tokens = call_at conits tokens
act_by replicas conits replica (Some word.Send) tokens = send_at replicas replica tokens
act_by replicas conits replica (Some word.Take) tokens = take_at replicas replica tokens
act_by replicas conits replica (Some word.Lend) tokens = lend_at replicas conits replica tokens
act_by replicas conits replica (Some word.Back) tokens = back_at replicas conits replica tokens
act_by replicas conits replica (Some word.Restart) tokens = Ok (Restart, tokens)
act_by replicas conits replica None tokens = Err UnknownWord

unfoldable pub act_at : ℕ → ℕ → ℕ → Tokens → Field ShortAct
act_at replicas conits replica tokens = do
  word ← token_at tokens
  act_by replicas conits replica (act_word word.0) word.1

-- `e REPLICA MOMENT` and an act, behind `e`
unfoldable pub entry_line : ℕ → ℕ → Tokens → Result Short LineKind
entry_line replicas conits tokens = do
  replica ← replica_at replicas tokens
  moment ← number_at MOMENT_MAX replica.1
  act ← act_at replicas conits replica.0 moment.1
  end ← end_at Extra act.1
  Ok (record { replica = replica.0; moment = moment.0; act = act.0 })
