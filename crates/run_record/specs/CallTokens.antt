-- Requests and replies in the line of an entry: each is a value and the tokens after it, or the first fault from the
-- left.
use Rattle.std.specs.Prelude.{ℕ, ◌-◌, ◌^◌, ℤ, pos, negsuc, Bool, nat_eq, nat_lt, List, Option, Some, None, Result, Ok, Err, if◌then◌else◌}
use Rattle.std.specs.Cmp.Lexicographic.{pointwise}
use Rattle.tact_base.specs.Numbers.{signed_of, token_answer}
use Rattle.tact_base.specs.declared.limits.TheConstants.{AMOUNT_MAX, KEY_MAX, LIST_MAX}
use Rattle.tact_base.specs.declared.tokens.TokenFault.{TokenFault}
use Rattle.run_model.specs.declared.call.Request.{Request}
use Rattle.run_model.specs.declared.call.Request.TheVariants as request
use Rattle.run_model.specs.declared.call.Reply.{Reply}
use Rattle.run_model.specs.declared.call.Reply.TheVariants as reply
use Rattle.run_model.specs.declared.status.LineKind.{LineKind}
use Rattle.run_model.specs.declared.status.LineKind.TheVariants.{UnknownWord}
use Rattle.run_record.specs.declared.entry_words.ReplyWord.{ReplyWord}
use Rattle.run_record.specs.declared.entry_words.ReplyWord.TheVariants as told
use Rattle.run_record.specs.declared.entry_words.RequestWord.{RequestWord}
use Rattle.run_record.specs.declared.entry_words.RequestWord.TheVariants as asked
use Rattle.run_record.specs.declared.lists.ListEnd.TheVariants as ending
use Rattle.run_record.specs.EntryWords.{request_word, reply_word}
use Rattle.run_record.specs.Fields.{◌>>=◌, Tokens, Field, token_at, in_line, number_at, op_at}
use Rattle.run_record.specs.Lists.{is_end, list_at, weight_at, weights_at, needs_at}

-- ---- numbers and words

-- any number of 64 bits
abbrev pub any_number_at : Tokens → Field ℕ
any_number_at tokens = number_at (2 ^ 64 - 1) tokens

-- a conit or a replica that a reply names, of one byte
abbrev pub name_at : Tokens → Field ℕ
name_at tokens = number_at 255 tokens

-- whether a signed number has 64 bits: it goes from -2^63 to 2^63 - 1
abbrev pub is_wide : ℤ → Bool
is_wide (pos n) = nat_lt n (2 ^ 63)
is_wide (negsuc n) = nat_lt n (2 ^ 63)

-- what is answered to a token in a field of any signed number of 64 bits
abbrev pub whole_wide : List ℕ → Result ℤ TokenFault
whole_wide token = token_answer is_wide (signed_of token)

unfoldable pub any_signed_at : Tokens → Field ℤ
any_signed_at tokens = do
  token ← token_at tokens
  number ← in_line (whole_wide token.0)
  Ok (number, token.1)

-- The tokens after a word that must stand. Another token is of this kind.
unfoldable pub word_due : List ℕ → LineKind → Tokens → Result Tokens LineKind
word_due word kind tokens = do
  token ← token_at tokens
  if pointwise nat_eq token.0 word then Ok token.1 else Err kind

-- one of the conits
abbrev pub conit_at : ℕ → Tokens → Field ℕ
conit_at conits tokens = number_at (conits - 1) tokens

-- ---- requests

-- `write OP WEIGHT..`, behind its word
unfoldable pub write_at : ℕ → Tokens → Field Request
write_at conits tokens = do
  op ← op_at tokens
  weights ← weights_at conits ending.Equals op.1
  Ok (request.Write weights.0 op.0, weights.1)

-- `held OP WEIGHT`
unfoldable pub held_at : ℕ → Tokens → Field Request
held_at conits tokens = do
  op ← op_at tokens
  weight ← weight_at conits 0 op.1
  Ok (request.Held weight.0 op.0, weight.1)

-- `reserve C AMOUNT`
unfoldable pub reserve_at : ℕ → Tokens → Field Request
reserve_at conits tokens = do
  conit ← conit_at conits tokens
  amount ← number_at AMOUNT_MAX conit.1
  Ok (request.Reserve conit.0 amount.0, amount.1)

-- `release C AMOUNT`
unfoldable pub release_at : ℕ → Tokens → Field Request
release_at conits tokens = do
  conit ← conit_at conits tokens
  amount ← number_at AMOUNT_MAX conit.1
  Ok (request.Release conit.0 amount.0, amount.1)

-- `read KEY NEED..`
unfoldable pub read_at : ℕ → Tokens → Field Request
read_at conits tokens = do
  key ← number_at KEY_MAX tokens
  needs ← needs_at conits ending.Equals key.1
  Ok (request.Read key.0 needs.0, needs.1)

-- a request, by its word
abbrev pub request_by : ℕ → Option RequestWord → Tokens → Field Request
request_by conits (Some asked.Write) tokens = write_at conits tokens
request_by conits (Some asked.Held) tokens = held_at conits tokens
request_by conits (Some asked.Reserve) tokens = reserve_at conits tokens
request_by conits (Some asked.Release) tokens = release_at conits tokens
request_by conits (Some asked.Read) tokens = read_at conits tokens
request_by conits None tokens = Err UnknownWord

unfoldable pub request_at : ℕ → Tokens → Field Request
request_at conits tokens = do
  word ← token_at tokens
  request_by conits (request_word word.0) word.1

-- ---- replies

-- `done INDEX STAMP`, behind its word
unfoldable pub done_at : Tokens → Field Reply
done_at tokens = do
  index ← any_number_at tokens
  stamp ← any_number_at index.1
  Ok (reply.Done index.0 stamp.0, stamp.1)

-- up to four sums, to the end of the line
abbrev pub sums_at : Tokens → Field (List ℤ)
sums_at = list_at (λ least. any_signed_at) (λ sum. 0) (is_end ending.Line) LIST_MAX 0

-- `value VALUE SUM..`
unfoldable pub value_at : Tokens → Field Reply
value_at tokens = do
  value ← any_signed_at tokens
  sums ← sums_at value.1
  Ok (reply.Value value.0 sums.0, sums.1)

-- `too-heavy CONIT PEER WEIGHT SHARE`
unfoldable pub too_heavy_at : Tokens → Field Reply
too_heavy_at tokens = do
  conit ← name_at tokens
  peer ← name_at conit.1
  weight ← any_number_at peer.1
  share ← any_number_at weight.1
  Ok (reply.TooHeavy conit.0 peer.0 weight.0 share.0, share.1)

-- `wait-held CONIT PEER RESERVED WEIGHT SHARE`
unfoldable pub wait_held_at : Tokens → Field Reply
wait_held_at tokens = do
  conit ← name_at tokens
  peer ← name_at conit.1
  reserved ← any_number_at peer.1
  weight ← any_number_at reserved.1
  share ← any_number_at weight.1
  Ok (reply.WaitHeld conit.0 peer.0 reserved.0 weight.0 share.0, share.1)

-- `wait-share CONIT PEER MISSING RESERVED WEIGHT SHARE`
unfoldable pub wait_share_at : Tokens → Field Reply
wait_share_at tokens = do
  conit ← name_at tokens
  peer ← name_at conit.1
  missing ← any_number_at peer.1
  reserved ← any_number_at missing.1
  weight ← any_number_at reserved.1
  share ← any_number_at weight.1
  Ok (reply.WaitShare conit.0 peer.0 missing.0 reserved.0 weight.0 share.0, share.1)

-- `wait-lent CONIT HOLDER OUT TOTAL NUM`
unfoldable pub wait_lent_at : Tokens → Field Reply
wait_lent_at tokens = do
  conit ← name_at tokens
  holder ← name_at conit.1
  out ← any_number_at holder.1
  total ← any_number_at out.1
  num ← any_number_at total.1
  Ok (reply.WaitLent conit.0 holder.0 out.0 total.0 num.0, num.1)

-- `wait-order CONIT REPLICA TENTATIVE ORDER`
unfoldable pub wait_order_at : Tokens → Field Reply
wait_order_at tokens = do
  conit ← name_at tokens
  replica ← name_at conit.1
  tentative ← any_number_at replica.1
  order ← any_number_at tentative.1
  Ok (reply.WaitOrder conit.0 replica.0 tentative.0 order.0, order.1)

-- `wait-stale CONIT REPLICA MOMENT WANTED`
unfoldable pub wait_stale_at : Tokens → Field Reply
wait_stale_at tokens = do
  conit ← name_at tokens
  replica ← name_at conit.1
  moment ← any_number_at replica.1
  wanted ← any_number_at moment.1
  Ok (reply.WaitStale conit.0 replica.0 moment.0 wanted.0, wanted.1)

-- `not-held CONIT HELD AMOUNT`
unfoldable pub not_held_at : Tokens → Field Reply
not_held_at tokens = do
  conit ← name_at tokens
  held ← any_number_at conit.1
  amount ← any_number_at held.1
  Ok (reply.NotHeld conit.0 held.0 amount.0, amount.1)

-- a reply, by its word
abbrev pub reply_by : Option ReplyWord → Tokens → Field Reply
reply_by (Some told.Done) tokens = done_at tokens
reply_by (Some told.Granted) tokens = Ok (reply.Granted, tokens)
reply_by (Some told.Released) tokens = Ok (reply.Released, tokens)
reply_by (Some told.Value) tokens = value_at tokens
reply_by (Some told.TooHeavy) tokens = too_heavy_at tokens
reply_by (Some told.WaitHeld) tokens = wait_held_at tokens
reply_by (Some told.WaitShare) tokens = wait_share_at tokens
reply_by (Some told.WaitLent) tokens = wait_lent_at tokens
reply_by (Some told.WaitOrder) tokens = wait_order_at tokens
reply_by (Some told.WaitStale) tokens = wait_stale_at tokens
reply_by (Some told.NotHeld) tokens = not_held_at tokens
reply_by None tokens = Err UnknownWord

unfoldable pub reply_at : Tokens → Field Reply
reply_at tokens = do
  word ← token_at tokens
  reply_by (reply_word word.0) word.1
