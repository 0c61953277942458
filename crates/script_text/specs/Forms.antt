-- What each line of a script says, token by token, where there are so many replicas and conits.
use Rattle.std.specs.Prelude.{ℕ, ◌-◌, ◌^◌, ◌≤◌, Option, Some, None, Result, Ok, Err}
use Rattle.tact_base.specs.declared.limits.TheConstants.{REPLICAS_MIN, REPLICAS_MAX, CONITS_MAX, ALPHA_MAX, AMOUNT_MAX, KEY_MAX, MOMENT_MAX}
use Rattle.run_model.specs.declared.script_line.Line.{Line}
use Rattle.run_model.specs.declared.script_line.Line.TheVariants as line
use Rattle.run_model.specs.declared.status.LineKind.{LineKind}
use Rattle.run_model.specs.declared.status.LineKind.TheVariants.{NoStart, SecondStart, UnknownWord, Extra}
use Rattle.run_record.specs.declared.lists.ListEnd.TheVariants as ending
use Rattle.run_record.specs.Fields.{◌>>=◌, Tokens, Field, token_at, count_at, number_at, replica_at, other_replica_at, client_at, op_at, end_at}
use Rattle.run_record.specs.Lists.{weight_at, weights_at, needs_at, firsts_at}
use Rattle.script_text.specs.declared.word.Word.{Word}
use Rattle.script_text.specs.declared.word.Word.TheVariants as word
use Rattle.script_text.specs.Words.{word_of}

-- one of the conits
abbrev pub conit_at : ℕ → Tokens → Field ℕ
conit_at conits tokens = number_at (conits - 1) tokens

-- `start N M ALPHA LOAN`
unfoldable pub start_line : Tokens → Result Line LineKind
start_line tokens = do
  replicas ← count_at REPLICAS_MIN REPLICAS_MAX tokens
  conits ← count_at 1 CONITS_MAX replicas.1
  alpha ← number_at ALPHA_MAX conits.1
  loan ← number_at AMOUNT_MAX alpha.1
  end ← end_at Extra loan.1
  Ok (line.Start replicas.0 conits.0 alpha.0 loan.0)

-- `bound O C ALPHA LOAN`
unfoldable pub bound_line : ℕ → ℕ → Tokens → Result Line LineKind
bound_line replicas conits tokens = do
  owner ← replica_at replicas tokens
  conit ← conit_at conits owner.1
  alpha ← number_at ALPHA_MAX conit.1
  loan ← number_at AMOUNT_MAX alpha.1
  end ← end_at Extra loan.1
  Ok (line.Bound owner.0 conit.0 alpha.0 loan.0)

-- `at T`
unfoldable pub at_line : Tokens → Result Line LineKind
at_line tokens = do
  moment ← number_at MOMENT_MAX tokens
  end ← end_at Extra moment.1
  Ok (line.At moment.0)

-- `write R K OP WEIGHT..`
unfoldable pub write_line : ℕ → ℕ → Tokens → Result Line LineKind
write_line replicas conits tokens = do
  replica ← replica_at replicas tokens
  client ← client_at replica.1
  op ← op_at client.1
  weights ← weights_at conits ending.Line op.1
  end ← end_at Extra weights.1
  Ok (line.Write replica.0 client.0 op.0 weights.0)

-- `held R K OP WEIGHT`
unfoldable pub held_line : ℕ → ℕ → Tokens → Result Line LineKind
held_line replicas conits tokens = do
  replica ← replica_at replicas tokens
  client ← client_at replica.1
  op ← op_at client.1
  weight ← weight_at conits 0 op.1
  end ← end_at Extra weight.1
  Ok (line.Held replica.0 client.0 op.0 weight.0)

-- `reserve R K C AMOUNT`
unfoldable pub reserve_line : ℕ → ℕ → Tokens → Result Line LineKind
reserve_line replicas conits tokens = do
  replica ← replica_at replicas tokens
  client ← client_at replica.1
  conit ← conit_at conits client.1
  amount ← number_at AMOUNT_MAX conit.1
  end ← end_at Extra amount.1
  Ok (line.Reserve replica.0 client.0 conit.0 amount.0)

-- `release R K C AMOUNT`
unfoldable pub release_line : ℕ → ℕ → Tokens → Result Line LineKind
release_line replicas conits tokens = do
  replica ← replica_at replicas tokens
  client ← client_at replica.1
  conit ← conit_at conits client.1
  amount ← number_at AMOUNT_MAX conit.1
  end ← end_at Extra amount.1
  Ok (line.Release replica.0 client.0 conit.0 amount.0)

-- `read R K KEY NEED..`
unfoldable pub read_line : ℕ → ℕ → Tokens → Result Line LineKind
read_line replicas conits tokens = do
  replica ← replica_at replicas tokens
  client ← client_at replica.1
  key ← number_at KEY_MAX client.1
  needs ← needs_at conits ending.Line key.1
  end ← end_at Extra needs.1
  Ok (line.Read replica.0 client.0 key.0 needs.0)

-- `send A B`, whose firsts are zeros, or `send A B FIRST..`
unfoldable pub send_line : ℕ → Tokens → Result Line LineKind
send_line replicas tokens = do
  from ← replica_at replicas tokens
  to ← other_replica_at replicas from.0 from.1
  firsts ← firsts_at replicas to.1
  end ← end_at Extra firsts.1
  Ok (line.Send from.0 to.0 firsts.0)

-- `take R F NUMBER`
unfoldable pub take_line : ℕ → Tokens → Result Line LineKind
take_line replicas tokens = do
  replica ← replica_at replicas tokens
  from ← other_replica_at replicas replica.0 replica.1
  number ← number_at (2 ^ 64 - 1) from.1
  end ← end_at Extra number.1
  Ok (line.Take replica.0 from.0 number.0)

-- `sync A B`
unfoldable pub sync_line : ℕ → Tokens → Result Line LineKind
sync_line replicas tokens = do
  first ← replica_at replicas tokens
  second ← other_replica_at replicas first.0 first.1
  end ← end_at Extra second.1
  Ok (line.Sync first.0 second.0)

-- `lend O H C AMOUNT`
unfoldable pub lend_line : ℕ → ℕ → Tokens → Result Line LineKind
lend_line replicas conits tokens = do
  owner ← replica_at replicas tokens
  holder ← other_replica_at replicas owner.0 owner.1
  conit ← conit_at conits holder.1
  amount ← number_at AMOUNT_MAX conit.1
  end ← end_at Extra amount.1
  Ok (line.Lend owner.0 holder.0 conit.0 amount.0)

-- `back H O C AMOUNT`
unfoldable pub back_line : ℕ → ℕ → Tokens → Result Line LineKind
back_line replicas conits tokens = do
  holder ← replica_at replicas tokens
  owner ← other_replica_at replicas holder.0 holder.1
  conit ← conit_at conits owner.1
  amount ← number_at AMOUNT_MAX conit.1
  end ← end_at Extra amount.1
  Ok (line.Back holder.0 owner.0 conit.0 amount.0)

-- `restart R`
unfoldable pub restart_line : ℕ → Tokens → Result Line LineKind
restart_line replicas tokens = do
  replica ← replica_at replicas tokens
  end ← end_at Extra replica.1
  Ok (line.Restart replica.0)

-- `show R`
unfoldable pub show_line : ℕ → Tokens → Result Line LineKind
show_line replicas tokens = do
  replica ← replica_at replicas tokens
  end ← end_at Extra replica.1
  Ok (line.Show replica.0)

-- `ref C`
unfoldable pub ref_line : ℕ → Tokens → Result Line LineKind
ref_line conits tokens = do
  conit ← conit_at conits tokens
  end ← end_at Extra conit.1
  Ok (line.Ref conit.0)

-- the counts of a first line are small
abbrev pub AreStartNumbers : Line → Type 0
AreStartNumbers (line.Start replicas conits alpha loan) = (replicas ≤ REPLICAS_MAX) × (conits ≤ CONITS_MAX)
AreStartNumbers other = ⊥

-- the first line that isn't skipped
abbrev pub first_by : Option Word → Tokens → Result Line LineKind
first_by (Some word.Start) tokens = start_line tokens
first_by other tokens = Err NoStart

-- a later line, by its first word
abbrev pub later_by : ℕ → ℕ → Option Word → Tokens → Result Line LineKind
later_by replicas conits None tokens = Err UnknownWord
later_by replicas conits (Some word.Start) tokens = Err SecondStart
later_by replicas conits (Some word.Bound) tokens = bound_line replicas conits tokens
later_by replicas conits (Some word.At) tokens = at_line tokens
later_by replicas conits (Some word.Write) tokens = write_line replicas conits tokens
later_by replicas conits (Some word.Held) tokens = held_line replicas conits tokens
later_by replicas conits (Some word.Reserve) tokens = reserve_line replicas conits tokens
later_by replicas conits (Some word.Release) tokens = release_line replicas conits tokens
later_by replicas conits (Some word.Read) tokens = read_line replicas conits tokens
later_by replicas conits (Some word.Send) tokens = send_line replicas tokens
later_by replicas conits (Some word.Take) tokens = take_line replicas tokens
later_by replicas conits (Some word.Sync) tokens = sync_line replicas tokens
later_by replicas conits (Some word.Lend) tokens = lend_line replicas conits tokens
later_by replicas conits (Some word.Back) tokens = back_line replicas conits tokens
later_by replicas conits (Some word.Restart) tokens = restart_line replicas tokens
later_by replicas conits (Some word.Show) tokens = show_line replicas tokens
later_by replicas conits (Some word.Ref) tokens = ref_line conits tokens

unfoldable pub first_at : Tokens → Result Line LineKind
first_at tokens = do
  word ← token_at tokens
  first_by (word_of word.0) word.1

unfoldable pub later_at : ℕ → ℕ → Tokens → Result Line LineKind
later_at replicas conits tokens = do
  word ← token_at tokens
  later_by replicas conits (word_of word.0) word.1
