-- The fields of a record in bytes, and how its entries are read.
use Rattle.std.specs.Prelude.{ℕ, zero, suc, ◌≤◌, ◌||◌, ◌==◌, List, [], ◌∷◌, slice_index, Ok, Err, if◌then◌else◌}
use Rattle.std.specs.Int.{w32, from_be_bytes}
use Rattle.tact_base.specs.declared.limits.TheConstants.{ALPHA_MAX, AMOUNT_MAX, CLIENTS, CONITS_MAX, HISTORY_MAX, MOMENT_MAX, REPLICAS_MAX, REPLICAS_MIN}
use Rattle.run_model.specs.declared.fields.FieldFault.TheVariants as field
use Rattle.run_model.specs.Bytes.{◌>>=◌, Field, byte_at, field_at, is_from_to, other_at, number_at, numbers_at, any_number_at}
use Rattle.run_model.specs.CallBytes.{request_at, reply_at}
use Rattle.run_record.specs.declared.parts.Bound.{Bound}
use Rattle.run_record.specs.declared.parts.Counts.{Counts}
use Rattle.run_record.specs.declared.short.Short.{Short}
use Rattle.run_record.specs.declared.short.ShortAct.{ShortAct}
use Rattle.run_record.specs.declared.short.ShortAct.TheVariants.{Call, Send, Take, Lend, Back, Restart}

-- ---- the setup's fields

-- the mark `TACT` is one field of four bytes
unfoldable pub mark_at : List ℕ → ℕ → Field ℕ
mark_at = field_at 4 (from_be_bytes w32) (λ mark. mark == 0x54414354)

-- counts within their limits
abbrev pub AreCounts : Counts → Type 0
AreCounts counts = (REPLICAS_MIN ≤ counts.replicas) × (counts.replicas ≤ REPLICAS_MAX) × (1 ≤ counts.conits) × (counts.conits ≤ CONITS_MAX)

-- the mark, the version 1 and the counts
unfoldable pub counts_at : List ℕ → ℕ → Field Counts
counts_at bytes place = do
  mark ← mark_at bytes place
  version ← byte_at 1 2 bytes mark.1
  replicas ← byte_at REPLICAS_MIN (suc REPLICAS_MAX) bytes version.1
  conits ← byte_at 1 (suc CONITS_MAX) bytes replicas.1
  Ok (record { replicas = replicas.0; conits = conits.0 }, conits.1)

-- The loans of an owner to so many holders, from one on. To itself it lends nothing.
abbrev pub loan_bound : ℕ → ℕ → ℕ
loan_bound owner holder = if holder == owner then 1 else suc ALPHA_MAX

unfoldable pub loans_at : ℕ → ℕ → ℕ → List ℕ → ℕ → Field (List ℕ)
loans_at owner zero holder bytes place = Ok ([], place)
loans_at owner (suc count) holder bytes place = do
  loan ← number_at 0 (loan_bound owner holder) bytes place
  others ← loans_at owner count (suc holder) bytes loan.1
  Ok (loan.0 ∷ others.0, others.1)

-- the alpha of an owner on a conit, and its loans there by holder
unfoldable pub bound_fields_at : ℕ → ℕ → List ℕ → ℕ → Field Bound
bound_fields_at replicas owner bytes place = do
  alpha ← number_at 0 (suc ALPHA_MAX) bytes place
  loans ← loans_at owner replicas 0 bytes alpha.1
  Ok (record { alpha = alpha.0; loans = loans.0 }, loans.1)

-- ---- acts

unfoldable pub call_at : ℕ → List ℕ → ℕ → Field ShortAct
call_at conits bytes place = do
  client ← byte_at 0 CLIENTS bytes place
  number ← any_number_at bytes client.1
  request ← request_at conits bytes number.1
  reply ← reply_at bytes request.1
  Ok (Call client.0 number.0 request.0 reply.0, reply.1)

-- firsts, one for each replica
abbrev pub firsts_at : ℕ → List ℕ → ℕ → Field (List ℕ)
firsts_at = numbers_at (suc HISTORY_MAX)

unfoldable pub send_at : ℕ → ℕ → List ℕ → ℕ → Field ShortAct
send_at replicas replica bytes place = do
  to ← other_at replica replicas bytes place
  number ← any_number_at bytes to.1
  firsts ← firsts_at replicas bytes number.1
  Ok (Send to.0 number.0 firsts.0, firsts.1)

unfoldable pub take_at : ℕ → ℕ → List ℕ → ℕ → Field ShortAct
take_at replicas replica bytes place = do
  from ← other_at replica replicas bytes place
  number ← any_number_at bytes from.1
  Ok (Take from.0 number.0, number.1)

unfoldable pub lend_at : ℕ → ℕ → ℕ → List ℕ → ℕ → Field ShortAct
lend_at replicas conits replica bytes place = do
  to ← other_at replica replicas bytes place
  conit ← byte_at 0 conits bytes to.1
  amount ← number_at 0 (suc AMOUNT_MAX) bytes conit.1
  Ok (Lend to.0 conit.0 amount.0, amount.1)

unfoldable pub back_at : ℕ → ℕ → ℕ → List ℕ → ℕ → Field ShortAct
back_at replicas conits replica bytes place = do
  owner ← other_at replica replicas bytes place
  conit ← byte_at 0 conits bytes owner.1
  amount ← number_at 0 (suc AMOUNT_MAX) bytes conit.1
  Ok (Back owner.0 conit.0 amount.0, amount.1)

-- the fields of an act of a replica, by its tag
unfoldable pub act_at : ℕ → ℕ → ℕ → ℕ → List ℕ → ℕ → Field ShortAct
act_at replicas conits tag replica bytes place =
    if tag == 1 then call_at conits bytes place
    else if tag == 2 then send_at replicas replica bytes place
    else if tag == 3 then take_at replicas replica bytes place
    else if tag == 4 then lend_at replicas conits replica bytes place
    else if tag == 5 then back_at replicas conits replica bytes place
    else Ok (Restart, place)

-- ---- entries

-- the tag of an entry, or the byte 0xFF that ends them
unfoldable pub tag_at : List ℕ → ℕ → Field ℕ
tag_at = field_at 1 (λ field. slice_index field 0) (λ tag. is_from_to 1 7 tag || (tag == 255))

-- an entry behind its tag
unfoldable pub short_at : ℕ → ℕ → ℕ → List ℕ → ℕ → Field Short
short_at replicas conits tag bytes place = do
  replica ← byte_at 0 replicas bytes place
  moment ← number_at 0 (suc MOMENT_MAX) bytes replica.1
  act ← act_at replicas conits tag replica.0 bytes moment.1
  Ok (record { replica = replica.0; moment = moment.0; act = act.0 }, act.1)

-- fewer than so many entries, and the byte 0xFF behind them
unfoldable pub shorts_at : ℕ → ℕ → ℕ → List ℕ → ℕ → Field (List Short)
shorts_at replicas conits zero bytes place = Err field.Short
shorts_at replicas conits (suc most) bytes place = do
  tag ← tag_at bytes place
  if tag.0 == 255 then Ok ([], tag.1) else do
    short ← short_at replicas conits tag.0 bytes tag.1
    others ← shorts_at replicas conits most bytes short.1
    Ok (short.0 ∷ others.0, others.1)
