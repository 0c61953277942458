-- How a piece is read: its fields from the left, up to its end.
use Rattle.std.specs.Prelude.{◌≡◌, ◌≢◌, ℕ, suc, ◌+◌, ◌<◌, ◌≤◌, ◌==◌, List, ◌∷◌, ◌++◌, drop, length, Option, None, Some, option_and_then, Result, Ok, Err, if◌then◌else◌}
use Rattle.std.specs.Option.{option_map}
use Rattle.tact_base.specs.declared.limits.TheConstants.{MOMENT_MAX}
use Rattle.tact_base.specs.Setup.{Setup}
use Rattle.run_model.specs.Bytes.{◌>>=◌, Field, byte_at, number_at, number_bytes}
use Rattle.run_model.specs.declared.entry.Act.{Act}
use Rattle.run_model.specs.declared.entry.Act.TheVariants as act
use Rattle.run_model.specs.declared.entry.Entry.{Entry}
use Rattle.run_model.specs.Messages.{message_of}
use Rattle.tact_msg.specs.MessageBytes.{IsMessage, message_at, message_bytes}
use Rattle.run_record.specs.declared.short.ShortAct.TheVariants as short
use Rattle.run_record.specs.Records.{IsActOf, short_act_of}
use Rattle.run_record.specs.RecordBytes.{act_tag, act_bytes}
use Rattle.run_record.specs.EntriesAt.{short_at}
use Rattle.restart_journal.specs.declared.parts.Piece.{Piece}
use Rattle.restart_journal.specs.declared.parts.Told.{Told}
use Rattle.restart_journal.specs.declared.parts.Told.TheVariants as told

-- ---- what is told

-- what the piece of an entry tells of its act, and of the entry
abbrev pub told_of : Act → Told
told_of (act.Take message) = told.Take message
told_of done = told.Step (short_act_of done)

abbrev pub piece_of : Entry → Piece
piece_of entry = record { replica = entry.replica; moment = entry.moment; told = told_of entry.act }

abbrev pub a_piece : ℕ → ℕ → Told → Piece
a_piece replica moment told = record { replica = replica; moment = moment; told = told }

-- What can be told of an act of a replica of a setup: a message of some setup, or an act as a record has it that is no
-- take.
abbrev pub IsToldOf : Setup → ℕ → Told → Type 0
IsToldOf setup replica (told.Take message) = IsMessage message
IsToldOf setup replica (told.Step done) = IsActOf setup replica done × (act_tag done ≢ 3)

pub record IsPiece (setup : Setup) (piece : Piece) : Type 0 where
  pub replica : piece.replica < setup.replicas
  pub moment : piece.moment ≤ MOMENT_MAX
  pub told : IsToldOf setup piece.replica piece.told

-- what is told, spelled
abbrev pub told_tag : Told → ℕ
told_tag (told.Take message) = 3
told_tag (told.Step done) = act_tag done

abbrev pub told_bytes : Told → List ℕ
told_bytes (told.Take message) = message_bytes message
told_bytes (told.Step done) = act_bytes done

abbrev pub spelling : Piece → List ℕ
spelling piece = told_tag piece.told ∷ piece.replica ∷ number_bytes piece.moment ++ told_bytes piece.told

-- ---- reading, field by field

-- a message behind its replica and moment
unfoldable pub taken_at : ℕ → List ℕ → ℕ → Field Piece
taken_at replicas bytes place = do
  replica ← byte_at 0 replicas bytes place
  moment ← number_at 0 (suc MOMENT_MAX) bytes replica.1
  message ← message_at (drop moment.1 bytes) 0
  Ok (record { replica = replica.0; moment = moment.0; told = told.Take message.0 }, moment.1 + message.1)

-- another entry, as a record has it, behind its tag
unfoldable pub step_at : ℕ → ℕ → ℕ → List ℕ → ℕ → Field Piece
step_at replicas conits tag bytes place = do
  short ← short_at replicas conits tag bytes place
  Ok (record { replica = short.0.replica; moment = short.0.moment; told = told.Step short.0.act }, short.1)

-- an entry, by its tag
unfoldable pub piece_at : ℕ → ℕ → List ℕ → ℕ → Field Piece
piece_at replicas conits bytes place = do
  tag ← byte_at 1 7 bytes place
  if tag.0 == 3 then taken_at replicas bytes tag.1 else step_at replicas conits tag.0 bytes tag.1

-- what is read up to the end of the bytes
abbrev pub up_to_end : List ℕ → Field Piece → Option Piece
up_to_end bytes (Ok read) = if read.1 == length bytes then Some read.0 else None
up_to_end bytes (Err fault) = None

-- what a piece tells of its entry: nothing follows in it
abbrev pub piece_in : ℕ → ℕ → List ℕ → Option Piece
piece_in replicas conits bytes = up_to_end bytes (piece_at replicas conits bytes 0)

-- ---- the entry of a piece

-- The act that is told after a part of a replica, at a moment: a sent message is the one that is due where these firsts
-- are given. A take is told with its message.
abbrev pub act_told : Setup → ℕ → List Entry → ℕ → Told → Option Act
act_told setup replica part moment (told.Take message) = Some (act.Take message)
act_told setup replica part moment (told.Step (short.Call client number request reply)) = Some (act.Call client number request reply)
act_told setup replica part moment (told.Step (short.Send to number firsts)) = Some (act.Send (message_of setup replica part moment to firsts))
act_told setup replica part moment (told.Step (short.Take from number)) = None
act_told setup replica part moment (told.Step (short.Lend to conit amount)) = Some (act.Lend to conit amount)
act_told setup replica part moment (told.Step (short.Back owner conit amount)) = Some (act.Back owner conit amount)
act_told setup replica part moment (told.Step short.Restart) = Some act.Restart

abbrev pub entry_with : ℕ → ℕ → Act → Entry
entry_with replica moment done = record { replica = replica; moment = moment; act = done }

-- the entry that a piece is after a part
abbrev pub entry_told : Setup → List Entry → Piece → Option Entry
entry_told setup part piece =
    option_map (entry_with piece.replica piece.moment) (act_told setup piece.replica part piece.moment piece.told)

abbrev pub entry_in : Setup → List Entry → List ℕ → Option Entry
entry_in setup part bytes = option_and_then (entry_told setup part) (piece_in setup.replicas setup.conits bytes)
