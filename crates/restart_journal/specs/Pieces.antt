-- Pieces of a journal: how the entries of a replica are spelled.
use Rattle.std.specs.Prelude.{◌≡◌, ℕ, ◌^◌, ◌<◌, List, ◌∷◌, ◌++◌}
use Rattle.tact_base.specs.Setup.{Setup, IsSetup}
use Rattle.run_model.specs.Bytes.{number_bytes}
use Rattle.run_model.specs.CallBytes.{HasSmallNames, HasWideNumbers}
use Rattle.run_model.specs.Ranges.{IsEntryInRange}
use Rattle.run_model.specs.declared.entry.Act.{Act}
use Rattle.run_model.specs.declared.entry.Act.TheVariants as act
use Rattle.run_model.specs.declared.entry.Entry.{Entry}
use Rattle.tact_msg.specs.MessageBytes.{message_bytes}
use Rattle.run_record.specs.Records.{short_act_of}
use Rattle.run_record.specs.RecordBytes.{act_tag, act_bytes}

-- ---- what can be spelled

-- the reply of a call names conits and replicas of one byte each
abbrev pub HasSmallReply : Act → Type 0
HasSmallReply (act.Call client number request reply) = HasSmallNames reply
HasSmallReply other = Unit {0}

-- an act is a call
abbrev pub IsCall : Act → Type 0
IsCall (act.Call client number request reply) = Unit {0}
IsCall other = ⊥

-- an entry of some setup, with such a reply
pub record CanBePut (entry : Entry) : Type 0 where
  pub setup : Setup
  pub good : IsSetup setup
  pub in_range : IsEntryInRange setup entry
  pub names : HasSmallReply entry.act

-- the names of the reply of a call have one byte each, its number and the numbers of the reply have eight
abbrev pub IsSpellable : Act → Type 0
IsSpellable (act.Call client number request reply) = (number < 2 ^ 64) × HasSmallNames reply × HasWideNumbers reply
IsSpellable other = Unit {0}

-- ---- spelling

-- the fields of an act: those that a record has, but of a take the whole message
abbrev pub fields_of : Act → List ℕ
fields_of (act.Take message) = message_bytes message
fields_of done = act_bytes (short_act_of done)

-- the piece of an entry: its tag in one byte, its replica in one, its moment, and the fields of its act
abbrev pub piece_bytes : Entry → List ℕ
piece_bytes entry =
    act_tag (short_act_of entry.act) ∷ entry.replica ∷ number_bytes entry.moment ++ fields_of entry.act

-- a piece is that of an entry
pub record IsPieceOf (piece : List ℕ) (entry : Entry) : Type 0 where
  pub spelled : piece ≡ piece_bytes entry
  pub spellable : IsSpellable entry.act
