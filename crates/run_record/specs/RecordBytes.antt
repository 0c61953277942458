-- Records as bytes: how each is spelled.
use Rattle.std.specs.Prelude.{ℕ, List, [], ◌∷◌, ◌++◌, length}
use Rattle.std.specs.List.{flat_map}
use Rattle.tact_base.specs.Setup.{Setup, owners_and_conits, alpha_of, loans_of}
use Rattle.run_model.specs.Bytes.{number_bytes}
use Rattle.run_model.specs.CallBytes.{request_bytes, reply_bytes}
use Rattle.run_record.specs.declared.short.Short.{Short}
use Rattle.run_record.specs.declared.short.ShortAct.{ShortAct}
use Rattle.run_record.specs.declared.short.ShortAct.TheVariants.{Call, Send, Take, Lend, Back, Restart}
use Rattle.run_record.specs.Records.{Held}

-- ---- spelling

-- the tag of an act, and its fields
abbrev pub act_tag : ShortAct → ℕ
act_tag (Call client number request reply) = 1
act_tag (Send to number firsts) = 2
act_tag (Take from number) = 3
act_tag (Lend to conit amount) = 4
act_tag (Back owner conit amount) = 5
act_tag Restart = 6

abbrev pub act_bytes : ShortAct → List ℕ
act_bytes (Call client number request reply) = client ∷ number_bytes number ++ (request_bytes request ++ reply_bytes reply)
act_bytes (Send to number firsts) = to ∷ number_bytes number ++ flat_map number_bytes firsts
act_bytes (Take from number) = from ∷ number_bytes number
act_bytes (Lend to conit amount) = to ∷ conit ∷ number_bytes amount
act_bytes (Back owner conit amount) = owner ∷ conit ∷ number_bytes amount
act_bytes Restart = []

-- an entry: its tag in one byte, its replica in one, its moment, and the fields of its act
abbrev pub short_bytes : Short → List ℕ
short_bytes short = act_tag short.act ∷ short.replica ∷ number_bytes short.moment ++ act_bytes short.act

-- an owner and a conit: the alpha, and the loans by holder
abbrev pub bound_bytes : Setup → ℕ × ℕ → List ℕ
bound_bytes setup (owner, conit) =
    number_bytes (alpha_of setup owner conit) ++ flat_map number_bytes (loans_of setup owner conit)

-- a setup: the mark 0x54414354 and the version 1, both counts in one byte each, and each owner with each conit
abbrev pub setup_bytes : Setup → List ℕ
setup_bytes setup =
    84 ∷ 65 ∷ 67 ∷ 84 ∷ 1 ∷ setup.replicas ∷ setup.conits ∷ flat_map (bound_bytes setup) (owners_and_conits setup)

-- a record: its setup, its entries, and behind the byte 0xFF their count
abbrev pub record_bytes : Held → List ℕ
record_bytes held = setup_bytes held.setup ++ (flat_map short_bytes held.entries ++ 255 ∷ number_bytes (length held.entries))
