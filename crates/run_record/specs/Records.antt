-- Records of runs: a setup, and entries that leave out what follows from those before them.
use Rattle.std.specs.Prelude.{◌≡◌, ◌≢◌, ℕ, ◌^◌, ◌<◌, ◌≤◌, List, All, length, map}
use Rattle.tact_base.specs.declared.limits.TheConstants.{AMOUNT_MAX, CLIENTS, HISTORY_MAX, MOMENT_MAX}
use Rattle.tact_base.specs.Setup.{Setup, IsSetup}
use Rattle.run_model.specs.declared.entry.Entry.{Entry}
use Rattle.run_model.specs.declared.entry.Act.{Act}
use Rattle.run_model.specs.declared.entry.Act.TheVariants as act
use Rattle.run_model.specs.CallBytes.{IsRequestOf, HasSmallNames, HasWideNumbers}
use Rattle.run_record.specs.declared.short.Short.{Short}
use Rattle.run_record.specs.declared.short.ShortAct.{ShortAct}
use Rattle.run_record.specs.declared.short.ShortAct.TheVariants.{Call, Send, Take, Lend, Back, Restart}

-- a record, as contracts see it
pub record Held : Type 0 where
  pub setup : Setup
  pub entries : List Short

-- an act of a replica is in range of a setup; a reply names conits and replicas of one byte each
abbrev pub IsActOf : Setup → ℕ → ShortAct → Type 0
IsActOf setup replica (Call client number request reply) =
    (client < CLIENTS) × (number < 2 ^ 64) × IsRequestOf setup.conits request × HasSmallNames reply × HasWideNumbers reply
IsActOf setup replica (Send to number firsts) =
    (to < setup.replicas) × (to ≢ replica) × (number < 2 ^ 64) × (length firsts ≡ setup.replicas) × All (λ first. first ≤ HISTORY_MAX) firsts
IsActOf setup replica (Take from number) = (from < setup.replicas) × (from ≢ replica) × (number < 2 ^ 64)
IsActOf setup replica (Lend to conit amount) = (to < setup.replicas) × (to ≢ replica) × (conit < setup.conits) × (amount ≤ AMOUNT_MAX)
IsActOf setup replica (Back owner conit amount) = (owner < setup.replicas) × (owner ≢ replica) × (conit < setup.conits) × (amount ≤ AMOUNT_MAX)
IsActOf setup replica Restart = Unit {0}

-- an entry of a record is in range of its setup
pub record IsShortOf (setup : Setup) (short : Short) : Type 0 where
  pub replica : short.replica < setup.replicas
  pub moment : short.moment ≤ MOMENT_MAX
  pub act : IsActOf setup short.replica short.act

-- a record whose setup has no fault and whose entries are in range of it
pub record IsHeld (held : Held) : Type 0 where
  pub setup : IsSetup held.setup
  pub entries : All (IsShortOf held.setup) held.entries

-- what a record says of an act, and of an entry: of a message its number, its other end and, of a sent one, its firsts
abbrev pub short_act_of : Act → ShortAct
short_act_of (act.Call client number request reply) = Call client number request reply
short_act_of (act.Send message) = Send message.to message.number message.firsts
short_act_of (act.Take message) = Take message.from message.number
short_act_of (act.Lend to conit amount) = Lend to conit amount
short_act_of (act.Back owner conit amount) = Back owner conit amount
short_act_of act.Restart = Restart

abbrev pub short_of : Entry → Short
short_of entry = record { replica = entry.replica; moment = entry.moment; act = short_act_of entry.act }

-- the record of a list of entries
abbrev pub held_of : Setup → List Entry → Held
held_of setup entries = record { setup = setup; entries = map short_of entries }
