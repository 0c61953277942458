-- What is said of a record: that it is a run's, or its first unlawful entry.
use Rattle.std.specs.Prelude.{◌≡◌, ℕ, Bool, true, false, List, ◌∷◌, ◌++◌, length, count_by, Some}
use Rattle.tact_base.specs.Setup.{Setup}
use Rattle.run_model.specs.Call.{is_waiting}
use Rattle.run_model.specs.Histories.{EachAfter}
use Rattle.run_model.specs.Promises.{IsKept}
use Rattle.run_model.specs.Runs.{IsLawful, IsRun}
use Rattle.run_model.specs.declared.call.Reply.{Reply}
use Rattle.run_model.specs.declared.call.Reply.TheVariants.{Done}
use Rattle.run_model.specs.declared.cause.Cause.{Cause}
use Rattle.run_model.specs.declared.entry.Entry.{Entry}
use Rattle.run_record.specs.RecordText.{is_call}
use Rattle.run_record.specs.Records.{Held, short_of, held_of}
use Rattle.run_record.specs.declared.short.Short.{Short}
use Rattle.run_record.specs.declared.short.ShortAct.{ShortAct}
use Rattle.run_record.specs.declared.short.ShortAct.TheVariants.{Call, Send, Take, Lend, Back, Restart}
use Rattle.run_check.specs.Expanded.{whole_entry, expanded}
use Rattle.run_check.specs.Causes.{IsFirstCause}
use Rattle.run_check.specs.declared.verdict.Summary.{Summary}
use Rattle.run_check.specs.declared.verdict.Verdict.{Verdict}
use Rattle.run_check.specs.declared.verdict.Verdict.TheVariants.{Run, Bad}

-- a record is that of a run: of its setup, with just these entries
abbrev pub IsRecordOf : Held → List Entry → Type 0
IsRecordOf held history = IsRun held.setup history × (held_of held.setup history ≡ held)

-- an entry of a record is lawful after a history, and the record says of it what it is
pub record IsLawfulShort (setup : Setup) (history : List Entry) (short : Short) : Type 0 where
  pub entry : Entry
  pub whole : whole_entry setup history short ≡ Some entry
  pub lawful : IsLawful setup history entry
  pub told : short_of entry ≡ short

-- so is each, after those before it
abbrev pub AreLawful : Setup → List Short → Type 0
AreLawful setup shorts = EachAfter (λ before short. IsLawfulShort setup (expanded setup before) short) shorts

-- the first entry that isn't, with the first test that it fails
pub record IsFirstBad (held : Held) (place : ℕ) (cause : Cause) : Type 0 where
  pub before : List Short
  pub short : Short
  pub after : List Short
  pub stands : held.entries ≡ before ++ short ∷ after
  pub at : length before ≡ place
  pub lawful : AreLawful held.setup before
  pub fails : IsFirstCause held.setup (expanded held.setup before) short cause

-- kinds of replies and acts
abbrev pub is_done : Reply → Bool
is_done (Done index stamp) = true
is_done other = false

abbrev pub is_accepted : ShortAct → Bool
is_accepted (Call client number request reply) = is_done reply
is_accepted other = false

abbrev pub is_wait : ShortAct → Bool
is_wait (Call client number request reply) = is_waiting reply
is_wait other = false

abbrev pub is_send : ShortAct → Bool
is_send (Send to number firsts) = true
is_send other = false

abbrev pub is_take : ShortAct → Bool
is_take (Take from number) = true
is_take other = false

abbrev pub is_lend : ShortAct → Bool
is_lend (Lend to conit amount) = true
is_lend other = false

abbrev pub is_back : ShortAct → Bool
is_back (Back owner conit amount) = true
is_back other = false

abbrev pub is_restart : ShortAct → Bool
is_restart Restart = true
is_restart other = false

-- how many entries of a record have an act of a kind
abbrev pub count_of : (ShortAct → Bool) → List Short → ℕ
count_of kind shorts = count_by (λ (short : Short). kind short.act) shorts

-- how many entries of each kind there are
abbrev pub summary_of : List Short → Summary
summary_of shorts = record {
  entries = length shorts;
  calls = count_of is_call shorts;
  writes = count_of is_accepted shorts;
  waits = count_of is_wait shorts;
  sends = count_of is_send shorts;
  takes = count_of is_take shorts;
  lends = count_of is_lend shorts;
  backs = count_of is_back shorts;
  restarts = count_of is_restart shorts;
}

-- what is due to be said of a record
abbrev pub IsVerdictOf : Held → Verdict → Type 0
IsVerdictOf held (Run summary) = AreLawful held.setup held.entries × (summary ≡ summary_of held.entries)
IsVerdictOf held (Bad entry cause) = IsFirstBad held entry cause

-- what it tells of runs: that the record is that of a run, which its entries tell and which keeps its promises; or that
-- it is that of none
abbrev pub TellsOfRuns : Held → Verdict → Type 0
TellsOfRuns held (Run summary) = IsRecordOf held (expanded held.setup held.entries) × IsKept held.setup (expanded held.setup held.entries)
TellsOfRuns held (Bad entry cause) = (history : List Entry) → IsRecordOf held history → ⊥
