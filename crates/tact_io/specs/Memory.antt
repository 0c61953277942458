-- The forms in memory: what they hold, and which of their calls fail.
use Rattle.std.specs.Prelude.{ℕ, List, true, Contains}
use Rattle.tact_base.specs.Counts.{one_more}
use Rattle.tact_io.specs.declared.memory_journal.JournalFail.{JournalFail}
use Rattle.tact_io.specs.Journals.{Pieces}

-- how many calls were made, the numbers from 0 of those that fail, and how many failed
pub record Schedule : Type 0 where
  pub calls : ℕ
  pub fails : List ℕ
  pub faults : ℕ

-- what is left in a source, and how its calls fail
pub record SourceState : Type 0 where
  pub left : List ℕ
  pub schedule : Schedule

-- what was written to a sink, and how its calls fail
pub record SinkState : Type 0 where
  pub written : List ℕ
  pub schedule : Schedule

-- no call was made yet
abbrev pub unused : List ℕ → Schedule
unused fails = record { calls = 0; fails = fails; faults = 0 }

-- the next call fails
abbrev pub FailsNext : Schedule → Type 0
FailsNext schedule = Contains schedule.fails schedule.calls

-- after a call that didn't fail
abbrev pub after_success : Schedule → Schedule
after_success schedule = record schedule { calls = one_more schedule.calls }

-- after a call that failed
abbrev pub after_fault : Schedule → Schedule
after_fault schedule = record schedule { calls = one_more schedule.calls; faults = one_more schedule.faults }

-- ---- journals

-- what a journal holds, how its calls fail, and which of them leave their piece
pub record JournalState : Type 0 where
  pub held : Pieces
  pub schedule : Schedule
  pub fails : List JournalFail

-- the number of a listed call
abbrev pub call_of : JournalFail → ℕ
call_of fail = fail.call

-- the next call leaves its piece, if it is an append that fails
abbrev pub KeepsNext : JournalState → Type 0
KeepsNext journal = Contains journal.fails (record { call = journal.schedule.calls; kept = true })
