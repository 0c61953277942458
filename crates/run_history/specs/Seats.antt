-- What contracts see of a desk, of its clerks and of its notes.
use Rattle.std.specs.Prelude.{ℕ, List, [], map}
use Rattle.atomic_table.specs.Seated.{TableId}
use Rattle.tact_base.specs.Setup.{Setup}
use Rattle.tact_base.specs.Setup.{replicas_of}
use Rattle.run_model.specs.declared.entry.Entry.{Entry}

-- which table a desk has, and the setup that it is made for
pub record DeskView : Type 0 where
  pub table : TableId
  pub setup : Setup

-- which table a clerk is of, its replica, what it has seen of the history, and what it drew, by tick
pub record ClerkView : Type 0 where
  pub table : TableId
  pub replica : ℕ
  pub seen : List Entry
  pub pairs : List (ℕ × Entry)

-- which table a note is of, and what it has seen of the history
pub record NoteView : Type 0 where
  pub table : TableId
  pub seen : List Entry

-- a clerk that has drawn and seen nothing
abbrev pub fresh_clerk : TableId → ℕ → ClerkView
fresh_clerk table replica = record { table = table; replica = replica; seen = []; pairs = [] }

-- the clerks of a desk when it opens, one for each replica
abbrev pub fresh_clerks : DeskView → List ClerkView
fresh_clerks desk = map (fresh_clerk desk.table) (replicas_of desk.setup)
