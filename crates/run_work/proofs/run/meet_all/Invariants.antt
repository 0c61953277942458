use Rattle.std.proofs.Common.{◌≡◌, ◌++◌, All}
use Rattle.run_model.specs.Histories.{IsPrefix}
use Rattle.run_history.specs.Seats.{NoteView}
use Rattle.run_work.proofs.run.meet_all.Given as goal

abbrev pub invariant-loop-other : goal.invariant-loop-other
invariant-loop-other l = record {
  all : l.yielded ++ l.other-iterator.rest.items ≡ l.fn.others.items;
  table : l.note.table ≡ l.fn.note.table;
  mine : IsPrefix l.fn.note.seen l.note.seen;
  others : All (λ (other : NoteView). IsPrefix other.seen l.note.seen) l.yielded;
}
