use Rattle.std.proofs.Common.{◌≡◌, ◌<◌, ℕ, List}
use Rattle.run_model.specs.Histories.{IsPrefix}
use Rattle.run_model.specs.Runs.{IsRun}
use Rattle.run_model.specs.declared.entry.Entry.{Entry}
use Rattle.run_work.specs.Rounds.{AreStill, HasSeenAt}
use Rattle.run_work.specs.Settling.{AreReady, HaveGoneOn}
use Rattle.run_work.proofs.settling.Settling.tell.Given as goal

abbrev pub invariant-loop-replica : goal.invariant-loop-replica
invariant-loop-replica g l = record {
  on : HaveGoneOn l.fn.self l.self;
  ready : AreReady l.self;
  still : AreStill l.fn.self l.self;
  table : l.note.table ≡ l.fn.note.table;
  mine : IsPrefix l.fn.note.seen l.note.seen;
  run : 0 < l.replica → IsRun l.fn.self.desk.setup l.note.seen;
  told : (place : ℕ) (front : List Entry) → place < l.replica → HasSeenAt l.fn.self place front → IsPrefix front l.note.seen;
}
