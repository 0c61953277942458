use Rattle.std.proofs.Common.{◌≡◌, ◌<◌, ℕ}
use Rattle.run_work.specs.Rounds.{AreStill, HasSeenAt}
use Rattle.run_work.specs.Settling.{AreReady, HaveGoneOn}
use Rattle.run_work.proofs.settling.Settling.hear.Given as goal

abbrev pub invariant-loop-replica : goal.invariant-loop-replica
invariant-loop-replica g l = record {
  on : HaveGoneOn l.fn.self l.self;
  ready : AreReady l.self;
  still : AreStill l.fn.self l.self;
  note : l.note ≡ l.fn.note;
  desk : l.self.desk ≡ l.fn.self.desk;
  told : (place : ℕ) → place < l.replica → HasSeenAt l.self place l.fn.note.seen;
}
