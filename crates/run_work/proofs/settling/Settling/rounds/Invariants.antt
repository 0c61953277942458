use Rattle.std.proofs.Common.{◌<◌, ◌≤◌, ◌+◌, ◌*◌, ℕ, List, length}
use Rattle.run_model.specs.declared.entry.Entry.{Entry}
use Rattle.run_work.specs.Ends.{AreUnmarked}
use Rattle.run_work.specs.Rounds.{AreEmpty, HaveArrived, HaveSeen, made_at}
use Rattle.run_work.specs.Settling.{AreReady, HaveGoneOn}
use Rattle.run_work.proofs.settling.Settling.rounds.Given as goal

abbrev pub invariant-loop-round : goal.invariant-loop-round
invariant-loop-round g l = record {
  on : HaveGoneOn l.fn.self l.self;
  ready : AreReady l.self;
  empty : AreEmpty l.self;
  made : AreUnmarked l.self.ends → (replica : ℕ) → replica < length l.fn.self.nodes → made_at l.self replica ≤ made_at l.fn.self replica + (1024 + 21 * l._round);
  arrived : AreUnmarked l.self.ends → (front : List Entry) → 0 < l._round → HaveSeen l.fn.self front → HaveArrived front l.self;
}
