use Rattle.std.proofs.Common.{◌≢◌, ◌<◌, ℕ, List, length}
use Rattle.run_model.specs.declared.entry.Entry.{Entry}
use Rattle.run_work.specs.Ends.{AreUnmarked}
use Rattle.run_work.specs.Rounds.{HasReached, HaveSeen}
use Rattle.run_work.specs.Settling.{AreReady, HaveGoneOn}
use Rattle.run_work.proofs.RoundLoops.{HaveSentSome}
use Rattle.run_work.proofs.settling.Settling.send_all.Given as goal

abbrev pub invariant-loop-from : goal.invariant-loop-from
invariant-loop-from g l = record {
  on : HaveGoneOn l.fn.self l.self;
  ready : AreReady l.self;
  sending : HaveSentSome l.from l.fn.self l.self;
  reached : AreUnmarked l.self.ends → (front : List Entry) (from to : ℕ) → HaveSeen l.fn.self front → from < l.from → to < length l.fn.self.nodes → to ≢ from → HasReached front from to l.self;
}
