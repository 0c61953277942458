use Rattle.std.proofs.Common.{◌≢◌, ◌<◌, ℕ, List}
use Rattle.run_model.specs.declared.entry.Entry.{Entry}
use Rattle.run_work.specs.Ends.{AreUnmarked}
use Rattle.run_work.specs.Rounds.{HasReached, HasSeenAt}
use Rattle.run_work.specs.Settling.{AreReady, HaveGoneOn}
use Rattle.run_work.proofs.RoundLoops.{HasSentSome}
use Rattle.run_work.proofs.settling.Settling.send_from.Given as goal

abbrev pub invariant-loop-to : goal.invariant-loop-to
invariant-loop-to g l = record {
  on : HaveGoneOn l.fn.self l.self;
  ready : AreReady l.self;
  sending : HasSentSome l.fn.from l.to l.fn.self l.self;
  reached : AreUnmarked l.self.ends → (front : List Entry) (to : ℕ) → HasSeenAt l.fn.self l.fn.from front → to < l.to → to ≢ l.fn.from → HasReached front l.fn.from to l.self;
}
