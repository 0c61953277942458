use Rattle.run_work.specs.Settling.{AreReady, HaveGoneOn}
use Rattle.run_work.proofs.RoundLoops.{HasTakenSome}
use Rattle.run_work.proofs.settling.Settling.take_waiting.Given as goal

abbrev pub invariant-loop-taken : goal.invariant-loop-taken
invariant-loop-taken g l = record {
  on : HaveGoneOn l.fn.self l.self;
  ready : AreReady l.self;
  taking : HasTakenSome l.fn.replica l._taken l.fn.self l.self;
}
