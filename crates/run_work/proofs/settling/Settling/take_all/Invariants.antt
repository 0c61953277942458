use Rattle.std.proofs.Common.{◌≡◌, ◌<◌, ℕ, [], Contains}
use Rattle.run_model.specs.declared.entry.Message.{Message}
use Rattle.run_work.specs.Rounds.{HasSeenAt, HasSeenTaking, waiting_at}
use Rattle.run_work.specs.Settling.{AreReady, HaveGoneOn}
use Rattle.run_work.proofs.RoundLoops.{HaveTakenSome}
use Rattle.run_work.proofs.settling.Settling.take_all.Given as goal

abbrev pub invariant-loop-replica : goal.invariant-loop-replica
invariant-loop-replica g l = record {
  on : HaveGoneOn l.fn.self l.self;
  ready : AreReady l.self;
  taking : HaveTakenSome l.replica l.fn.self l.self;
  empty : (replica : ℕ) → replica < l.replica → waiting_at l.self replica ≡ [];
  taken : (replica : ℕ) (message : Message) → replica < l.replica → Contains (waiting_at l.fn.self replica) message
      → HasSeenTaking (HasSeenAt l.self replica) replica message;
}
