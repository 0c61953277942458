use Rattle.std.proofs.Common.{◌≡◌, ℕ, ◌+◌, ◌<◌, length, get_or}
use Rattle.tact_base.specs.declared.limits.TheConstants.{MESSAGE_WRITES}
use Rattle.replica_core.specs.Told.{end_told, told_before}
use Rattle.replica_core.proofs.told_logs.ToldLogs.put_ends.Given as goal

abbrev pub invariant-loop-origin : goal.invariant-loop-origin
invariant-loop-origin l = record {
  room : l.room + length (told_before l.self.logs l.firsts l.origin) ≡ MESSAGE_WRITES;
  sized : length l.ends ≡ 8;
  told : (origin : ℕ) → origin < l.origin → get_or l.ends origin 0 ≡ end_told l.self.logs l.firsts origin;
}
