use Rattle.std.proofs.Common.{◌≡◌}
use Rattle.std.specs.List.{flat_map, range_with_len}
use Rattle.replica_core.specs.Told.{piece_of}
use Rattle.replica_core.proofs.told_logs.ToldLogs.pieces.Given as goal

abbrev pub invariant-loop-origin : goal.invariant-loop-origin
invariant-loop-origin l = l.writes ≡ flat_map (piece_of l.self.logs l.firsts l.ends) (range_with_len 0 l.origin)
