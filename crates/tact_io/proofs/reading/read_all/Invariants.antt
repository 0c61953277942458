use Rattle.std.proofs.Common.{◌-◌, ◌≤◌, length}
use Rattle.tact_io.specs.Source.{Gives}
use Rattle.tact_io.proofs.reading.read_all.Given as goal

abbrev pub invariant-loop-bytes : goal.invariant-loop-bytes
invariant-loop-bytes g l =
    let source = g.S.Source in
    record {
      given : Gives (source.left l.fn.source) (source.left l.source) l.bytes;
      within : length l.bytes ≤ l.most;
      counted : source.faults l.fn.source ≤ source.faults l.source;
    }

abbrev pub decreases-loop-bytes : goal.decreases-loop-bytes
decreases-loop-bytes g l = l.most - length l.bytes
