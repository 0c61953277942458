use Rattle.std.proofs.Common.{◌-◌, ◌≤◌, length, take}
use Rattle.tact_io.specs.Sink.{Gains}
use Rattle.tact_io.proofs.writing.write_all.Given as goal

abbrev pub invariant-loop-done : goal.invariant-loop-done
invariant-loop-done g l =
    let sink = g.K.Sink in
    record {
      gained : Gains (sink.written l.fn.sink) (sink.written l.sink) (take l.done l.text);
      within : l.done ≤ length l.text;
      counted : sink.faults l.fn.sink ≤ sink.faults l.sink;
    }

abbrev pub decreases-loop-done : goal.decreases-loop-done
decreases-loop-done g l = length l.text - l.done
