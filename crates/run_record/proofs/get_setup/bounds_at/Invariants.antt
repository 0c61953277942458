use Rattle.std.proofs.Common.{◌≡◌, ◌-◌, ◌*◌, ◌≤◌, length}
use Rattle.run_record.specs.RecordAt.{bounds_at}
use Rattle.run_record.proofs.Loops.{behind_part}
use Rattle.run_record.proofs.get_setup.bounds_at.Given as goal

-- the bounds read so far, with those that are still to be read, are those that are read from the start
abbrev pub invariant-loop-row : goal.invariant-loop-row
invariant-loop-row l = record {
  within : l.place ≤ length l.bytes;
  read : behind_part l.bounds (bounds_at l.counts.replicas l.counts.conits (l.counts.replicas * l.counts.conits - l.row) l.row l.bytes l.place)
      ≡ bounds_at l.counts.replicas l.counts.conits (l.counts.replicas * l.counts.conits) 0 l.bytes l.fn.start;
}
