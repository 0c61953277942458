use Rattle.std.proofs.Common.{◌≡◌, ◌-◌, ◌≤◌, length}
use Rattle.run_record.specs.EntriesAt.{shorts_at}
use Rattle.run_record.specs.PartFaults.{behind}
use Rattle.run_record.proofs.get_acts.shorts_at.Given as goal

-- the entries read so far, with those that are still to be read, are those that are read from the start
abbrev pub invariant-loop-entry : goal.invariant-loop-entry
invariant-loop-entry l = record {
  within : l.place ≤ length l.bytes;
  read : behind l.shorts (shorts_at l.counts.replicas l.counts.conits (length l.bytes - l._entry) l.bytes l.place)
      ≡ shorts_at l.counts.replicas l.counts.conits (length l.bytes) l.bytes l.fn.start;
}
