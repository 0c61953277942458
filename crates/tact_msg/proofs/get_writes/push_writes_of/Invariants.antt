use Rattle.std.proofs.Common.{◌≡◌, ◌-◌, ◌+◌, ◌≤◌, suc, length}
use Rattle.tact_base.specs.declared.write.Write.{Write}
use Rattle.run_model.specs.Bytes.{list_at}
use Rattle.tact_msg.specs.Faults.{behind}
use Rattle.tact_msg.specs.MessageBytes.{write_at, writes_of_at}
use Rattle.tact_msg.proofs.get_writes.push_writes_of.Given as goal

-- the writes read so far, with those that are still to be read, are those that are read from the start
abbrev pub invariant-loop-done : goal.invariant-loop-done
invariant-loop-done l = record {
  within : l.place ≤ length l.bytes;
  read : behind l.writes (list_at (write_at l.conits l.told.origin) (λ (write : Write). suc write.index) (l.told.count - l.done) (l.told.first + l.done) l.bytes l.place)
      ≡ behind l.fn.writes (writes_of_at l.conits l.told l.bytes l.fn.start);
}
