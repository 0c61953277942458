use Rattle.std.proofs.Common.{◌≡◌, ◌≤◌, length, drop}
use Rattle.tact_msg.specs.Faults.{behind}
use Rattle.tact_msg.specs.MessageBytes.{writes_at}
use Rattle.tact_msg.proofs.get_writes.writes_at.Given as goal

-- the writes read so far, with those of the origins that are left, are those that are read from the start
abbrev pub invariant-loop-told : goal.invariant-loop-told
invariant-loop-told l = record {
  within : l.place ≤ length l.bytes;
  read : behind l.writes (writes_at l.conits (drop l.told-index l.tolds) l.bytes l.place) ≡ writes_at l.conits l.tolds l.bytes l.fn.start;
}
