use Rattle.std.proofs.Common.{◌≡◌, ◌-◌, ◌≤◌, length, take}
use Rattle.run_model.specs.Bytes.{numbers_at}
use Rattle.run_model.proofs.ListLoop.{with_front}
use Rattle.run_model.proofs.fields.numbers_at.Given as goal

-- the numbers read so far, with those that are still to be read, are those that are read from the start
abbrev pub invariant-loop-item : goal.invariant-loop-item
invariant-loop-item l = record {
  within : l.place ≤ length l.bytes;
  read : with_front (take l.item-index l.items) (numbers_at l.bound (length l.items - l.item-index) l.bytes l.place)
      ≡ numbers_at l.bound (length l.items) l.bytes l.fn.start;
}
