use Rattle.std.proofs.Common.{◌≡◌, ◌-◌, ◌≤◌, length, take}
use Rattle.run_record.specs.EntriesAt.{loans_at}
use Rattle.run_record.specs.PartFaults.{behind}
use Rattle.run_record.proofs.get_setup.fill_loans.Given as goal

-- the loans read so far, with those that are still to be read, are those that are read from the start
abbrev pub invariant-loop-item : goal.invariant-loop-item
invariant-loop-item l = record {
  within : l.place ≤ length l.bytes;
  holder : l.holder ≡ l.item-index;
  read : behind (take l.item-index l.items) (loans_at l.owner (length l.items - l.item-index) l.holder l.bytes l.place)
      ≡ loans_at l.owner (length l.items) 0 l.bytes l.fn.start;
}
