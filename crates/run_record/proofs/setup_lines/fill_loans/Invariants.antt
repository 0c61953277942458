use Rattle.std.proofs.Common.{◌≡◌, ◌-◌, length, take}
use Rattle.run_record.specs.RecordLines.{loans_at}
use Rattle.run_record.specs.Splitting.{tokens}
use Rattle.run_record.proofs.ListLoop.{with_front}
use Rattle.run_record.proofs.setup_lines.fill_loans.Given as goal

-- the loans read so far, with those that are still to be read, are those that are read from the start
abbrev pub invariant-loop-item : goal.invariant-loop-item
invariant-loop-item l = record {
  holder : l.holder ≡ l.item-index;
  read : with_front (take l.item-index l.items) (loans_at l.owner (length l.items - l.item-index) l.holder (tokens l.rest))
      ≡ loans_at l.owner (length l.items) 0 (tokens l.line);
}
