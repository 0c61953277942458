use Rattle.std.proofs.Common.{◌≡◌, ◌-◌, ◌≤◌, length, take}
use Rattle.run_model.specs.Bytes.{list_at}
use Rattle.run_model.proofs.ListLoop.{with_front}
use Rattle.run_model.proofs.get_bytes.fill.Given as goal

-- the items read so far, with those that are still to be read, are those that are read from the start
abbrev pub invariant-loop-item : goal.invariant-loop-item
invariant-loop-item g l = record {
  within : l.place ≤ length l.bytes;
  read : with_front (take l.item-index l.items) (list_at (g.T.Listed.item_at l.conits) g.T.Listed.after (length l.items - l.item-index) l.least l.bytes l.place)
      ≡ list_at (g.T.Listed.item_at l.conits) g.T.Listed.after (length l.items) 0 l.bytes l.fn.start;
}
