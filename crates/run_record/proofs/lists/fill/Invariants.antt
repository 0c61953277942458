use Rattle.std.proofs.Common.{◌≡◌, ◌-◌, length, take}
use Rattle.run_record.specs.Lists.{is_end, list_at}
use Rattle.run_record.specs.Splitting.{tokens}
use Rattle.run_record.proofs.ListLoop.{with_front}
use Rattle.run_record.proofs.lists.fill.Given as goal

-- the items read so far, with those that are still to be read, are those that are read from the start
abbrev pub invariant-loop-place : goal.invariant-loop-place
invariant-loop-place g l =
    with_front (take l.place l.items) (list_at (g.T.Listed.item_at l.conits) g.T.Listed.after (is_end l.end) (length l.items - l.place) l.least (tokens l.rest))
    ≡ list_at (g.T.Listed.item_at l.conits) g.T.Listed.after (is_end l.end) (length l.items) 0 (tokens l.line)
