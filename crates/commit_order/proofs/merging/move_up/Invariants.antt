use Rattle.std.proofs.Common.{◌≡◌, ◌+◌, ◌≤◌, ◌++◌, length, take, drop}
use Rattle.commit_order.proofs.merging.move_up.Given as goal

-- those from `end` on have moved up, and those before it haven't
abbrev pub invariant-loop-end : goal.invariant-loop-end
invariant-loop-end l = record {
  low : l.from ≤ l.end;
  high : l.end ≤ l.to;
  length : length l.items ≡ length l.fn.items;
  front : take (l.end + l.by) l.items ≡ take (l.end + l.by) l.fn.items;
  moved : drop (l.end + l.by) l.items ≡ drop l.end (take l.to l.fn.items) ++ drop (l.to + l.by) l.fn.items;
}

abbrev pub decreases-loop-end : goal.decreases-loop-end
decreases-loop-end l = l.end
