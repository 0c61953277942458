use Rattle.std.proofs.Common.{◌≡◌, ◌+◌, ◌≤◌, ◌++◌, map, take}
use Rattle.primary_commit.specs.Peers.{pick_of}
use Rattle.primary_commit.proofs.taking.push_picks.Given as goal

abbrev pub invariant-loop-item : goal.invariant-loop-item
invariant-loop-item l = record {
  told : l.told.items ≡ l.fn.told.items ++ map pick_of (take l.item-index l.items);
  room : l.fn.told.room ≤ l.told.room + l.item-index;
}
