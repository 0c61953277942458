use Rattle.std.proofs.Common.{◌≡◌, ◌==◌, ℕ, ◌+◌, ◌<◌, ◌≤◌, List, [], filter, get_or, length, take}
use Rattle.primary_commit.specs.Kept.{log_after}
use Rattle.primary_commit.specs.Peers.{AreNext}
use Rattle.primary_commit.proofs.taking.add_items.Given as goal

abbrev pub invariant-loop-item : goal.invariant-loop-item
invariant-loop-item l = record {
  sized : length l.logs.logs ≡ length l.fn.logs.logs;
  room : length l.items ≤ l.item-index + l.logs.room;
  logs : (firsts : List ℕ) → AreNext firsts l.items → (origin : ℕ) → origin < length l.fn.logs.logs
      → get_or l.logs.logs origin []
      ≡ log_after (get_or l.fn.logs.logs origin []) (get_or firsts origin 0) (filter (λ item. item.origin == origin) (take l.item-index l.items));
}
