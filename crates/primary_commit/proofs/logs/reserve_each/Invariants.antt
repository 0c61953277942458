use Rattle.std.proofs.Common.{◌≡◌, ℕ, ◌≤◌, All, map, take}
use Rattle.primary_commit.proofs.logs.reserve_each.Given as goal

abbrev pub invariant-loop-place : goal.invariant-loop-place
invariant-loop-place l = record {
  items : map (λ log. log.items) l.logs.items ≡ map (λ log. log.items) l.fn.logs.items;
  kept : (room : ℕ) → All (λ log. room ≤ log.room) l.fn.logs.items → All (λ log. room ≤ log.room) l.logs.items;
  room : All (λ log. l.k ≤ log.room) (take l.place l.logs.items);
}
