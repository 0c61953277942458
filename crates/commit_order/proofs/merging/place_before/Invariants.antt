use Rattle.std.proofs.Common.{◌≡◌, ◌≤◌, true, All, take, drop}
use Rattle.tact_base.specs.WriteOrder.{comes_before}
use Rattle.commit_order.proofs.merging.place_before.Given as goal

-- the write comes before those that were passed
abbrev pub invariant-loop-place : goal.invariant-loop-place
invariant-loop-place l = record {
  within : l.place ≤ l.left;
  ahead : All (λ later. comes_before l.write later ≡ true) (drop l.place (take l.left l.items));
}

abbrev pub decreases-loop-place : goal.decreases-loop-place
decreases-loop-place l = l.place
