use Rattle.std.proofs.Common.{◌≡◌, ℕ, ◌-◌, ◌≤◌, vec_len}
use Rattle.rollback_apply.specs.Layers.{ops_in, Applies, HasMemory}
use Rattle.rollback_apply.proofs.layers.Layers.apply_to.Given as goal

abbrev pub invariant-loop-at : goal.invariant-loop-at
invariant-loop-at l = record {
  above : l.fn.applied ≤ l.at;
  within : l.at ≤ vec_len l.self.tentative;
  settled : l.self.settled ≡ l.initial.self.settled;
  applies : Applies l.self l.at;
  ops : ops_in l.self.tentative.items ≡ ops_in l.initial.self.tentative.items;
  count : vec_len l.self.tentative ≡ vec_len l.initial.self.tentative;
  memory : (more : ℕ) → HasMemory l.initial.self l.fn.applied more → HasMemory l.self l.at more;
}

abbrev pub decreases-loop-at : goal.decreases-loop-at
decreases-loop-at l = l.count - l.at
