use Rattle.std.proofs.Common.{◌≡◌, ℕ, ◌≤◌, vec_len}
use Rattle.rollback_apply.specs.Layers.{Applies, HasMemory}
use Rattle.rollback_apply.proofs.layers.Layers.undo_back.Given as goal

abbrev pub invariant-loop-at : goal.invariant-loop-at
invariant-loop-at l = record {
  above : l.at ≤ l.fn.applied;
  within : l.at ≤ vec_len l.self.tentative;
  settled : l.self.settled ≡ l.initial.self.settled;
  tentative : l.self.tentative ≡ l.initial.self.tentative;
  applies : Applies l.self l.at;
  memory : (more : ℕ) → HasMemory l.initial.self l.fn.applied more → HasMemory l.self l.at more;
}

abbrev pub decreases-loop-at : goal.decreases-loop-at
decreases-loop-at l = l.at
