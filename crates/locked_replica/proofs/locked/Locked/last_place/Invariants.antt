use Rattle.std.proofs.Common.{◌≡◌, ◌<◌, ◌≤◌, ℕ, false, get_or, length}
use Rattle.run_model.specs.Histories.{is_call_of}
use Rattle.run_model.specs.declared.entry.Entry.{Entry}
use Rattle.locked_replica.specs.Locks.{part_in}
use Rattle.locked_replica.proofs.locked.Locked.last_place.Given as goal

abbrev pub invariant-loop-place : goal.invariant-loop-place
invariant-loop-place l = (none : Entry) (k : ℕ) → l.place ≤ k → k < length l.fn.self.stored → is_call_of l.fn.client (get_or (part_in l.fn.self) k none).act ≡ false
