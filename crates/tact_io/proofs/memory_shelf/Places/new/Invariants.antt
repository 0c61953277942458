use Rattle.std.proofs.Common.{◌≡◌, None, replicate}
use Rattle.tact_io.proofs.memory_shelf.Places.new.Given as goal

abbrev pub invariant-loop-replica : goal.invariant-loop-replica
invariant-loop-replica g l = l.journals.items ≡ replicate l._replica None
