use Rattle.std.proofs.Common.{◌≡◌, ℕ, ◌+◌, ◌<◌, get_or}
use Rattle.std.specs.declared.cmp.Ordering.TheVariants.{Less}
use Rattle.tact_base.specs.WriteOrder.{write_cmp}
use Rattle.tact_base.specs.declared.write.Write.{Write}
use Rattle.replica_core.proofs.replica.admitting.are_in_order.Given as goal

abbrev pub invariant-loop-place : goal.invariant-loop-place
invariant-loop-place l = (k : ℕ) (d : Write) → k + 1 < l.place → write_cmp (get_or l.writes k d) (get_or l.writes (k + 1) d) ≡ Less
