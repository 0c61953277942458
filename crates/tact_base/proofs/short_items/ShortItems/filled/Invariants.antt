use Rattle.std.proofs.Common.{◌≡◌, replicate}
use Rattle.tact_base.proofs.short_items.ShortItems.filled.Given as goal

abbrev pub invariant-loop-place : goal.invariant-loop-place
invariant-loop-place g l = l.list ≡ replicate l._place l.item
