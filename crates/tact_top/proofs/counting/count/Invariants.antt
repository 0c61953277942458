use Rattle.std.proofs.Common.{◌≡◌, take}
use Rattle.tact_top.specs.DrillText.{count_of}
use Rattle.tact_top.proofs.counting.count.Given as goal

abbrev pub invariant-loop-entry : goal.invariant-loop-entry
invariant-loop-entry g l = l.count ≡ count_of g.K.Kind.kind (take l.entry-index l.history)
