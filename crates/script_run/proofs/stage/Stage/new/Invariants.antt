use Rattle.std.proofs.Common.{◌≡◌, [], replicate}
use Rattle.script_run.proofs.stage.Stage.new.Given as goal

abbrev pub invariant-loop-replica : goal.invariant-loop-replica
invariant-loop-replica l = l.sent.items ≡ replicate l._replica []
