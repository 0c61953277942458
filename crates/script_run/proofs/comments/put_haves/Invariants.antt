use Rattle.std.proofs.Common.{◌≡◌, ◌++◌, map, length, decimal}
use Rattle.std.specs.List.{range_with_len}
use Rattle.run_model.specs.Text.{spaced}
use Rattle.replica_core.specs.States.{log_at}
use Rattle.script_run.proofs.comments.put_haves.Given as goal

abbrev pub invariant-loop-origin : goal.invariant-loop-origin
invariant-loop-origin l = l.out ≡ l.initial.out ++ spaced (map (λ origin. decimal (length (log_at l.view.core origin))) (range_with_len 0 l.origin))
