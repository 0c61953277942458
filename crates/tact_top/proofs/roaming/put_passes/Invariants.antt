use Rattle.std.proofs.Common.{◌≡◌, ◌++◌}
use Rattle.std.specs.List.{flat_map, range_with_len}
use Rattle.session_guard.specs.Roaming.{pass_at}
use Rattle.session_guard.specs.Roams.{roamed_by}
use Rattle.tact_top.specs.RoamText.{pass_text}
use Rattle.tact_top.proofs.roaming.put_passes.Given as goal

abbrev pub invariant-loop-number : goal.invariant-loop-number
invariant-loop-number l =
    l.out ≡ l.initial.out ++ flat_map (λ number. pass_text (pass_at (roamed_by l.roam).passes number) number) (range_with_len 0 l.number)
