use Rattle.std.proofs.Common.{◌≡◌, length, take, map}
use Rattle.tact_base.specs.declared.limits.TheConstants.{ALPHA_MAX}
use Rattle.serde_json.specs.View.{view}
use Rattle.work_load.specs.Values.{natural}
use Rattle.work_load.proofs.Filling.{Filled}
use Rattle.work_load.proofs.bounds.fill.Given as goal

abbrev pub invariant-loop-place : goal.invariant-loop-place
invariant-loop-place l =
    Filled (natural 0 ALPHA_MAX) (λ loan. Unit {0}) (map view (take l.place l.values)) (take l.place l.row) l.fault
    × (length l.row ≡ length l.initial.row)
