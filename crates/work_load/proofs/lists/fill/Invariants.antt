use Rattle.std.proofs.Common.{◌≡◌, ◌<◌, true, length, take, map}
use Rattle.serde_json.specs.View.{view}
use Rattle.work_load.proofs.Filling.{Filled}
use Rattle.work_load.proofs.lists.fill.Given as goal

abbrev pub invariant-loop-place : goal.invariant-loop-place
invariant-loop-place g l =
    Filled (g.T.Row.read l.conits) (λ item. (g.T.OnConit.in_limits item ≡ true) × (g.T.OnConit.conit_of item < l.conits)) (map view (take l.place l.values)) (take l.place l.items) l.fault
    × (length l.items ≡ length l.initial.items)
