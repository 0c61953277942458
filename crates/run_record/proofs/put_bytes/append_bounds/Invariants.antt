use Rattle.std.proofs.Common.{◌≡◌, ◌++◌, take}
use Rattle.std.specs.List.{flat_map}
use Rattle.tact_base.specs.Setup.{owners_and_conits}
use Rattle.run_record.specs.RecordBytes.{bound_bytes}
use Rattle.run_record.proofs.put_bytes.append_bounds.Given as goal

abbrev pub invariant-loop-place : goal.invariant-loop-place
invariant-loop-place l =
    l.out ≡ l.initial.out ++ flat_map (bound_bytes l.config) (take l.place (owners_and_conits l.config))
