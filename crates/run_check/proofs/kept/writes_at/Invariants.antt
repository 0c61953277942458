use Rattle.std.proofs.Common.{◌≡◌, take}
use Rattle.std.specs.List.{flat_map}
use Rattle.run_check.specs.Keeping.{writes_of}
use Rattle.run_check.proofs.kept.writes_at.Given as goal

abbrev pub invariant-loop-span : goal.invariant-loop-span
invariant-loop-span l = l.writes ≡ flat_map (writes_of l.written) (take l.span-index l.spans)
