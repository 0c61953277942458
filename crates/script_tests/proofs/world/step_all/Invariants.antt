use Rattle.std.proofs.Common.{◌≡◌, false, take}
use Rattle.script_text.specs.Setups.{setup_of}
use Rattle.script_tests.proofs.world.step_all.Given as goal

abbrev pub invariant-loop-line : goal.invariant-loop-line
invariant-loop-line g l =
    (l.world.setup ≡ setup_of l.lines) × (l.world.lines ≡ take l.line-index l.lines) × (l.world.spent ≡ false)
