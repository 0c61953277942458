use Rattle.std.proofs.Common.{◌≡◌, drop}
use Rattle.access_gate.specs.Verdicts.{refusals}
use Rattle.access_gate.proofs.gate.admit.Given as goal

abbrev pub invariant-loop-i : goal.invariant-loop-i
invariant-loop-i l = refusals l.moment (drop l.i l.need-items) (drop l.i l.facts) ≡ refusals l.moment l.need-items l.facts
