use Rattle.session_guard.proofs.PassLemmas.{AreRaised}
use Rattle.session_guard.proofs.pass.raise_each.Given as goal

abbrev pub invariant-loop-place : goal.invariant-loop-place
invariant-loop-place l = AreRaised l.haves l.fn.numbers l.numbers l.place
