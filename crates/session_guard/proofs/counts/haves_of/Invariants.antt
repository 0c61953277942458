use Rattle.session_guard.proofs.CountLemmas.{AreCounted}
use Rattle.session_guard.proofs.counts.haves_of.Given as goal

abbrev pub invariant-loop-origin : goal.invariant-loop-origin
invariant-loop-origin l = AreCounted l.replica.core l.haves l.origin
