use Rattle.std.proofs.Common.{length}
use Rattle.run_check.proofs.Spans.{AreSpansUpTo}
use Rattle.run_check.proofs.kept.spans_of.Given as goal

abbrev pub invariant-loop-rest : goal.invariant-loop-rest
invariant-loop-rest l = AreSpansUpTo l.fn.written.items l.written.items l.spans l.rest l.writes

abbrev pub decreases-loop-rest : goal.decreases-loop-rest
decreases-loop-rest l = length l.rest
