use Rattle.std.proofs.Common.{take}
use Rattle.run_check.specs.Expanded.{expanded}
use Rattle.run_check.proofs.Going.{GoesTo}
use Rattle.run_check.proofs.check.check_record.Given as goal

abbrev pub ghost-judge : goal.ghost-judge
ghost-judge a = expanded a.self.now.set.setup (take a.place a.entries.now)

abbrev pub invariant-loop-place : goal.invariant-loop-place
invariant-loop-place l = GoesTo l.held l.place l.checker.set l.checker.sent
