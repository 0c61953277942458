use Rattle.std.proofs.Common.{◌≡◌, length}
use Rattle.run_record.specs.Splitting.{tokens}
use Rattle.run_record.proofs.splitting.next_token.Given as goal

abbrev pub invariant-loop-rest : goal.invariant-loop-rest
invariant-loop-rest l = tokens l.rest ≡ tokens l.line

abbrev pub decreases-loop-rest : goal.decreases-loop-rest
decreases-loop-rest l = length l.rest
