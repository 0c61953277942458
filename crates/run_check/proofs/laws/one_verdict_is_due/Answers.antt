use Rattle.run_check.proofs.OneVerdict.{one_verdict}
use Rattle.run_check.proofs.laws.one_verdict_is_due.Goals as goal

pub returns : goal.returns
returns c = one_verdict
