use Rattle.run_model.proofs.Agreement.{IsAgreed-run}
use Rattle.run_model.proofs.laws.runs_agree.Goals as goal

-- src/laws.rt:11:1
pub returns : goal.returns
returns c = IsAgreed-run
