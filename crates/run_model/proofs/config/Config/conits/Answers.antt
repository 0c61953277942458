use Rattle.tact_base.proofs.SetupLemmas.{HasCounts-from_IsSetup}
use Rattle.run_model.proofs.config.Config.conits.Goals as goal

pub returns-clause-low : goal.returns-clause-low
returns-clause-low c = (HasCounts-from_IsSetup _ c.self.invariant).conits_low

pub returns-clause-high : goal.returns-clause-high
returns-clause-high c = (HasCounts-from_IsSetup _ c.self.invariant).conits_high
