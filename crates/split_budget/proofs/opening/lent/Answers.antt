use Rattle.std.proofs.Common.{arith}
use Rattle.tact_base.proofs.SetupLemmas.{HasCounts-from_IsSetup, places_are_few}
use Rattle.split_budget.specs.Budgets.{setup_of}
use Rattle.split_budget.proofs.opening.lent.Goals as goal

pub overflow_mul-config : goal.overflow_mul-config
overflow_mul-config c =
    let s = setup_of c.args.config.now in
    omega (arith, places_are_few s (HasCounts-from_IsSetup s c.requires.setup))
