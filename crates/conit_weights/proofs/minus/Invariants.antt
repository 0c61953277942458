use Rattle.tact_base.specs.Sums.{below_zero}
use Rattle.conit_weights.proofs.minus.Given as goal

abbrev pub ghost-sum_on : goal.ghost-sum_on
ghost-sum_on a = λ weight. below_zero weight.nweight
