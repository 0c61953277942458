use Rattle.tact_base.specs.Sums.{above_zero}
use Rattle.conit_weights.proofs.plus.Given as goal

abbrev pub ghost-sum_on : goal.ghost-sum_on
ghost-sum_on a = λ weight. above_zero weight.nweight
