use Rattle.conit_weights.proofs.order.Given as goal

abbrev pub ghost-sum_on : goal.ghost-sum_on
ghost-sum_on a = λ weight. weight.oweight
