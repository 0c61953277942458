use Rattle.std.proofs.Common.{◌≡◌, [], take}
use Rattle.tact_base.specs.Sums.{on_conit}
use Rattle.drawn_trades.proofs.reference.nweight_on.Given as goal

abbrev pub invariant-loop-weight : goal.invariant-loop-weight
invariant-loop-weight l = on_conit l.conit (take l.weight-index l.weights) ≡ []
