use Rattle.std.proofs.Common.{◌≡◌, ◌≤◌, ◌*◌, take, sum_by}
use Rattle.tact_base.specs.Sums.{on_conit}
use Rattle.tact_base.specs.declared.limits.TheConstants.{WEIGHT_MAX}
use Rattle.tact_base.proofs.sums.sum_of.Given as goal

abbrev pub invariant-loop-weight : goal.invariant-loop-weight
invariant-loop-weight g l = record {
  so_far : l.sum ≡ sum_by g.amount (on_conit l.conit (take l.weight-index l.weight-items));
  small : l.sum ≤ l.weight-index * WEIGHT_MAX;
}
