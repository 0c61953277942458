use Rattle.std.proofs.Common.{◌≡◌, ◌≤◌, ◌*◌, take, sum_by}
use Rattle.tact_base.specs.Sums.{weights_on}
use Rattle.tact_base.specs.declared.limits.TheConstants.{WEIGHT_MAX}
use Rattle.tact_base.proofs.sums.sum_on.Given as goal

abbrev pub ghost-sum_of : goal.ghost-sum_of
ghost-sum_of g a = g.amount

abbrev pub invariant-loop-write : goal.invariant-loop-write
invariant-loop-write g l = record {
  so_far : l.sum ≡ sum_by g.amount (weights_on (take l.write-index l.writes) l.conit);
  small : l.sum ≤ l.write-index * WEIGHT_MAX;
}
