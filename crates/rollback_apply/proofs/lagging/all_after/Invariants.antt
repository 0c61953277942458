use Rattle.std.proofs.Common.{◌≡◌, take, length}
use Rattle.rollback_apply.specs.Current.{holds}
use Rattle.rollback_apply.specs.Lagging.{afters_of}
use Rattle.rollback_apply.specs.Layers.{ops_in}
use Rattle.rollback_apply.specs.declared.lagging.TheConstants.{LAG}
use Rattle.rollback_apply.proofs.lagging.all_after.Given as goal

abbrev pub invariant-loop-at : goal.invariant-loop-at
invariant-loop-at l = record {
  places : length l.after ≡ LAG;
  told : take l.at l.after ≡ afters_of (holds l.current) (ops_in (take l.at l.late));
}
