use Rattle.std.proofs.Common.{◌∙◌, arith}
use Rattle.rollback_apply.proofs.layers.Layers.apply_to.Goals as goal

pub loop-at-preserved : goal.loop-at-preserved
loop-at-preserved c =
    let was = c.loop-at.invariant in
    let done = c.apply.ensures in
    record {
      above = omega (arith, was.above);
      within = omega (arith, c.loop-at-test.true, c.requires.within, done.count, was.count);
      settled = done.settled ∙ was.settled;
      applies = done.applies;
      ops = done.ops ∙ was.ops;
      count = done.count ∙ was.count;
      memory = λ more has. done.memory more (was.memory more has);
    }
