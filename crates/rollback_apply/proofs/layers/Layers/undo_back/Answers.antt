use Rattle.std.proofs.Common.{◌≡◌, ◌+◌, ◌-◌, ◌∙◌, ap, vec_len, arith}
use Rattle.rollback_apply.proofs.layers.Layers.undo_back.Goals as goal

pub loop-at-preserved : goal.loop-at-preserved
loop-at-preserved c =
    let l = c.loop-at in
    let was = l.invariant in
    let done = c.undo.ensures in
    let before : l.at - 1 + 1 ≡ l.at = omega (arith, c.loop-at-test.true) in
    record {
      above = omega (arith, was.above);
      within = omega (arith, was.within, ap vec_len done.tentative);
      settled = done.settled ∙ was.settled;
      tentative = done.tentative ∙ was.tentative;
      applies = done.applies;
      memory = λ more has. done.memory more (rw before (was.memory more has));
    }
