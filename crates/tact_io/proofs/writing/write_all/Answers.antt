use Rattle.std.proofs.Common.{arith, rules}
use Rattle.tact_io.proofs.SinkLemmas.{gains_next}
use Rattle.tact_io.proofs.writing.write_all.Goals as goal

pub loop-done-preserved : goal.loop-done-preserved
loop-done-preserved g c = record {
  gained = gains_next _ _ _ _ _ _ c.loop-done.invariant.gained c.in_ok-done.ensures.gains;
  within = search rules;
  counted = omega (arith, c.loop-done.invariant.counted, c.in_ok-done.ensures.never_falls);
}
