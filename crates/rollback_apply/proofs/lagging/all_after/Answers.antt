use Rattle.std.proofs.Common.{◌<◌, length, take, length-set, sym, ◌∙◌, arith}
use Rattle.std.proofs.lemmas.List.{take_more_set}
use Rattle.tact_base.specs.Images.{image_from}
use Rattle.rollback_apply.specs.Current.{holds}
use Rattle.rollback_apply.specs.Layers.{ops_in}
use Rattle.rollback_apply.proofs.LateLemmas.{tells-more}
use Rattle.rollback_apply.proofs.lagging.all_after.Goals as goal

pub loop-at-preserved : goal.loop-at-preserved
loop-at-preserved c =
    let l = c.loop-at in
    let late = c.args.late.now in
    let base = holds c.args.current.now in
    let within : l.at < length late = omega (arith, c.loop-at-test.true) in
    let places : l.at < length l.after = omega (arith, within, l.invariant.places, c.requires.few) in
    record {
      places = length-set l.after l.at c.values_after.result ∙ l.invariant.places;
      told =
          take_more_set l.after l.at c.values_after.result places
          ∙ tells-more base late (take l.at l.after) l.at _ c.values_after.result within l.invariant.told
          (c.values_after.ensures (image_from base (ops_in (take l.at late))) (sym c.values_by.ensures));
    }
