use Rattle.std.proofs.Common.{rules}
use Rattle.run_model.proofs.OriginWrites.{iff_trans}
use Rattle.run_model.proofs.WeightsInRange.{AreWeightsInRange-kept}
use Rattle.run_model.proofs.ranges.are_weights_in_range.Goals as goal

pub returns : goal.returns
returns c =
    iff_trans (search rules)
    (AreWeightsInRange-kept c.args.config.now c.args.weights.now c.items.ensures.kept)
