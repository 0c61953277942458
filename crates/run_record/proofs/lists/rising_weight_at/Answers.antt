use Rattle.std.proofs.Common.{arith}
use Rattle.run_record.proofs.ItemLemmas.{weight_of-limits}
use Rattle.run_record.proofs.lists.rising_weight_at.Goals as goal

pub returns-clause-within : goal.returns-clause-within
returns-clause-within c =
    let good = weight_of-limits c.args.conits c.requires c.in_ok-token.token.now c.in_ok-weight.weight c.in_ok-weight.ensures in
    omega (arith, good.0, c.ranges.conits)
