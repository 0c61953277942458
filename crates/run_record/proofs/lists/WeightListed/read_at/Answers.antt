use Rattle.std.proofs.Common.{arith}
use Rattle.run_record.proofs.ItemLemmas.{weight_of-limits}
use Rattle.run_record.proofs.FrontLemmas.{weight_at-next}
use Rattle.run_record.proofs.lists.WeightListed.read_at.Goals as goal

pub returns-in-Some-clause-within : goal.returns-in-Some-clause-within
returns-in-Some-clause-within c =
    let next = c.in-Some.ensures in
    let good = weight_of-limits c.args.conits c.requires next.token c.in-Some.weight next.says in
    omega (arith, good.0, c.ranges.conits)

pub returns-in-Some-clause-exact : goal.returns-in-Some-clause-exact
returns-in-Some-clause-exact c =
    weight_at-next c.args.conits c.args.least c.args.rest.now c.in-Some.after.now c.in-Some.weight c.in-Some.ensures c.if-weight-least.true
