use Rattle.std.proofs.Common.{arith}
use Rattle.replica_network.proofs.network.next_moment.Goals as goal

pub returns : goal.returns
returns c = λ history stands.
    let here = stands.parts c.args.replica c.at.result.now.core c.at.ensures in
    omega (arith, c.max.ensures, c.last.ensures, here.counts.last)
