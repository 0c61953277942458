use Rattle.std.proofs.Common.{arith}
use Rattle.std.proofs.lemmas.Int.{ints}
use Rattle.tact_base.proofs.SumsLemmas.{net_sum-parts}
use Rattle.conit_weights.proofs.net.Goals as goal

pub returns : goal.returns
returns c =
    rw (net_sum-parts c.args.writes.now c.args.conit, ← c.plus.ensures.sum, ← c.minus.ensures.sum) (omega (arith, ints))
