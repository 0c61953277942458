use Rattle.std.proofs.Common.{arith}
use Rattle.std.proofs.lemmas.Int.{ints}
use Rattle.conit_sums.specs.declared.Summed.TheVariants.{Plus, Minus}
use Rattle.conit_weights.proofs.running.Running.net.Goals as goal

pub returns : goal.returns
returns c = λ writes of. rw (← c.on-on.ensures.of writes of Plus, ← c.on-on.ensures.of writes of Minus) (omega (arith, ints, c.on-on.ensures.plus, c.on-on.ensures.minus))
