use Rattle.std.proofs.Common.{arith}
use Rattle.tact_base.specs.Sums.{above_zero, below_zero}
use Rattle.split_budget.proofs.Parts.{part_on-sum}
use Rattle.split_budget.proofs.missed.Missed.take_off.Goals as goal

pub take_each-requires-clause-held : goal.take_each-requires-clause-held
take_each-requires-clause-held c = λ conit.
    let plus = rw (← c.self.view_is) at (c.requires.plus conit) in
    omega (arith, plus, part_on-sum above_zero conit c.args.writes.now)

pub take_each-requires-2-clause-held : goal.take_each-requires-2-clause-held
take_each-requires-2-clause-held c = λ conit.
    let minus = rw (← c.self.view_is) at (c.requires.minus conit) in
    omega (arith, minus, part_on-sum below_zero conit c.args.writes.now)

pub returns-clause-plus : goal.returns-clause-plus
returns-clause-plus c = λ conit.
    rw (← c.self.view_is) (omega (arith, c.take_each.ensures.sums conit, part_on-sum above_zero conit c.args.writes.now))

pub returns-clause-minus : goal.returns-clause-minus
returns-clause-minus c = λ conit.
    rw (← c.self.view_is) (omega (arith, c.take_each-2.ensures.sums conit, part_on-sum below_zero conit c.args.writes.now))
