use Rattle.tact_base.specs.Sums.{above_zero, below_zero}
use Rattle.split_budget.proofs.Parts.{sum-fits}
use Rattle.split_budget.proofs.missed.Missed.add.Goals as goal

pub add_each-requires-clause-room : goal.add_each-requires-clause-room
add_each-requires-clause-room c = λ conit.
    let on = rw (← c.self.view_is) at c.requires.conits in
    let plus = rw (← c.self.view_is) at (c.requires.plus conit) in
    sum-fits above_zero conit c.self.inside.plus.items c.args.weights.now on plus

pub add_each-requires-2-clause-room : goal.add_each-requires-2-clause-room
add_each-requires-2-clause-room c = λ conit.
    let on = rw (← c.self.view_is) at c.requires.conits in
    let minus = rw (← c.self.view_is) at (c.requires.minus conit) in
    sum-fits below_zero conit c.self.inside.minus.items c.args.weights.now (rw c.self.invariant on) (rw c.self.invariant minus)
