use Rattle.std.proofs.Common.{◌≡◌, get_or, arith}
use Rattle.std.proofs.lemmas.List.{get_or_read}
use Rattle.split_budget.proofs.AmountsKept.{held-fits, KeepsBudgets-held}
use Rattle.split_budget.proofs.budgets.Budgets.hold.Goals as goal
use Rattle.split_budget.proofs.budgets.Budgets.hold.Goals.{After-index_mut}

-- what was reserved
read : (c : After-index_mut)
    → c.index_mut.result.now ≡ get_or c.self.inside.reserved.items c.args.conit 0
read c =
    let conit = rw (← c.self.view_is) at c.requires.conit in
    get_or_read c.self.inside.reserved.items c.args.conit c.index_mut.result.now (rw c.self.invariant.keeps.reserved conit) c.index_mut.ensures.value 0

pub overflow_add-index_mut : goal.overflow_add-index_mut
overflow_add-index_mut c =
    let conit = rw (← c.self.view_is) at c.requires.conit in
    let fits = rw (← c.self.view_is) at c.requires.fits in
    omega (arith, read (goal.at.overflow_add-index_mut c).After-index_mut, held-fits _ c.self.invariant.keeps c.args.conit c.args.amount conit fits)

pub invariant_of-self : goal.invariant_of-self
invariant_of-self c =
    let conit = rw (← c.self.view_is) at c.requires.conit in
    let fits = rw (← c.self.view_is) at c.requires.fits in
    rw (read (goal.at.invariant_of-self c).After-index_mut)
    (record { keeps = KeepsBudgets-held _ c.self.invariant.keeps c.args.conit c.args.amount conit fits; replica = c.self.invariant.replica; conits = c.self.invariant.conits })
