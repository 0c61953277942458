use Rattle.std.proofs.Common.{refl, arith}
use Rattle.split_budget.specs.Budgets.{setup_of}
use Rattle.split_budget.proofs.LoansKept.{KeepsBudgets-lent}
use Rattle.split_budget.proofs.Places.{read_at_place}
use Rattle.split_budget.proofs.budgets.Budgets.lend.Goals as goal

pub invariant_of-self : goal.invariant_of-self
invariant_of-self c =
    let holder = rw (← c.self.view_is) at c.requires.holder in
    let conit = rw (← c.self.view_is) at c.requires.conit in
    let home = rw (← c.self.view_is) at c.requires.home in
    let limit = rw (← c.self.view_is) at c.requires.limit in
    let place = c.place_of-place.ensures in
    let read = read_at_place (setup_of c.self.inside.config) c.self.inside.lent.items c.args.holder c.args.conit c.place_of-place.result c.index_mut.result.now
    c.self.invariant.keeps.lent holder.0 conit place c.index_mut.ensures.value in
    rw (read, place) (record {
      keeps = KeepsBudgets-lent _ c.self.invariant.keeps c.args.holder c.args.conit c.args.amount holder conit home limit;
      replica =
          c.self.invariant.replica;
      conits = c.self.invariant.conits;
    })

pub overflow_add-index_mut : goal.overflow_add-index_mut
overflow_add-index_mut c =
    let holder = rw (← c.self.view_is) at c.requires.holder in
    let conit = rw (← c.self.view_is) at c.requires.conit in
    let place = c.place_of-place.ensures in
    let limit = rw (← c.self.view_is) at c.requires.limit in
    let read = read_at_place (setup_of c.self.inside.config) c.self.inside.lent.items c.args.holder c.args.conit c.place_of-place.result c.index_mut.result.now
    c.self.invariant.keeps.lent holder.0 conit place c.index_mut.ensures.value in
    rw read (omega (arith, limit))

pub returns : goal.returns
returns c =
    let holder = rw (← c.self.view_is) at c.requires.holder in
    let conit = rw (← c.self.view_is) at c.requires.conit in
    let place = c.place_of-place.ensures in
    let read = read_at_place (setup_of c.self.inside.config) c.self.inside.lent.items c.args.holder c.args.conit c.place_of-place.result c.index_mut.result.now
    c.self.invariant.keeps.lent holder.0 conit place c.index_mut.ensures.value in
    rw (read, place, ← c.self.view_is) refl
