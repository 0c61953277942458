use Rattle.std.proofs.Common.{refl}
use Rattle.split_budget.specs.Budgets.{setup_of}
use Rattle.split_budget.proofs.LoansKept.{KeepsBudgets-given}
use Rattle.split_budget.proofs.Places.{read_at_place}
use Rattle.split_budget.proofs.budgets.Budgets.give_back.Goals as goal

pub invariant_of-self : goal.invariant_of-self
invariant_of-self c =
    let owner = rw (← c.self.view_is) at c.requires.owner in
    let conit = rw (← c.self.view_is) at c.requires.conit in
    let free = rw (← c.self.view_is) at c.requires.free in
    let place = c.place_of-place.ensures in
    let read = read_at_place (setup_of c.self.inside.config) c.self.inside.returned.items c.args.owner c.args.conit c.place_of-place.result c.index_mut.result.now
    c.self.invariant.keeps.returned owner.0 conit place c.index_mut.ensures.value in
    rw (read, place) (record {
      keeps = KeepsBudgets-given _ c.self.invariant.keeps c.args.owner c.args.conit c.args.amount owner conit free;
      replica =
          c.self.invariant.replica;
      conits = c.self.invariant.conits;
    })

pub returns : goal.returns
returns c =
    let owner = rw (← c.self.view_is) at c.requires.owner in
    let conit = rw (← c.self.view_is) at c.requires.conit in
    let place = c.place_of-place.ensures in
    let read = read_at_place (setup_of c.self.inside.config) c.self.inside.returned.items c.args.owner c.args.conit c.place_of-place.result c.index_mut.result.now
    c.self.invariant.keeps.returned owner.0 conit place c.index_mut.ensures.value in
    rw (read, place, ← c.self.view_is) refl
