use Rattle.std.proofs.Common.{max, refl, ap, ◌∙◌}
use Rattle.split_budget.specs.Budgets.{setup_of}
use Rattle.split_budget.proofs.LoansKept.{KeepsBudgets-told}
use Rattle.split_budget.proofs.Places.{read_at_place}
use Rattle.split_budget.proofs.budgets.Budgets.note_lent.Goals as goal

pub invariant_of-self : goal.invariant_of-self
invariant_of-self c =
    let owner = rw (← c.self.view_is) at c.requires.owner in
    let conit = rw (← c.self.view_is) at c.requires.conit in
    let place = c.place_of-place.ensures in
    let read = read_at_place (setup_of c.self.inside.config) c.self.inside.lent_known.items c.args.owner c.args.conit c.place_of-place.result c.index.result.now
    c.self.invariant.keeps.lent_known owner.0 conit place c.index.ensures in
    let now = c.max.ensures ∙ ap (λ before. max before c.args.told) read in
    rw (now, place) (record {
      keeps = KeepsBudgets-told _ c.self.invariant.keeps c.args.owner c.args.conit c.args.told owner conit c.ranges.told.fits;
      replica =
          c.self.invariant.replica;
      conits = c.self.invariant.conits;
    })

pub returns-clause-kept : goal.returns-clause-kept
returns-clause-kept c =
    let owner = rw (← c.self.view_is) at c.requires.owner in
    let conit = rw (← c.self.view_is) at c.requires.conit in
    let place = c.place_of-place.ensures in
    let read = read_at_place (setup_of c.self.inside.config) c.self.inside.lent_known.items c.args.owner c.args.conit c.place_of-place.result c.index.result.now
    c.self.invariant.keeps.lent_known owner.0 conit place c.index.ensures in
    let now = c.max.ensures ∙ ap (λ before. max before c.args.told) read in
    rw (now, place) (KeepsBudgets-told _ c.self.invariant.keeps c.args.owner c.args.conit c.args.told owner conit c.ranges.told.fits)

pub returns-clause-noted : goal.returns-clause-noted
returns-clause-noted c =
    let owner = rw (← c.self.view_is) at c.requires.owner in
    let conit = rw (← c.self.view_is) at c.requires.conit in
    let place = c.place_of-place.ensures in
    let read = read_at_place (setup_of c.self.inside.config) c.self.inside.lent_known.items c.args.owner c.args.conit c.place_of-place.result c.index.result.now
    c.self.invariant.keeps.lent_known owner.0 conit place c.index.ensures in
    let now = c.max.ensures ∙ ap (λ before. max before c.args.told) read in
    rw (now, place, ← c.self.view_is) refl
