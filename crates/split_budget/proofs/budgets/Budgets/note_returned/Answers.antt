use Rattle.std.proofs.Common.{max, refl, ap, ◌∙◌}
use Rattle.split_budget.specs.Budgets.{setup_of}
use Rattle.split_budget.proofs.LoansKept.{KeepsBudgets-returned}
use Rattle.split_budget.proofs.Places.{read_at_place}
use Rattle.split_budget.proofs.budgets.Budgets.note_returned.Goals as goal

pub invariant_of-self : goal.invariant_of-self
invariant_of-self c =
    let holder = rw (← c.self.view_is) at c.requires.holder in
    let conit = rw (← c.self.view_is) at c.requires.conit in
    let lent = rw (← c.self.view_is) at c.requires.lent in
    let place = c.place_of-place.ensures in
    let read = read_at_place (setup_of c.self.inside.config) c.self.inside.returned_known.items c.args.holder c.args.conit c.place_of-place.result c.index.result.now
    c.self.invariant.keeps.returned_known holder.0 conit place c.index.ensures in
    let now = c.max.ensures ∙ ap (λ before. max before c.args.told) read in
    rw (now, place) (record {
      keeps = KeepsBudgets-returned _ c.self.invariant.keeps c.args.holder c.args.conit c.args.told holder conit lent;
      replica =
          c.self.invariant.replica;
      conits = c.self.invariant.conits;
    })

pub returns-clause-kept : goal.returns-clause-kept
returns-clause-kept c =
    let holder = rw (← c.self.view_is) at c.requires.holder in
    let conit = rw (← c.self.view_is) at c.requires.conit in
    let lent = rw (← c.self.view_is) at c.requires.lent in
    let place = c.place_of-place.ensures in
    let read = read_at_place (setup_of c.self.inside.config) c.self.inside.returned_known.items c.args.holder c.args.conit c.place_of-place.result c.index.result.now
    c.self.invariant.keeps.returned_known holder.0 conit place c.index.ensures in
    let now = c.max.ensures ∙ ap (λ before. max before c.args.told) read in
    rw (now, place) (KeepsBudgets-returned _ c.self.invariant.keeps c.args.holder c.args.conit c.args.told holder conit lent)

pub returns-clause-noted : goal.returns-clause-noted
returns-clause-noted c =
    let holder = rw (← c.self.view_is) at c.requires.holder in
    let conit = rw (← c.self.view_is) at c.requires.conit in
    let place = c.place_of-place.ensures in
    let read = read_at_place (setup_of c.self.inside.config) c.self.inside.returned_known.items c.args.holder c.args.conit c.place_of-place.result c.index.result.now
    c.self.invariant.keeps.returned_known holder.0 conit place c.index.ensures in
    let now = c.max.ensures ∙ ap (λ before. max before c.args.told) read in
    rw (now, place, ← c.self.view_is) refl
