use Rattle.std.proofs.Common.{refl}
use Rattle.split_budget.specs.Budgets.{setup_of}
use Rattle.split_budget.proofs.Places.{read_at_place}
use Rattle.split_budget.proofs.budgets.Budgets.share.Goals as goal

pub overflow_sub-result : goal.overflow_sub-result
overflow_sub-result c =
    let owner = rw (← c.self.view_is) at c.requires.owner in
    let conit = rw (← c.self.view_is) at c.requires.conit in
    let place = c.place_of-place.ensures in
    let more = read_at_place (setup_of c.self.inside.config) c.self.inside.lent_known.items c.args.owner c.args.conit c.place_of-place.result c.index.result.now
    c.self.invariant.keeps.lent_known owner.0 conit place c.index.ensures in
    let less = read_at_place (setup_of c.self.inside.config) c.self.inside.returned.items c.args.owner c.args.conit c.place_of-place.result c.index-2.result.now
    c.self.invariant.keeps.returned owner.0 conit place c.index-2.ensures in
    rw (more, less) (c.self.invariant.keeps.peers c.args.owner c.args.conit owner conit).returned

pub returns-clause-share : goal.returns-clause-share
returns-clause-share c =
    let owner = rw (← c.self.view_is) at c.requires.owner in
    let conit = rw (← c.self.view_is) at c.requires.conit in
    let place = c.place_of-place.ensures in
    let more = read_at_place (setup_of c.self.inside.config) c.self.inside.lent_known.items c.args.owner c.args.conit c.place_of-place.result c.index.result.now
    c.self.invariant.keeps.lent_known owner.0 conit place c.index.ensures in
    let less = read_at_place (setup_of c.self.inside.config) c.self.inside.returned.items c.args.owner c.args.conit c.place_of-place.result c.index-2.result.now
    c.self.invariant.keeps.returned owner.0 conit place c.index-2.ensures in
    rw (more, less, ← c.self.view_is) refl
