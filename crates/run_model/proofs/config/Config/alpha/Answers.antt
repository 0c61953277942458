use Rattle.std.proofs.Common.{refl, arith}
use Rattle.tact_base.specs.Setup.{setup}
use Rattle.tact_base.proofs.SetupLemmas.{HasCounts-from_IsSetup, place_in, places_are_few, HasRow-from_IsSetup}
use Rattle.run_model.proofs.config.Config.alpha.Goals as goal

pub bounds-items-place : goal.bounds-items-place
bounds-items-place c =
    let s = setup c.self.inside.replicas c.self.inside.conits c.self.inside.alphas c.self.inside.loans in
    let o = rw (← c.self.view_is) at c.requires.owner_in in
    let k = rw (← c.self.view_is) at c.requires.conit_in in
    let h = HasCounts-from_IsSetup s c.self.invariant in
    rw c.items.ensures (omega (arith, place_in s c.args.owner c.args.conit o k, h.alphas))

pub offset_bounds-items-place : goal.offset_bounds-items-place
offset_bounds-items-place c =
    let s = setup c.self.inside.replicas c.self.inside.conits c.self.inside.alphas c.self.inside.loans in
    let o = rw (← c.self.view_is) at c.requires.owner_in in
    let k = rw (← c.self.view_is) at c.requires.conit_in in
    let h = HasCounts-from_IsSetup s c.self.invariant in
    omega (arith, place_in s c.args.owner c.args.conit o k, places_are_few s h)

pub returns-clause-limit : goal.returns-clause-limit
returns-clause-limit c =
    let s = setup c.self.inside.replicas c.self.inside.conits c.self.inside.alphas c.self.inside.loans in
    let o = rw (← c.self.view_is) at c.requires.owner_in in
    let k = rw (← c.self.view_is) at c.requires.conit_in in
    rw c.items.ensures (HasRow-from_IsSetup s c.self.invariant c.args.owner c.args.conit o k).alpha

pub overflow_mul-place : goal.overflow_mul-place
overflow_mul-place c =
    let s = setup c.self.inside.replicas c.self.inside.conits c.self.inside.alphas c.self.inside.loans in
    let o = rw (← c.self.view_is) at c.requires.owner_in in
    let k = rw (← c.self.view_is) at c.requires.conit_in in
    let h = HasCounts-from_IsSetup s c.self.invariant in
    omega (arith, place_in s c.args.owner c.args.conit o k, places_are_few s h)

pub overflow_add-place : goal.overflow_add-place
overflow_add-place c =
    let s = setup c.self.inside.replicas c.self.inside.conits c.self.inside.alphas c.self.inside.loans in
    let o = rw (← c.self.view_is) at c.requires.owner_in in
    let k = rw (← c.self.view_is) at c.requires.conit_in in
    let h = HasCounts-from_IsSetup s c.self.invariant in
    omega (arith, place_in s c.args.owner c.args.conit o k, places_are_few s h)

pub returns-clause-alpha : goal.returns-clause-alpha
returns-clause-alpha c = rw (c.items.ensures, ← c.self.view_is) refl
