use Rattle.std.proofs.Common.{◌-◌, ◌∷◌, ◌++◌, refl, sym, subst, arith}
use Rattle.conit_sums.specs.ConitSums.{SumsState, AreSumsOf}
use Rattle.conit_sums.proofs.SumLemmas.{sum_of-le, sum_of-one, AreSumsOf-removed}
use Rattle.conit_sums.proofs.ConitSums.remove.Goals as goal

pub remove_each-requires-clause-held : goal.remove_each-requires-clause-held
remove_each-requires-clause-held c = λ conit.
    let front = c.requires.held.front in
    let rest = c.requires.held.rest in
    let of = subst (λ (s : SumsState). AreSumsOf s (front ++ c.args.weights.now ∷ rest)) (sym c.self.view_is) c.requires.held.sums in
    rw c.items.ensures.items (omega (arith, of.sums conit, sum_of-one c.self.inside.summed front rest c.args.weights.now conit))

pub invariant_of-self : goal.invariant_of-self
invariant_of-self c =
    let front = c.requires.held.front in
    let rest = c.requires.held.rest in
    let state : SumsState = record { summed = c.self.inside.summed; sums = c.self.inside.sums.items; held = c.self.inside.held } in
    let new : SumsState = record { summed = c.self.inside.summed; sums = c.remove_each.new.sums.items; held = c.self.inside.held - 1 } in
    let of = subst (λ (s : SumsState). AreSumsOf s (front ++ c.args.weights.now ∷ rest)) (sym c.self.view_is) c.requires.held.sums in
    let after = AreSumsOf-removed state new front rest c.args.weights.now refl refl (λ conit. rw (← c.items.ensures.items) (c.remove_each.ensures.sums conit)) of in
    record {
      few = omega (arith, c.self.invariant.few);
      small = λ conit. omega (arith, after.held, after.sums conit, sum_of-le c.self.inside.summed (front ++ rest) conit after.small);
    }

pub returns-clause-removed : goal.returns-clause-removed
returns-clause-removed c = λ front rest.
    let state : SumsState = record { summed = c.self.inside.summed; sums = c.self.inside.sums.items; held = c.self.inside.held } in
    let new : SumsState = record { summed = c.self.inside.summed; sums = c.remove_each.new.sums.items; held = c.self.inside.held - 1 } in
    rw (← c.self.view_is) (
    AreSumsOf-removed state new front rest c.args.weights.now refl refl
    (λ conit. rw (← c.items.ensures.items) (c.remove_each.ensures.sums conit)))
