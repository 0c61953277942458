use Rattle.std.proofs.Common.{◌-◌, ◌∷◌, ◌++◌, refl, sym, subst, arith}
use Rattle.conit_sums.proofs.SumLemmas.{sum_of-le, sum_of-one, AreSumsOf-removed}
use Rattle.conit_sums.specs.declared.Summed.{Summed}
use Rattle.conit_sums.specs.declared.Summed.TheVariants.{Plus, Minus, Order}
use Rattle.conit_sums.specs.ConitSums.{AreSumsOf}
use Rattle.conit_weights.specs.Running.{RunningState, HoldsAll, seen_of}
use Rattle.conit_weights.proofs.PartLemmas.{each_of}
use Rattle.conit_weights.proofs.running.Running.remove.Goals as goal

pub remove_each-requires-clause-held : goal.remove_each-requires-clause-held
remove_each-requires-clause-held c = λ summed conit.
    let front = c.requires.held.front in
    let rest = c.requires.held.rest in
    let all = subst (λ (s : RunningState). HoldsAll s (front ++ c.args.weights.now ∷ rest)) (sym c.self.view_is) c.requires.held.sums in
    let of = each_of summed c.self.inside.sums.items c.self.inside.held (front ++ c.args.weights.now ∷ rest) all in
    rw c.items.ensures.items (omega (arith, of.sums conit, sum_of-one summed front rest c.args.weights.now conit))

pub invariant_of-self : goal.invariant_of-self
invariant_of-self c = λ summed.
    let front = c.requires.held.front in
    let rest = c.requires.held.rest in
    let old = c.self.inside.sums.items in
    let new = c.remove_each.new.sums.items in
    let held = c.self.inside.held in
    let all = subst (λ (s : RunningState). HoldsAll s (front ++ c.args.weights.now ∷ rest)) (sym c.self.view_is) c.requires.held.sums in
    let of = each_of summed old held (front ++ c.args.weights.now ∷ rest) all in
    let after = AreSumsOf-removed (seen_of summed old held) (seen_of summed new (held - 1)) front rest c.args.weights.now refl refl
    (λ conit. rw (← c.items.ensures.items) (c.remove_each.ensures.sums summed conit)) of in
    let small = c.self.invariant summed in
    record {
      few = omega (arith, small.few);
      small = λ conit. omega (arith, after.held, after.sums conit, sum_of-le summed (front ++ rest) conit after.small);
    }

pub returns-clause-removed : goal.returns-clause-removed
returns-clause-removed c = λ front rest.
    let old = c.self.inside.sums.items in
    let new = c.remove_each.new.sums.items in
    let held = c.self.inside.held in
    let one : (summed : Summed) → AreSumsOf (seen_of summed old held) (front ++ c.args.weights.now ∷ rest) → AreSumsOf (seen_of summed new (held - 1)) (front ++ rest) =
    λ summed. AreSumsOf-removed (seen_of summed old held) (seen_of summed new (held - 1)) front rest c.args.weights.now refl refl
    (λ conit. rw (← c.items.ensures.items) (c.remove_each.ensures.sums summed conit)) in
    rw (← c.self.view_is) (λ of. record { plus = one Plus of.plus; minus = one Minus of.minus; order = one Order of.order })
