use Rattle.std.proofs.Common.{◌+◌, ◌<◌, ◌∷◌, ◌++◌, refl, sym, subst, arith}
use Rattle.tact_base.proofs.ConitListLemmas.{IsWeights}
use Rattle.tact_base.specs.declared.limits.TheConstants.{SUMMED_WRITES}
use Rattle.conit_sums.proofs.SumLemmas.{write_sum-le, AreSumsOf-added}
use Rattle.conit_sums.specs.declared.Summed.{Summed}
use Rattle.conit_sums.specs.declared.Summed.TheVariants.{Plus, Minus, Order}
use Rattle.conit_sums.specs.ConitSums.{AreSumsOf}
use Rattle.conit_weights.specs.Running.{RunningState, held_of, seen_of}
use Rattle.conit_weights.proofs.running.Running.add.Goals as goal

pub add_each-requires-clause-room : goal.add_each-requires-clause-room
add_each-requires-clause-room c = λ summed conit.
    let kept : IsWeights c.items.result.now = rw c.items.ensures.items c.items.ensures.kept in
    let small = c.self.invariant summed in
    omega (arith, small.few, small.small conit, write_sum-le summed c.items.result.now conit kept)

pub invariant_of-self : goal.invariant_of-self
invariant_of-self c = λ summed.
    let kept : IsWeights c.items.result.now = rw c.items.ensures.items c.items.ensures.kept in
    let few : c.self.inside.held < SUMMED_WRITES = subst (λ (s : RunningState). held_of s < SUMMED_WRITES) (sym c.self.view_is) c.requires.few in
    let small = c.self.invariant summed in
    record {
      few = omega (arith, few);
      small = λ conit. omega (arith, small.small conit, c.add_each.ensures.sums summed conit, write_sum-le summed c.items.result.now conit kept);
    }

pub returns-clause-added : goal.returns-clause-added
returns-clause-added c = λ front rest.
    let kept : IsWeights c.args.weights.now = c.items.ensures.kept in
    let old = c.self.inside.sums.items in
    let new = c.add_each.new.sums.items in
    let held = c.self.inside.held in
    let one : (summed : Summed) → AreSumsOf (seen_of summed old held) (front ++ rest) → AreSumsOf (seen_of summed new (held + 1)) (front ++ c.args.weights.now ∷ rest) =
    λ summed. AreSumsOf-added (seen_of summed old held) (seen_of summed new (held + 1)) front rest c.args.weights.now refl refl
    (λ conit. rw (← c.items.ensures.items) (c.add_each.ensures.sums summed conit))
    (λ conit. write_sum-le summed c.args.weights.now conit kept) in
    rw (← c.self.view_is) (λ of. record { plus = one Plus of.plus; minus = one Minus of.minus; order = one Order of.order })
