use Rattle.std.proofs.Common.{◌+◌, ◌<◌, refl, sym, subst, arith}
use Rattle.tact_base.proofs.ConitListLemmas.{IsWeights}
use Rattle.tact_base.specs.declared.limits.TheConstants.{SUMMED_WRITES}
use Rattle.conit_sums.specs.ConitSums.{SumsState}
use Rattle.conit_sums.proofs.SumLemmas.{write_sum-le, AreSumsOf-added}
use Rattle.conit_sums.proofs.ConitSums.add.Goals as goal

pub add_each-requires-clause-room : goal.add_each-requires-clause-room
add_each-requires-clause-room c = λ conit.
    let kept : IsWeights c.items.result.now = rw c.items.ensures.items c.items.ensures.kept in
    omega (arith, c.self.invariant.few, c.self.invariant.small conit, write_sum-le c.self.inside.summed c.items.result.now conit kept)

pub invariant_of-self : goal.invariant_of-self
invariant_of-self c =
    let kept : IsWeights c.items.result.now = rw c.items.ensures.items c.items.ensures.kept in
    let few : c.self.inside.held < SUMMED_WRITES = subst (λ (s : SumsState). s.held < SUMMED_WRITES) (sym c.self.view_is) c.requires.few in
    record {
      few = omega arith;
      small = λ conit.
          omega (
            arith,
            c.self.invariant.small conit,
            c.add_each.ensures.sums conit,
            write_sum-le c.self.inside.summed c.items.result.now conit kept,
          );
    }

pub returns-clause-added : goal.returns-clause-added
returns-clause-added c = λ front rest.
    let kept : IsWeights c.args.weights.now = c.items.ensures.kept in
    let state : SumsState = record { summed = c.self.inside.summed; sums = c.self.inside.sums.items; held = c.self.inside.held } in
    let new : SumsState = record { summed = c.self.inside.summed; sums = c.add_each.new.sums.items; held = c.self.inside.held + 1 } in
    rw (← c.self.view_is) (
    AreSumsOf-added state new front rest c.args.weights.now refl refl
    (λ conit. rw (← c.items.ensures.items) (c.add_each.ensures.sums conit))
    (λ conit. write_sum-le c.self.inside.summed c.args.weights.now conit kept))
