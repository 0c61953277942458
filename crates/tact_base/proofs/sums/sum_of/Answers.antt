use Rattle.std.proofs.Common.{◌≡◌, get_or, take, sum_by, pos, arith, refl}
use Rattle.std.proofs.lemmas.Fn.{says_at}
use Rattle.tact_base.specs.declared.conit_list.Weight.{Weight}
use Rattle.tact_base.specs.declared.limits.TheConstants.{WEIGHT_MAX}
use Rattle.tact_base.proofs.SumsLemmas.{sum_on_conit-yes, sum_on_conit-no, sum_on_conit-le}
use Rattle.tact_base.specs.Sums.{on_conit}
use Rattle.std.proofs.lemmas.List.{take_all}
use Rattle.tact_base.proofs.ConitListLemmas.{IsConitList-limits, IsWeights, weight_in_limits}
use Rattle.tact_base.proofs.sums.sum_of.Goals as goal
use Rattle.tact_base.proofs.sums.sum_of.Goals.{then-weight-conit, else-weight-conit}

pub loop-weight-preserved : goal.loop-weight-preserved
loop-weight-preserved g c =
    let weights = c.items-weight-items.result.now in
    let i = c.loop-weight.weight-index in
    let d : Weight = record { conit = 0; nweight = pos 0; oweight = 0 } in
    let weight = get_or weights i d in
    elim c.if-weight-conit.branch [
      | then-weight-conit w ↦
          let given : w.number-sum.result ≡ g.amount weight = c.requires.1.1.0 weight w.number-sum.result (says_at g.F.Fn w.number-sum.ensures refl) in
          let kept : IsWeights weights = rw c.items-weight-items.ensures.items c.items-weight-items.ensures.kept in
          let small = c.requires.1.1.1 weight (IsConitList-limits _ weight_in_limits weights kept i d c.loop-weight-test.true) in
          record {
            so_far = omega (arith, sum_on_conit-yes g.amount c.args.conit weights i d c.loop-weight-test.true w.if-weight-conit.true);
            small = omega arith;
          }
      | else-weight-conit w ↦
          record {
            so_far = omega (arith, sum_on_conit-no g.amount c.args.conit weights i d c.loop-weight-test.true w.if-weight-conit.false);
            small = omega arith;
          }
    ]

pub returns-clause-bound : goal.returns-clause-bound
returns-clause-bound g c =
    let weights = c.items-weight-items.result.now in
    let kept : IsWeights weights = rw c.items-weight-items.ensures.items c.items-weight-items.ensures.kept in
    let all : take c.loop-weight.weight-index weights ≡ weights = take_all c.loop-weight.weight-index weights (omega arith) in
    let sum : c.loop-weight.sum ≡ sum_by g.amount (on_conit c.args.conit weights) = rw all at c.loop-weight.invariant.so_far in
    rw sum (sum_on_conit-le g.amount WEIGHT_MAX c.requires.1.1.1 c.args.conit weights kept)
