use Rattle.std.proofs.Common.{true, ◌≡◌, ◌∷◌, [], ◌++◌, ◌∙◌, List, sym, ap₂, add-one, pos, get_or, arith, refl}
use Rattle.std.proofs.Math.Seq.{take-suc}
use Rattle.std.proofs.lemmas.Bool.Decides.{nat_tests, Decides-int_eq}
use Rattle.std.proofs.lemmas.Grind.{common_steps}
use Rattle.std.proofs.lemmas.List.{take_all}
use Rattle.tact_base.specs.contracts.conit_list.WeightPartialEq.TheImpl.{eq-value as weight-eq}
use Rattle.tact_base.specs.declared.conit_list.Weight.{Weight}
use Rattle.run_check.proofs.kept.are_same_weights.Goals as goal

-- weights that the test takes for the same are the same
same_weight : (one other : Weight) → weight-eq.it one other ≡ true → one ≡ other
same_weight one other agrees =
    let conit : one.conit ≡ other.conit = grind (arith, nat_tests) in
    let nweight : one.nweight ≡ other.nweight = (Decides-int_eq one.nweight other.nweight).0 (grind (arith, nat_tests)) in
    let oweight : one.oweight ≡ other.oweight = grind (arith, nat_tests) in
    λ i. record { conit = conit i; nweight = nweight i; oweight = oweight i }

pub loop-place-init : goal.loop-place-init
loop-place-init c = refl

pub loop-place-preserved : goal.loop-place-preserved
loop-place-preserved c =
    let blank : Weight = record { conit = 0; nweight = pos 0; oweight = 0 } in
    let ones = c.args.ones.now in
    let others = c.args.others.now in
    let place = c.loop-place.place in
    let here : get_or ones place blank ≡ get_or others place blank = same_weight _ _ (grind (arith, common_steps)) in
    rw add-one
    (take-suc ones place blank (omega arith)
    ∙ ap₂ (λ (front : List Weight) (w : Weight). front ++ w ∷ []) c.loop-place.invariant here
    ∙ sym (take-suc others place blank (omega arith)))

pub returns : goal.returns
returns c = λ yes.
    sym (take_all c.loop-place.place c.args.ones.now (omega arith))
    ∙ c.loop-place.invariant
    ∙ take_all c.loop-place.place c.args.others.now (omega arith)
