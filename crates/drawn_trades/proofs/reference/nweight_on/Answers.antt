use Rattle.std.proofs.Common.{◌∙◌, pos, get_or, rules, w64, FitsSigned}
use Rattle.std.proofs.lemmas.Int.{to_z-of_z}
use Rattle.tact_base.specs.declared.conit_list.Weight.{Weight}
use Rattle.drawn_trades.proofs.SoldLemmas.{only_on}
use Rattle.drawn_trades.proofs.reference.nweight_on.Goals as goal

pub returns-then-weight-conit : goal.returns-then-weight-conit
returns-then-weight-conit c =
    let d : Weight = record { conit = 0; nweight = pos 0; oweight = 0 } in
    let l = c.loop-weight in
    let weight = get_or c.args.weights.now l.weight-index d in
    let fits : FitsSigned w64 weight.nweight = search rules in
    to_z-of_z w64 weight.nweight fits
    ∙ only_on c.args.conit c.args.weights.now l.weight-index d c.loop-weight-test.true l.invariant c.if-weight-conit.true c.requires
