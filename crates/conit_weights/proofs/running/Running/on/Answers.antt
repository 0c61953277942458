use Rattle.std.proofs.Common.{◌<◌, length, sym, ap, ◌∙◌, subst, arith}
use Rattle.std.proofs.lemmas.List.{length-map}
use Rattle.conit_sums.specs.declared.Summed.TheVariants.{Plus, Minus}
use Rattle.conit_weights.specs.Running.{RunningState, HoldsAll, conits_of, part_of}
use Rattle.conit_weights.proofs.PartLemmas.{each_of, read_part}
use Rattle.conit_weights.proofs.running.Running.on.Goals as goal

pub returns-clause-plus : goal.returns-clause-plus
returns-clause-plus c =
    let sums = c.self.inside.sums.items in
    let held : c.args.conit < length sums = omega (arith, length-map sums (part_of Plus), ap conits_of c.self.view_is, c.requires) in
    let small = c.self.invariant Plus in
    omega (arith, read_part Plus sums c.args.conit c.index.result.now held c.index.ensures, small.small c.args.conit, small.few)

pub returns-clause-minus : goal.returns-clause-minus
returns-clause-minus c =
    let sums = c.self.inside.sums.items in
    let held : c.args.conit < length sums = omega (arith, length-map sums (part_of Plus), ap conits_of c.self.view_is, c.requires) in
    let small = c.self.invariant Minus in
    omega (arith, read_part Minus sums c.args.conit c.index.result.now held c.index.ensures, small.small c.args.conit, small.few)

pub returns-clause-of : goal.returns-clause-of
returns-clause-of c = λ writes of summed.
    let sums = c.self.inside.sums.items in
    let held : c.args.conit < length sums = omega (arith, length-map sums (part_of Plus), ap conits_of c.self.view_is, c.requires) in
    let all = each_of summed sums c.self.inside.held writes (subst (λ (s : RunningState). HoldsAll s writes) (sym c.self.view_is) of) in
    read_part summed sums c.args.conit c.index.result.now held c.index.ensures ∙ all.sums c.args.conit
