use Rattle.std.proofs.Common.{◌<◌, length, get_or, ◌∙◌, arith}
use Rattle.std.proofs.lemmas.List.{length-set}
use Rattle.conit_sums.proofs.SumLemmas.{no_weight}
use Rattle.conit_sums.specs.declared.Summed.{Summed}
use Rattle.conit_sums.specs.declared.Summed.TheVariants.{Plus, Minus, Order}
use Rattle.conit_weights.proofs.PartLemmas.{enough_of, one_removed}
use Rattle.conit_weights.proofs.running.remove_each.Goals as goal

pub without_weight-requires-clause-plus : goal.without_weight-requires-clause-plus
without_weight-requires-clause-plus c =
    let i = c.loop-weight.weight-index in
    let within = c.loop-weight-test.true in
    let held : (get_or c.args.weights.now i no_weight).conit < length c.loop-weight.sums.items = omega (arith, c.loop-weight.invariant.conits, c.requires.conits i no_weight within) in
    enough_of c.args.weights.now i within c.loop-weight.sums.items c.args.sums.now.items c.index.result.now held c.index.ensures Plus (c.loop-weight.invariant.sums Plus) (c.requires.held Plus)

pub without_weight-requires-clause-minus : goal.without_weight-requires-clause-minus
without_weight-requires-clause-minus c =
    let i = c.loop-weight.weight-index in
    let within = c.loop-weight-test.true in
    let held : (get_or c.args.weights.now i no_weight).conit < length c.loop-weight.sums.items = omega (arith, c.loop-weight.invariant.conits, c.requires.conits i no_weight within) in
    enough_of c.args.weights.now i within c.loop-weight.sums.items c.args.sums.now.items c.index.result.now held c.index.ensures Minus (c.loop-weight.invariant.sums Minus) (c.requires.held Minus)

pub without_weight-requires-clause-order : goal.without_weight-requires-clause-order
without_weight-requires-clause-order c =
    let i = c.loop-weight.weight-index in
    let within = c.loop-weight-test.true in
    let held : (get_or c.args.weights.now i no_weight).conit < length c.loop-weight.sums.items = omega (arith, c.loop-weight.invariant.conits, c.requires.conits i no_weight within) in
    enough_of c.args.weights.now i within c.loop-weight.sums.items c.args.sums.now.items c.index.result.now held c.index.ensures Order (c.loop-weight.invariant.sums Order) (c.requires.held Order)

pub loop-weight-preserved : goal.loop-weight-preserved
loop-weight-preserved c =
    let i = c.loop-weight.weight-index in
    let within = c.loop-weight-test.true in
    let sums = c.loop-weight.sums.items in
    let conit = (get_or c.args.weights.now i no_weight).conit in
    let held : conit < length sums = omega (arith, c.loop-weight.invariant.conits, c.requires.conits i no_weight within) in
    let after = c.without_weight.ensures in
    record {
      conits = length-set sums conit c.without_weight.result ∙ c.loop-weight.invariant.conits;
      sums = λ (summed : Summed) at.
          one_removed c.args.weights.now i within sums c.args.sums.now.items c.index.result.now held c.index.ensures summed c.without_weight.result at
          after.plus after.minus after.order (c.loop-weight.invariant.sums summed) (c.requires.held summed);
    }
