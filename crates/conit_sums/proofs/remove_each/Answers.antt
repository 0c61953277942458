use Rattle.std.proofs.Common.{◌<◌, ◌≤◌, ◌∙◌, get_or, length, arith}
use Rattle.std.proofs.lemmas.List.{length-set}
use Rattle.conit_sums.specs.ConitSums.{number_of}
use Rattle.conit_sums.proofs.SumLemmas.{no_weight, write_sum-next, read_at, removed-one}
use Rattle.conit_sums.proofs.remove_each.Goals as goal

pub overflow_sub-index_mut : goal.overflow_sub-index_mut
overflow_sub-index_mut c =
    let i = c.loop-weight.weight-index in
    let conit = (get_or c.args.weights.now i no_weight).conit in
    omega (
      arith,
      read_at c.loop-weight.sums.items conit c.index_mut.result.now (omega (arith, c.requires.conits i no_weight c.loop-weight-test.true)) c.index_mut.ensures.value,
      c.loop-weight.invariant.sums conit,
      c.requires.held conit,
      write_sum-next c.args.summed c.args.weights.now i no_weight c.loop-weight-test.true,
    )

pub loop-weight-preserved : goal.loop-weight-preserved
loop-weight-preserved c =
    let sums = c.loop-weight.sums.items in
    let weights = c.args.weights.now in
    let i = c.loop-weight.weight-index in
    let weight = get_or weights i no_weight in
    let within = c.loop-weight-test.true in
    let held : weight.conit < length sums = omega (arith, c.requires.conits i no_weight within) in
    let read = read_at sums weight.conit c.index_mut.result.now held c.index_mut.ensures.value in
    let enough : number_of c.args.summed weight ≤ get_or sums weight.conit 0 = omega (
      arith,
      c.loop-weight.invariant.sums weight.conit,
      c.requires.held weight.conit,
      write_sum-next c.args.summed weights i no_weight within,
    ) in
    record {
      conits = length-set sums weight.conit _ ∙ c.loop-weight.invariant.conits;
      sums = λ at. rw (read, c.number.ensures) (removed-one c.args.summed weights i no_weight within sums c.args.sums.now.items at held enough c.loop-weight.invariant.sums);
    }
