use Rattle.std.proofs.Common.{get_or, arith}
use Rattle.conit_sums.proofs.SumLemmas.{no_weight, write_sum-next, read_at}
use Rattle.conit_sums.proofs.add_each.Goals as goal

pub overflow_add-index_mut : goal.overflow_add-index_mut
overflow_add-index_mut c =
    let i = c.loop-weight.weight-index in
    let conit = (get_or c.args.weights.now i no_weight).conit in
    omega (
      arith,
      read_at c.loop-weight.sums.items conit c.index_mut.result.now (omega (arith, c.requires.conits i no_weight c.loop-weight-test.true)) c.index_mut.ensures.value,
      c.loop-weight.invariant.sums conit,
      c.requires.room conit,
      write_sum-next c.args.summed c.args.weights.now i no_weight c.loop-weight-test.true,
    )
