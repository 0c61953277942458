use Rattle.std.proofs.Common.{◌≡◌, [], get_or, take, arith, ◌∙◌}
use Rattle.std.proofs.lemmas.List.{get_or_read, take_all}
use Rattle.std.proofs.lemmas.List.Sums.{sum_by_more, sum_by_more_le}
use Rattle.conit_sums.specs.ConitSums.{write_sum}
use Rattle.split_budget.proofs.missed.take_each.Goals as goal
use Rattle.split_budget.proofs.missed.take_each.Goals.{After-items}

-- the weights of this write
read : (c : After-items)
    → c.items.result.now ≡ get_or c.args.writes.now c.loop-write.write-index []
read c = c.items.ensures.items ∙ get_or_read c.args.writes.now c.loop-write.write-index c.write-item.result c.loop-write-test.true c.write-item.is []

pub remove_each-requires-clause-held : goal.remove_each-requires-clause-held
remove_each-requires-clause-held c = λ conit.
    rw (read c) (omega (
      arith,
      c.requires.held conit,
      c.loop-write.invariant.sums conit,
      sum_by_more_le (λ weights. write_sum c.args.summed weights conit)
          c.args.writes.now c.loop-write.write-index [] c.loop-write-test.true,
    ))

pub remove_each-requires-clause-conits : goal.remove_each-requires-clause-conits
remove_each-requires-clause-conits c =
    rw (read c, c.loop-write.invariant.conits) (c.requires.conits c.loop-write.write-index [] c.loop-write-test.true)

pub loop-write-preserved : goal.loop-write-preserved
loop-write-preserved c =
    let d = (goal.at.loop-write-preserved c).After-items in
    record {
      conits = c.remove_each.ensures.conits ∙ c.loop-write.invariant.conits;
      sums = λ conit.
          omega (
            arith,
            c.loop-write.invariant.sums conit,
            rw (read d) at (c.remove_each.ensures.sums conit),
            sum_by_more (λ weights. write_sum c.args.summed weights conit)
                c.args.writes.now c.loop-write.write-index [] c.loop-write-test.true,
          );
    }

pub returns-clause-sums : goal.returns-clause-sums
returns-clause-sums c =
    let all : take c.loop-write.write-index c.args.writes.now ≡ c.args.writes.now = take_all c.loop-write.write-index c.args.writes.now (omega arith) in
    λ conit. rw all at (c.loop-write.invariant.sums conit)
