use Rattle.std.proofs.Common.{drop, arith}
use Rattle.std.proofs.lemmas.List.{drop_more, drop_all}
use Rattle.std.proofs.lemmas.Result.{err_from_is_err_and}
use Rattle.tact_msg.specs.MessageBytes.{writes_at}
use Rattle.tact_msg.proofs.Loops.{writes_go_on, writes_fault, writes_are_done}
use Rattle.tact_msg.proofs.get_writes.writes_at.Goals as goal

pub returns-in_err-place : goal.returns-in_err-place
returns-in_err-place c =
    let p = err_from_is_err_and c.from_residual.result c.from_residual.ensures.1 in
    let tolds = c.args.tolds.now in
    rw (p.1, p.2) (writes_fault c.in_err-place.field-0.0 c.args.conits c.loop-told.writes tolds c.loop-told.told-index _ c.args.bytes.now c.loop-told.place
    (writes_at c.args.conits tolds c.args.bytes.now c.args.start) (drop_more tolds c.loop-told.told-index _ (omega arith)) c.in_err-place.ensures.err c.loop-told.invariant.read)

pub loop-told-preserved : goal.loop-told-preserved
loop-told-preserved c =
    let tolds = c.args.tolds.now in
    record {
      within = omega (arith, c.in_ok-place.ensures.within);
      read = writes_go_on c.args.conits c.loop-told.writes c.push_writes_of.new.writes tolds c.loop-told.told-index _ c.args.bytes.now c.loop-told.place _
          (writes_at c.args.conits tolds c.args.bytes.now c.args.start) (drop_more tolds c.loop-told.told-index _ (omega arith)) c.in_ok-place.ensures.ok c.loop-told.invariant.read;
    }

pub returns : goal.returns
returns c =
    let tolds = c.args.tolds.now in
    writes_are_done c.args.conits c.loop-told.writes (drop c.loop-told.told-index tolds) c.args.bytes.now c.loop-told.place
    (writes_at c.args.conits tolds c.args.bytes.now c.args.start) (drop_all c.loop-told.told-index tolds (omega arith)) c.loop-told.invariant.read
