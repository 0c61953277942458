use Rattle.std.proofs.Common.{◌*◌, sym, arith}
use Rattle.std.proofs.lemmas.Result.{err_from_is_err_and}
use Rattle.run_record.specs.RecordAt.{bounds_at}
use Rattle.run_record.proofs.Loops.{bound_goes_on, bound_fault, bounds_are_done, tells_fault}
use Rattle.run_record.proofs.get_setup.bounds_at.Goals as goal

pub returns-in_err-bound-clause-exact : goal.returns-in_err-bound-clause-exact
returns-in_err-bound-clause-exact c =
    let p = err_from_is_err_and c.from_residual.result c.from_residual.ensures.1 in
    let n = c.args.counts.replicas in
    let m = c.args.counts.conits in
    let total = bounds_at n m (n * m) 0 c.args.bytes.now c.args.start in
    let fault = c.in_err-bound.field-0.0 in
    rw (p.1, p.2) (tells_fault total fault (bound_fault n m c.args.bytes.now total c.loop-row.bounds (n * m) c.loop-row.row c.loop-row.place fault (omega arith) (sym c.in_err-bound.ensures.exact) c.loop-row.invariant.read))

pub loop-row-preserved : goal.loop-row-preserved
loop-row-preserved c =
    let n = c.args.counts.replicas in
    let m = c.args.counts.conits in
    let total = bounds_at n m (n * m) 0 c.args.bytes.now c.args.start in
    record {
      within = omega (arith, c.in_ok-bound.ensures.within);
      read = rw c.in_ok-push.ensures.ok (bound_goes_on n m c.args.bytes.now total c.loop-row.bounds (n * m) c.loop-row.row c.loop-row.place c.in_ok-bound.bound c.in_ok-bound.next (omega arith) (sym c.in_ok-bound.ensures.exact) c.loop-row.invariant.read);
    }

pub returns-clause-exact : goal.returns-clause-exact
returns-clause-exact c =
    let n = c.args.counts.replicas in
    let m = c.args.counts.conits in
    let total = bounds_at n m (n * m) 0 c.args.bytes.now c.args.start in
    bounds_are_done n m c.args.bytes.now total c.loop-row.bounds (n * m) c.loop-row.row c.loop-row.place (omega arith) c.loop-row.invariant.read
