use Rattle.std.proofs.Common.{arith}
use Rattle.tact_base.proofs.SetupLemmas.{flat_map_next_row, flat_map_all_rows}
use Rattle.run_model.specs.Text.{bound_line}
use Rattle.run_model.proofs.TextLemmas.{begins_grown, always_err}
use Rattle.run_model.proofs.header.print_bounds.Goals as goal

pub loop-place-preserved : goal.loop-place-preserved
loop-place-preserved c =
    let s = c.args.config.now in
    flat_map_next_row s (bound_line s) c.replicas-replicas.result c.conits-conits.result c.replicas-replicas.ensures.count c.conits-conits.ensures.count c.args.out.now
    c.loop-place.out c.loop-place.place c.loop-place.invariant _ (omega arith) c.in_ok-print_bound.ensures.ok

pub returns-clause-ok : goal.returns-clause-ok
returns-clause-ok c =
    let s = c.args.config.now in
    flat_map_all_rows s (bound_line s) c.replicas-replicas.result c.conits-conits.result c.replicas-replicas.ensures.count c.conits-conits.ensures.count c.args.out.now
    c.loop-place.out c.loop-place.place c.loop-place.invariant (omega arith)

pub returns-in_err-print_bound-clause-err : goal.returns-in_err-print_bound-clause-err
returns-in_err-print_bound-clause-err c = always_err _ (begins_grown _ _ _ _ c.in_err-print_bound.ensures.err c.loop-place.invariant)
