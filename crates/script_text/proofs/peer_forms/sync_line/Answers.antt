use Rattle.std.proofs.Common.{refl}
use Rattle.std.proofs.lemmas.Result.{err_from_is_err_and}
use Rattle.run_model.specs.declared.status.LineKind.TheVariants.{Extra}
use Rattle.run_record.specs.Fields.{end_at, other_replica_at}
use Rattle.run_record.specs.Splitting.{tokens}
use Rattle.run_record.proofs.ListLoop.{fails_alike}
use Rattle.run_model.specs.declared.script_line.Line.TheVariants as line
use Rattle.script_text.specs.Forms.{sync_line}
use Rattle.script_text.proofs.peer_forms.sync_line.Goals as goal

pub returns-in_err-second : goal.returns-in_err-second
unfolding sync_line
returns-in_err-second c =
    let p = err_from_is_err_and c.from_residual-in_err-second.result c.from_residual-in_err-second.ensures.1 in
    rw (p.1, p.2)
    (fails_alike c.in_err-second.field-0.0 (other_replica_at c.args.replicas c.in_ok-first.first (tokens c.in_ok-first.rest.now)) (sync_line c.args.replicas (tokens c.args.rest.now))
    (λ kind is. rw (c.in_ok-first.ensures.replica, is) refl) c.in_err-second.ensures.replica)

pub returns-in_err-end_at : goal.returns-in_err-end_at
unfolding sync_line
returns-in_err-end_at c =
    let p = err_from_is_err_and c.from_residual-in_err-end_at.result c.from_residual-in_err-end_at.ensures.1 in
    rw (p.1, p.2)
    (fails_alike c.in_err-end_at.field-0.0 (end_at Extra (tokens c.in_ok-second.rest.now)) (sync_line c.args.replicas (tokens c.args.rest.now))
    (λ kind is. rw (c.in_ok-first.ensures.replica, c.in_ok-second.ensures.replica, is) refl) c.in_err-end_at.ensures)

pub returns : goal.returns
unfolding sync_line
returns c =
    record {
      line = line.Sync c.in_ok-first.first c.in_ok-second.second;
      says = rw (c.in_ok-first.ensures.replica, c.in_ok-second.ensures.replica, c.in_ok-end_at.ensures) refl;
      in_range = record { first_in = c.in_ok-first.ensures.within; second_in = c.in_ok-second.ensures.within; others = c.in_ok-second.ensures.other };
      added = c.push_reserved.ensures.items;
    }
