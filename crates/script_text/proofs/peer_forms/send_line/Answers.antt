use Rattle.std.proofs.Common.{refl}
use Rattle.std.proofs.lemmas.Result.{err_from_is_err_and}
use Rattle.run_model.specs.declared.status.LineKind.TheVariants.{Extra}
use Rattle.run_record.specs.Fields.{end_at, other_replica_at}
use Rattle.run_record.specs.Lists.{firsts_at}
use Rattle.run_record.specs.Splitting.{tokens}
use Rattle.run_record.proofs.ListLoop.{fails_alike}
use Rattle.run_model.specs.declared.script_line.Line.TheVariants as line
use Rattle.script_text.specs.Forms.{send_line}
use Rattle.script_text.proofs.peer_forms.send_line.Goals as goal

pub returns-in_err-to : goal.returns-in_err-to
unfolding send_line
returns-in_err-to c =
    let p = err_from_is_err_and c.from_residual-in_err-to.result c.from_residual-in_err-to.ensures.1 in
    rw (p.1, p.2)
    (fails_alike c.in_err-to.field-0.0 (other_replica_at c.args.replicas c.in_ok-from.from (tokens c.in_ok-from.rest.now)) (send_line c.args.replicas (tokens c.args.rest.now))
    (λ kind is. rw (c.in_ok-from.ensures.replica, is) refl) c.in_err-to.ensures.replica)

pub returns-in_err-firsts : goal.returns-in_err-firsts
unfolding send_line
returns-in_err-firsts c =
    let p = err_from_is_err_and c.from_residual-in_err-firsts.result c.from_residual-in_err-firsts.ensures.1 in
    rw (p.1, p.2)
    (fails_alike c.in_err-firsts.field-0.0 (firsts_at c.args.replicas (tokens c.in_ok-to.rest.now)) (send_line c.args.replicas (tokens c.args.rest.now))
    (λ kind is. rw (c.in_ok-from.ensures.replica, c.in_ok-to.ensures.replica, is) refl) c.in_err-firsts.ensures.firsts)

pub returns-in_err-end_at : goal.returns-in_err-end_at
unfolding send_line
returns-in_err-end_at c =
    let p = err_from_is_err_and c.from_residual-in_err-end_at.result c.from_residual-in_err-end_at.ensures.1 in
    rw (p.1, p.2)
    (fails_alike c.in_err-end_at.field-0.0 (end_at Extra (tokens c.in_ok-firsts.rest.now)) (send_line c.args.replicas (tokens c.args.rest.now))
    (λ kind is. rw (c.in_ok-from.ensures.replica, c.in_ok-to.ensures.replica, c.in_ok-firsts.ensures.firsts, is) refl) c.in_err-end_at.ensures)

pub returns : goal.returns
unfolding send_line
returns c =
    record {
      line = line.Send c.in_ok-from.from c.in_ok-to.to c.in_ok-firsts.firsts;
      says = rw (c.in_ok-from.ensures.replica, c.in_ok-to.ensures.replica, c.in_ok-firsts.ensures.firsts, c.in_ok-end_at.ensures) refl;
      in_range = (
        record { first_in = c.in_ok-from.ensures.within; second_in = c.in_ok-to.ensures.within; others = c.in_ok-to.ensures.other },
        record { size = c.in_ok-firsts.ensures.size; each = c.in_ok-firsts.ensures.within },
      );
      added = c.push_reserved.ensures.items;
    }
