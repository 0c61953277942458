use Rattle.std.proofs.Common.{◌-◌, ◌^◌, refl}
use Rattle.std.proofs.lemmas.Result.{err_from_is_err_and}
use Rattle.run_model.specs.declared.status.LineKind.TheVariants.{Extra}
use Rattle.run_record.specs.Fields.{end_at, number_at, other_replica_at}
use Rattle.run_record.specs.Splitting.{tokens}
use Rattle.run_record.proofs.ListLoop.{fails_alike}
use Rattle.run_model.specs.declared.script_line.Line.TheVariants as line
use Rattle.script_text.specs.Forms.{take_line}
use Rattle.script_text.proofs.peer_forms.take_line.Goals as goal

pub returns-in_err-from : goal.returns-in_err-from
unfolding take_line
returns-in_err-from c =
    let p = err_from_is_err_and c.from_residual-in_err-from.result c.from_residual-in_err-from.ensures.1 in
    rw (p.1, p.2)
    (fails_alike c.in_err-from.field-0.0 (other_replica_at c.args.replicas c.in_ok-replica.replica (tokens c.in_ok-replica.rest.now)) (take_line c.args.replicas (tokens c.args.rest.now))
    (λ kind is. rw (c.in_ok-replica.ensures.replica, is) refl) c.in_err-from.ensures.replica)

pub returns-in_err-number : goal.returns-in_err-number
unfolding take_line
returns-in_err-number c =
    let p = err_from_is_err_and c.from_residual-in_err-number.result c.from_residual-in_err-number.ensures.1 in
    rw (p.1, p.2)
    (fails_alike c.in_err-number.field-0.0 (number_at (2 ^ 64 - 1) (tokens c.in_ok-from.rest.now)) (take_line c.args.replicas (tokens c.args.rest.now))
    (λ kind is. rw (c.in_ok-replica.ensures.replica, c.in_ok-from.ensures.replica, is) refl) c.in_err-number.ensures.number)

pub returns-in_err-end_at : goal.returns-in_err-end_at
unfolding take_line
returns-in_err-end_at c =
    let p = err_from_is_err_and c.from_residual-in_err-end_at.result c.from_residual-in_err-end_at.ensures.1 in
    rw (p.1, p.2)
    (fails_alike c.in_err-end_at.field-0.0 (end_at Extra (tokens c.in_ok-number.rest.now)) (take_line c.args.replicas (tokens c.args.rest.now))
    (λ kind is. rw (c.in_ok-replica.ensures.replica, c.in_ok-from.ensures.replica, c.in_ok-number.ensures.number, is) refl) c.in_err-end_at.ensures)

pub returns : goal.returns
unfolding take_line
returns c =
    record {
      line = line.Take c.in_ok-replica.replica c.in_ok-from.from c.in_ok-number.number;
      says = rw (c.in_ok-replica.ensures.replica, c.in_ok-from.ensures.replica, c.in_ok-number.ensures.number, c.in_ok-end_at.ensures) refl;
      in_range = record { first_in = c.in_ok-replica.ensures.within; second_in = c.in_ok-from.ensures.within; others = c.in_ok-from.ensures.other };
      added = c.push_reserved.ensures.items;
    }
