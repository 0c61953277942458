use Rattle.std.proofs.Common.{refl}
use Rattle.std.proofs.lemmas.Result.{err_from_is_err_and}
use Rattle.run_model.specs.declared.status.LineKind.TheVariants.{Extra}
use Rattle.run_record.specs.Fields.{client_at, end_at, op_at}
use Rattle.run_record.specs.Lists.{weight_at}
use Rattle.run_record.specs.Splitting.{tokens}
use Rattle.run_record.proofs.ListLoop.{fails_alike}
use Rattle.run_model.specs.declared.script_line.Line.TheVariants as line
use Rattle.script_text.specs.Forms.{held_line}
use Rattle.script_text.proofs.call_forms.held_line.Goals as goal

pub returns-in_err-client : goal.returns-in_err-client
unfolding held_line
returns-in_err-client c =
    let p = err_from_is_err_and c.from_residual-in_err-client.result c.from_residual-in_err-client.ensures.1 in
    rw (p.1, p.2)
    (fails_alike c.in_err-client.field-0.0 (client_at (tokens c.in_ok-replica.rest.now)) (held_line c.args.replicas c.args.conits (tokens c.args.rest.now))
    (λ kind is. rw (c.in_ok-replica.ensures.replica, is) refl) c.in_err-client.ensures.client)

pub returns-in_err-op : goal.returns-in_err-op
unfolding held_line
returns-in_err-op c =
    let p = err_from_is_err_and c.from_residual-in_err-op.result c.from_residual-in_err-op.ensures.1 in
    rw (p.1, p.2)
    (fails_alike c.in_err-op.field-0.0 (op_at (tokens c.in_ok-client.rest.now)) (held_line c.args.replicas c.args.conits (tokens c.args.rest.now))
    (λ kind is. rw (c.in_ok-replica.ensures.replica, c.in_ok-client.ensures.client, is) refl) c.in_err-op.ensures.op)

pub returns-in_err-weight : goal.returns-in_err-weight
unfolding held_line
returns-in_err-weight c =
    let p = err_from_is_err_and c.from_residual-in_err-weight.result c.from_residual-in_err-weight.ensures.1 in
    rw (p.1, p.2)
    (fails_alike c.in_err-weight.field-0.0 (weight_at c.args.conits 0 (tokens c.in_ok-op.rest.now)) (held_line c.args.replicas c.args.conits (tokens c.args.rest.now))
    (λ kind is. rw (c.in_ok-replica.ensures.replica, c.in_ok-client.ensures.client, c.in_ok-op.ensures.op, is) refl) c.in_err-weight.ensures.weight)

pub returns-in_err-end_at : goal.returns-in_err-end_at
unfolding held_line
returns-in_err-end_at c =
    let p = err_from_is_err_and c.from_residual-in_err-end_at.result c.from_residual-in_err-end_at.ensures.1 in
    rw (p.1, p.2)
    (fails_alike c.in_err-end_at.field-0.0 (end_at Extra (tokens c.in_ok-weight.rest.now)) (held_line c.args.replicas c.args.conits (tokens c.args.rest.now))
    (λ kind is. rw (c.in_ok-replica.ensures.replica, c.in_ok-client.ensures.client, c.in_ok-op.ensures.op, c.in_ok-weight.ensures.weight, is) refl) c.in_err-end_at.ensures)

pub returns : goal.returns
unfolding held_line
returns c =
    record {
      line = line.Held c.in_ok-replica.replica c.in_ok-client.client c.in_ok-op.op c.in_ok-weight.weight;
      says = rw (c.in_ok-replica.ensures.replica, c.in_ok-client.ensures.client, c.in_ok-op.ensures.op, c.in_ok-weight.ensures.weight, c.in_ok-end_at.ensures) refl;
      in_range = record {
        replica_in = c.in_ok-replica.ensures.within;
        client_in = c.in_ok-client.ensures.within;
        request_in = (
          record { conit = c.in_ok-weight.ensures.conit; nweight = c.in_ok-weight.ensures.nweight; oweight = c.in_ok-weight.ensures.oweight },
          c.in_ok-op.ensures.within,
        );
      };
      added = c.push_reserved.ensures.items;
    }
