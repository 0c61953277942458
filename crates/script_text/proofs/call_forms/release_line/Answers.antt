use Rattle.std.proofs.Common.{refl}
use Rattle.std.proofs.lemmas.Result.{err_from_is_err_and}
use Rattle.tact_base.specs.declared.limits.TheConstants.{AMOUNT_MAX}
use Rattle.run_model.specs.declared.status.LineKind.TheVariants.{Extra}
use Rattle.run_record.specs.Fields.{client_at, end_at, number_at}
use Rattle.run_record.specs.Splitting.{tokens}
use Rattle.run_record.proofs.ListLoop.{fails_alike}
use Rattle.run_model.specs.declared.script_line.Line.TheVariants as line
use Rattle.script_text.specs.Forms.{conit_at, release_line}
use Rattle.script_text.proofs.call_forms.release_line.Goals as goal

pub returns-in_err-client : goal.returns-in_err-client
unfolding release_line
returns-in_err-client c =
    let p = err_from_is_err_and c.from_residual-in_err-client.result c.from_residual-in_err-client.ensures.1 in
    rw (p.1, p.2)
    (fails_alike c.in_err-client.field-0.0 (client_at (tokens c.in_ok-replica.rest.now)) (release_line c.args.replicas c.args.conits (tokens c.args.rest.now))
    (λ kind is. rw (c.in_ok-replica.ensures.replica, is) refl) c.in_err-client.ensures.client)

pub returns-in_err-conit : goal.returns-in_err-conit
unfolding release_line
returns-in_err-conit c =
    let p = err_from_is_err_and c.from_residual-in_err-conit.result c.from_residual-in_err-conit.ensures.1 in
    rw (p.1, p.2)
    (fails_alike c.in_err-conit.field-0.0 (conit_at c.args.conits (tokens c.in_ok-client.rest.now)) (release_line c.args.replicas c.args.conits (tokens c.args.rest.now))
    (λ kind is. rw (c.in_ok-replica.ensures.replica, c.in_ok-client.ensures.client, is) refl) c.in_err-conit.ensures.conit)

pub returns-in_err-amount : goal.returns-in_err-amount
unfolding release_line
returns-in_err-amount c =
    let p = err_from_is_err_and c.from_residual-in_err-amount.result c.from_residual-in_err-amount.ensures.1 in
    rw (p.1, p.2)
    (fails_alike c.in_err-amount.field-0.0 (number_at AMOUNT_MAX (tokens c.in_ok-conit.rest.now)) (release_line c.args.replicas c.args.conits (tokens c.args.rest.now))
    (λ kind is. rw (c.in_ok-replica.ensures.replica, c.in_ok-client.ensures.client, c.in_ok-conit.ensures.conit, is) refl) c.in_err-amount.ensures.number)

pub returns-in_err-end_at : goal.returns-in_err-end_at
unfolding release_line
returns-in_err-end_at c =
    let p = err_from_is_err_and c.from_residual-in_err-end_at.result c.from_residual-in_err-end_at.ensures.1 in
    rw (p.1, p.2)
    (fails_alike c.in_err-end_at.field-0.0 (end_at Extra (tokens c.in_ok-amount.rest.now)) (release_line c.args.replicas c.args.conits (tokens c.args.rest.now))
    (λ kind is. rw (c.in_ok-replica.ensures.replica, c.in_ok-client.ensures.client, c.in_ok-conit.ensures.conit, c.in_ok-amount.ensures.number, is) refl) c.in_err-end_at.ensures)

pub returns : goal.returns
unfolding release_line
returns c =
    record {
      line = line.Release c.in_ok-replica.replica c.in_ok-client.client c.in_ok-conit.conit c.in_ok-amount.amount;
      says = rw (c.in_ok-replica.ensures.replica, c.in_ok-client.ensures.client, c.in_ok-conit.ensures.conit, c.in_ok-amount.ensures.number, c.in_ok-end_at.ensures) refl;
      in_range = record {
        replica_in = c.in_ok-replica.ensures.within;
        client_in = c.in_ok-client.ensures.within;
        request_in = (c.in_ok-conit.ensures.within, c.in_ok-amount.ensures.within);
      };
      added = c.push_reserved.ensures.items;
    }
