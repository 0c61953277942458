use Rattle.std.proofs.Common.{refl}
use Rattle.std.proofs.lemmas.Result.{err_from_is_err_and}
use Rattle.tact_base.specs.declared.limits.TheConstants.{AMOUNT_MAX}
use Rattle.run_model.specs.declared.status.LineKind.TheVariants.{Extra}
use Rattle.run_record.specs.Fields.{end_at, number_at, other_replica_at}
use Rattle.run_record.specs.Splitting.{tokens}
use Rattle.run_record.proofs.ListLoop.{fails_alike}
use Rattle.run_model.specs.declared.script_line.Line.TheVariants as line
use Rattle.script_text.specs.Forms.{conit_at, lend_line}
use Rattle.script_text.proofs.peer_forms.lend_line.Goals as goal

pub returns-in_err-holder : goal.returns-in_err-holder
unfolding lend_line
returns-in_err-holder c =
    let p = err_from_is_err_and c.from_residual-in_err-holder.result c.from_residual-in_err-holder.ensures.1 in
    rw (p.1, p.2)
    (fails_alike c.in_err-holder.field-0.0 (other_replica_at c.args.replicas c.in_ok-owner.owner (tokens c.in_ok-owner.rest.now)) (lend_line c.args.replicas c.args.conits (tokens c.args.rest.now))
    (λ kind is. rw (c.in_ok-owner.ensures.replica, is) refl) c.in_err-holder.ensures.replica)

pub returns-in_err-conit : goal.returns-in_err-conit
unfolding lend_line
returns-in_err-conit c =
    let p = err_from_is_err_and c.from_residual-in_err-conit.result c.from_residual-in_err-conit.ensures.1 in
    rw (p.1, p.2)
    (fails_alike c.in_err-conit.field-0.0 (conit_at c.args.conits (tokens c.in_ok-holder.rest.now)) (lend_line c.args.replicas c.args.conits (tokens c.args.rest.now))
    (λ kind is. rw (c.in_ok-owner.ensures.replica, c.in_ok-holder.ensures.replica, is) refl) c.in_err-conit.ensures.conit)

pub returns-in_err-amount : goal.returns-in_err-amount
unfolding lend_line
returns-in_err-amount c =
    let p = err_from_is_err_and c.from_residual-in_err-amount.result c.from_residual-in_err-amount.ensures.1 in
    rw (p.1, p.2)
    (fails_alike c.in_err-amount.field-0.0 (number_at AMOUNT_MAX (tokens c.in_ok-conit.rest.now)) (lend_line c.args.replicas c.args.conits (tokens c.args.rest.now))
    (λ kind is. rw (c.in_ok-owner.ensures.replica, c.in_ok-holder.ensures.replica, c.in_ok-conit.ensures.conit, is) refl) c.in_err-amount.ensures.number)

pub returns-in_err-end_at : goal.returns-in_err-end_at
unfolding lend_line
returns-in_err-end_at c =
    let p = err_from_is_err_and c.from_residual-in_err-end_at.result c.from_residual-in_err-end_at.ensures.1 in
    rw (p.1, p.2)
    (fails_alike c.in_err-end_at.field-0.0 (end_at Extra (tokens c.in_ok-amount.rest.now)) (lend_line c.args.replicas c.args.conits (tokens c.args.rest.now))
    (λ kind is. rw (c.in_ok-owner.ensures.replica, c.in_ok-holder.ensures.replica, c.in_ok-conit.ensures.conit, c.in_ok-amount.ensures.number, is) refl) c.in_err-end_at.ensures)

pub returns : goal.returns
unfolding lend_line
returns c =
    record {
      line = line.Lend c.in_ok-owner.owner c.in_ok-holder.holder c.in_ok-conit.conit c.in_ok-amount.amount;
      says = rw (c.in_ok-owner.ensures.replica, c.in_ok-holder.ensures.replica, c.in_ok-conit.ensures.conit, c.in_ok-amount.ensures.number, c.in_ok-end_at.ensures) refl;
      in_range = (
        record { first_in = c.in_ok-owner.ensures.within; second_in = c.in_ok-holder.ensures.within; others = c.in_ok-holder.ensures.other },
        record { conit_in = c.in_ok-conit.ensures.within; amount_in = c.in_ok-amount.ensures.within },
      );
      added = c.push_reserved.ensures.items;
    }
