use Rattle.std.proofs.Common.{refl}
use Rattle.std.proofs.lemmas.Result.{err_from_is_err_and}
use Rattle.tact_base.specs.declared.limits.TheConstants.{ALPHA_MAX, AMOUNT_MAX}
use Rattle.run_model.specs.declared.status.LineKind.TheVariants.{Extra}
use Rattle.run_record.specs.Fields.{end_at, number_at}
use Rattle.run_record.specs.Splitting.{tokens}
use Rattle.run_record.proofs.ListLoop.{fails_alike}
use Rattle.run_model.specs.declared.script_line.Line.TheVariants as line
use Rattle.script_text.specs.Forms.{conit_at, bound_line}
use Rattle.script_text.proofs.forms.bound_line.Goals as goal

pub returns-in_err-conit : goal.returns-in_err-conit
unfolding bound_line
returns-in_err-conit c =
    let p = err_from_is_err_and c.from_residual-in_err-conit.result c.from_residual-in_err-conit.ensures.1 in
    rw (p.1, p.2)
    (fails_alike c.in_err-conit.field-0.0 (conit_at c.args.conits (tokens c.in_ok-owner.rest.now)) (bound_line c.args.replicas c.args.conits (tokens c.args.rest.now))
    (λ kind is. rw (c.in_ok-owner.ensures.replica, is) refl) c.in_err-conit.ensures.conit)

pub returns-in_err-alpha : goal.returns-in_err-alpha
unfolding bound_line
returns-in_err-alpha c =
    let p = err_from_is_err_and c.from_residual-in_err-alpha.result c.from_residual-in_err-alpha.ensures.1 in
    rw (p.1, p.2)
    (fails_alike c.in_err-alpha.field-0.0 (number_at ALPHA_MAX (tokens c.in_ok-conit.rest.now)) (bound_line c.args.replicas c.args.conits (tokens c.args.rest.now))
    (λ kind is. rw (c.in_ok-owner.ensures.replica, c.in_ok-conit.ensures.conit, is) refl) c.in_err-alpha.ensures.number)

pub returns-in_err-loan : goal.returns-in_err-loan
unfolding bound_line
returns-in_err-loan c =
    let p = err_from_is_err_and c.from_residual-in_err-loan.result c.from_residual-in_err-loan.ensures.1 in
    rw (p.1, p.2)
    (fails_alike c.in_err-loan.field-0.0 (number_at AMOUNT_MAX (tokens c.in_ok-alpha.rest.now)) (bound_line c.args.replicas c.args.conits (tokens c.args.rest.now))
    (λ kind is. rw (c.in_ok-owner.ensures.replica, c.in_ok-conit.ensures.conit, c.in_ok-alpha.ensures.number, is) refl) c.in_err-loan.ensures.number)

pub returns-in_err-end_at : goal.returns-in_err-end_at
unfolding bound_line
returns-in_err-end_at c =
    let p = err_from_is_err_and c.from_residual-in_err-end_at.result c.from_residual-in_err-end_at.ensures.1 in
    rw (p.1, p.2)
    (fails_alike c.in_err-end_at.field-0.0 (end_at Extra (tokens c.in_ok-loan.rest.now)) (bound_line c.args.replicas c.args.conits (tokens c.args.rest.now))
    (λ kind is. rw (c.in_ok-owner.ensures.replica, c.in_ok-conit.ensures.conit, c.in_ok-alpha.ensures.number, c.in_ok-loan.ensures.number, is) refl) c.in_err-end_at.ensures)

pub returns : goal.returns
unfolding bound_line
returns c =
    record {
      line = line.Bound c.in_ok-owner.owner c.in_ok-conit.conit c.in_ok-alpha.alpha c.in_ok-loan.loan;
      says = rw (c.in_ok-owner.ensures.replica, c.in_ok-conit.ensures.conit, c.in_ok-alpha.ensures.number, c.in_ok-loan.ensures.number, c.in_ok-end_at.ensures) refl;
      in_range = record {
        owner_in = c.in_ok-owner.ensures.within;
        conit_in = c.in_ok-conit.ensures.within;
        alpha_in = c.in_ok-alpha.ensures.within;
        loan_in = c.in_ok-loan.ensures.within;
      };
      added = c.push_reserved.ensures.items;
    }
