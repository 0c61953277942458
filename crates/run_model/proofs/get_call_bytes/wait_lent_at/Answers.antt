use Rattle.std.proofs.Common.{refl}
use Rattle.std.proofs.lemmas.Result.{err_from_is_err_and}
use Rattle.run_model.specs.CallBytes.{wait_lent_at}
use Rattle.run_model.proofs.get_call_bytes.wait_lent_at.Goals as goal

pub returns-in_err-conit : goal.returns-in_err-conit
unfolding wait_lent_at
returns-in_err-conit c =
    let p = err_from_is_err_and c.from_residual.result c.from_residual.ensures.1 in
    rw (p.1, p.2, ← c.in_err-conit.ensures.exact) refl

pub returns-in_err-holder : goal.returns-in_err-holder
unfolding wait_lent_at
returns-in_err-holder c =
    let p = err_from_is_err_and c.from_residual-in_err-holder.result c.from_residual-in_err-holder.ensures.1 in
    rw (p.1, p.2, ← c.in_ok-conit.ensures.exact, ← c.in_err-holder.ensures.exact) refl

pub returns-in_err-out : goal.returns-in_err-out
unfolding wait_lent_at
returns-in_err-out c =
    let p = err_from_is_err_and c.from_residual-in_err-out.result c.from_residual-in_err-out.ensures.1 in
    rw (p.1, p.2, ← c.in_ok-conit.ensures.exact, ← c.in_ok-holder.ensures.exact, ← c.in_err-out.ensures.exact) refl

pub returns-in_err-total : goal.returns-in_err-total
unfolding wait_lent_at
returns-in_err-total c =
    let p = err_from_is_err_and c.from_residual-in_err-total.result c.from_residual-in_err-total.ensures.1 in
    rw (p.1, p.2, ← c.in_ok-conit.ensures.exact, ← c.in_ok-holder.ensures.exact, ← c.in_ok-out.ensures.exact, ← c.in_err-total.ensures.exact) refl

pub returns-in_err-num : goal.returns-in_err-num
unfolding wait_lent_at
returns-in_err-num c =
    let p = err_from_is_err_and c.from_residual-in_err-num.result c.from_residual-in_err-num.ensures.1 in
    rw (p.1, p.2, ← c.in_ok-conit.ensures.exact, ← c.in_ok-holder.ensures.exact, ← c.in_ok-out.ensures.exact, ← c.in_ok-total.ensures.exact, ← c.in_err-num.ensures.exact) refl

pub returns : goal.returns
unfolding wait_lent_at
returns c =
    rw (← c.in_ok-conit.ensures.exact, ← c.in_ok-holder.ensures.exact, ← c.in_ok-out.ensures.exact, ← c.in_ok-total.ensures.exact, ← c.in_ok-num.ensures.exact) refl
