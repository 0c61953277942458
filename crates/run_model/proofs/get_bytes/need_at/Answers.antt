use Rattle.std.proofs.Common.{refl}
use Rattle.std.proofs.lemmas.Result.{err_from_is_err_and}
use Rattle.run_model.specs.Bytes.{need_at}
use Rattle.run_model.proofs.get_bytes.need_at.Goals as goal

pub returns-in_err-conit-clause-exact : goal.returns-in_err-conit-clause-exact
unfolding need_at
returns-in_err-conit-clause-exact c =
    let p = err_from_is_err_and c.from_residual.result c.from_residual.ensures.1 in
    rw (p.1, p.2, ← c.in_err-conit.ensures.exact) refl

pub returns-in_err-num-clause-exact : goal.returns-in_err-num-clause-exact
unfolding need_at
returns-in_err-num-clause-exact c =
    let p = err_from_is_err_and c.from_residual-in_err-num.result c.from_residual-in_err-num.ensures.1 in
    rw (p.1, p.2, ← c.in_ok-conit.ensures.exact, ← c.in_err-num.ensures.exact) refl

pub returns-in_err-order-clause-exact : goal.returns-in_err-order-clause-exact
unfolding need_at
returns-in_err-order-clause-exact c =
    let p = err_from_is_err_and c.from_residual-in_err-order.result c.from_residual-in_err-order.ensures.1 in
    rw (p.1, p.2, ← c.in_ok-conit.ensures.exact, ← c.in_ok-num.ensures.exact, ← c.in_err-order.ensures.exact) refl

pub returns-in_err-stale-clause-exact : goal.returns-in_err-stale-clause-exact
unfolding need_at
returns-in_err-stale-clause-exact c =
    let p = err_from_is_err_and c.from_residual-in_err-stale.result c.from_residual-in_err-stale.ensures.1 in
    rw (p.1, p.2, ← c.in_ok-conit.ensures.exact, ← c.in_ok-num.ensures.exact, ← c.in_ok-order.ensures.exact, ← c.in_err-stale.ensures.exact) refl

pub returns-clause-exact : goal.returns-clause-exact
unfolding need_at
returns-clause-exact c =
    rw (← c.in_ok-conit.ensures.exact, ← c.in_ok-num.ensures.exact, ← c.in_ok-order.ensures.exact, ← c.in_ok-stale.ensures.exact) refl
