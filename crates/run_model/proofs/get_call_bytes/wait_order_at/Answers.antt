use Rattle.std.proofs.Common.{refl}
use Rattle.std.proofs.lemmas.Result.{err_from_is_err_and}
use Rattle.run_model.specs.CallBytes.{wait_order_at}
use Rattle.run_model.proofs.get_call_bytes.wait_order_at.Goals as goal

pub returns-in_err-conit : goal.returns-in_err-conit
unfolding wait_order_at
returns-in_err-conit c =
    let p = err_from_is_err_and c.from_residual.result c.from_residual.ensures.1 in
    rw (p.1, p.2, ← c.in_err-conit.ensures.exact) refl

pub returns-in_err-replica : goal.returns-in_err-replica
unfolding wait_order_at
returns-in_err-replica c =
    let p = err_from_is_err_and c.from_residual-in_err-replica.result c.from_residual-in_err-replica.ensures.1 in
    rw (p.1, p.2, ← c.in_ok-conit.ensures.exact, ← c.in_err-replica.ensures.exact) refl

pub returns-in_err-tentative : goal.returns-in_err-tentative
unfolding wait_order_at
returns-in_err-tentative c =
    let p = err_from_is_err_and c.from_residual-in_err-tentative.result c.from_residual-in_err-tentative.ensures.1 in
    rw (p.1, p.2, ← c.in_ok-conit.ensures.exact, ← c.in_ok-replica.ensures.exact, ← c.in_err-tentative.ensures.exact) refl

pub returns-in_err-order : goal.returns-in_err-order
unfolding wait_order_at
returns-in_err-order c =
    let p = err_from_is_err_and c.from_residual-in_err-order.result c.from_residual-in_err-order.ensures.1 in
    rw (p.1, p.2, ← c.in_ok-conit.ensures.exact, ← c.in_ok-replica.ensures.exact, ← c.in_ok-tentative.ensures.exact, ← c.in_err-order.ensures.exact) refl

pub returns : goal.returns
unfolding wait_order_at
returns c = rw (← c.in_ok-conit.ensures.exact, ← c.in_ok-replica.ensures.exact, ← c.in_ok-tentative.ensures.exact, ← c.in_ok-order.ensures.exact) refl
