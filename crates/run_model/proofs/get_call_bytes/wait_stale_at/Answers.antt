use Rattle.std.proofs.Common.{refl}
use Rattle.std.proofs.lemmas.Result.{err_from_is_err_and}
use Rattle.run_model.specs.CallBytes.{wait_stale_at}
use Rattle.run_model.proofs.get_call_bytes.wait_stale_at.Goals as goal

pub returns-in_err-conit : goal.returns-in_err-conit
unfolding wait_stale_at
returns-in_err-conit c =
    let p = err_from_is_err_and c.from_residual.result c.from_residual.ensures.1 in
    rw (p.1, p.2, ← c.in_err-conit.ensures.exact) refl

pub returns-in_err-replica : goal.returns-in_err-replica
unfolding wait_stale_at
returns-in_err-replica c =
    let p = err_from_is_err_and c.from_residual-in_err-replica.result c.from_residual-in_err-replica.ensures.1 in
    rw (p.1, p.2, ← c.in_ok-conit.ensures.exact, ← c.in_err-replica.ensures.exact) refl

pub returns-in_err-moment : goal.returns-in_err-moment
unfolding wait_stale_at
returns-in_err-moment c =
    let p = err_from_is_err_and c.from_residual-in_err-moment.result c.from_residual-in_err-moment.ensures.1 in
    rw (p.1, p.2, ← c.in_ok-conit.ensures.exact, ← c.in_ok-replica.ensures.exact, ← c.in_err-moment.ensures.exact) refl

pub returns-in_err-wanted : goal.returns-in_err-wanted
unfolding wait_stale_at
returns-in_err-wanted c =
    let p = err_from_is_err_and c.from_residual-in_err-wanted.result c.from_residual-in_err-wanted.ensures.1 in
    rw (p.1, p.2, ← c.in_ok-conit.ensures.exact, ← c.in_ok-replica.ensures.exact, ← c.in_ok-moment.ensures.exact, ← c.in_err-wanted.ensures.exact) refl

pub returns : goal.returns
unfolding wait_stale_at
returns c = rw (← c.in_ok-conit.ensures.exact, ← c.in_ok-replica.ensures.exact, ← c.in_ok-moment.ensures.exact, ← c.in_ok-wanted.ensures.exact) refl
