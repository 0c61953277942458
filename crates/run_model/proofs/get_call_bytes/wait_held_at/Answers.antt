use Rattle.std.proofs.Common.{refl}
use Rattle.std.proofs.lemmas.Result.{err_from_is_err_and}
use Rattle.run_model.specs.CallBytes.{wait_held_at}
use Rattle.run_model.proofs.get_call_bytes.wait_held_at.Goals as goal

pub returns-in_err-conit : goal.returns-in_err-conit
unfolding wait_held_at
returns-in_err-conit c =
    let p = err_from_is_err_and c.from_residual.result c.from_residual.ensures.1 in
    rw (p.1, p.2, ← c.in_err-conit.ensures.exact) refl

pub returns-in_err-peer : goal.returns-in_err-peer
unfolding wait_held_at
returns-in_err-peer c =
    let p = err_from_is_err_and c.from_residual-in_err-peer.result c.from_residual-in_err-peer.ensures.1 in
    rw (p.1, p.2, ← c.in_ok-conit.ensures.exact, ← c.in_err-peer.ensures.exact) refl

pub returns-in_err-reserved : goal.returns-in_err-reserved
unfolding wait_held_at
returns-in_err-reserved c =
    let p = err_from_is_err_and c.from_residual-in_err-reserved.result c.from_residual-in_err-reserved.ensures.1 in
    rw (p.1, p.2, ← c.in_ok-conit.ensures.exact, ← c.in_ok-peer.ensures.exact, ← c.in_err-reserved.ensures.exact) refl

pub returns-in_err-weight : goal.returns-in_err-weight
unfolding wait_held_at
returns-in_err-weight c =
    let p = err_from_is_err_and c.from_residual-in_err-weight.result c.from_residual-in_err-weight.ensures.1 in
    rw (p.1, p.2, ← c.in_ok-conit.ensures.exact, ← c.in_ok-peer.ensures.exact, ← c.in_ok-reserved.ensures.exact, ← c.in_err-weight.ensures.exact) refl

pub returns-in_err-share : goal.returns-in_err-share
unfolding wait_held_at
returns-in_err-share c =
    let p = err_from_is_err_and c.from_residual-in_err-share.result c.from_residual-in_err-share.ensures.1 in
    rw (p.1, p.2, ← c.in_ok-conit.ensures.exact, ← c.in_ok-peer.ensures.exact, ← c.in_ok-reserved.ensures.exact, ← c.in_ok-weight.ensures.exact, ← c.in_err-share.ensures.exact) refl

pub returns : goal.returns
unfolding wait_held_at
returns c =
    rw (← c.in_ok-conit.ensures.exact, ← c.in_ok-peer.ensures.exact, ← c.in_ok-reserved.ensures.exact, ← c.in_ok-weight.ensures.exact, ← c.in_ok-share.ensures.exact) refl
