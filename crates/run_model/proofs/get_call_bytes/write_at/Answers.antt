use Rattle.std.proofs.Common.{refl}
use Rattle.std.proofs.lemmas.Result.{err_from_is_err_and}
use Rattle.run_model.specs.CallBytes.{write_at}
use Rattle.run_model.proofs.get_call_bytes.write_at.Goals as goal

pub returns-in_err-weights : goal.returns-in_err-weights
unfolding write_at
returns-in_err-weights c =
    let p = err_from_is_err_and c.from_residual.result c.from_residual.ensures.1 in
    rw (p.1, p.2, ← c.in_err-weights.ensures.exact) refl

pub returns-in_err-op : goal.returns-in_err-op
unfolding write_at
returns-in_err-op c =
    let p = err_from_is_err_and c.from_residual-in_err-op.result c.from_residual-in_err-op.ensures.1 in
    rw (p.1, p.2, ← c.in_ok-weights.ensures.exact, ← c.in_err-op.ensures.exact) refl

pub returns : goal.returns
unfolding write_at
returns c = rw (← c.in_ok-weights.ensures.exact, ← c.in_ok-op.ensures.exact) refl
