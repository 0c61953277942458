use Rattle.std.proofs.Common.{refl}
use Rattle.std.proofs.lemmas.Result.{err_from_is_err_and}
use Rattle.run_model.specs.Bytes.{put_at}
use Rattle.run_model.proofs.get_bytes.put_at.Goals as goal

pub returns-in_err-key-clause-exact : goal.returns-in_err-key-clause-exact
unfolding put_at
returns-in_err-key-clause-exact c =
    let p = err_from_is_err_and c.from_residual.result c.from_residual.ensures.1 in
    rw (p.1, p.2, ← c.in_err-key.ensures.exact) refl

pub returns-in_err-value-clause-exact : goal.returns-in_err-value-clause-exact
unfolding put_at
returns-in_err-value-clause-exact c =
    let p = err_from_is_err_and c.from_residual-in_err-value.result c.from_residual-in_err-value.ensures.1 in
    rw (p.1, p.2, ← c.in_ok-key.ensures.exact, ← c.in_err-value.ensures.exact) refl
