use Rattle.std.proofs.Common.{refl}
use Rattle.std.proofs.lemmas.Result.{err_from_is_err_and}
use Rattle.run_model.specs.Bytes.{add_at}
use Rattle.run_model.proofs.get_bytes.add_at.Goals as goal

pub returns-in_err-key-clause-exact : goal.returns-in_err-key-clause-exact
unfolding add_at
returns-in_err-key-clause-exact c =
    let p = err_from_is_err_and c.from_residual.result c.from_residual.ensures.1 in
    rw (p.1, p.2, ← c.in_err-key.ensures.exact) refl

pub returns-in_err-delta-clause-exact : goal.returns-in_err-delta-clause-exact
unfolding add_at
returns-in_err-delta-clause-exact c =
    let p = err_from_is_err_and c.from_residual-in_err-delta.result c.from_residual-in_err-delta.ensures.1 in
    rw (p.1, p.2, ← c.in_ok-key.ensures.exact, ← c.in_err-delta.ensures.exact) refl
