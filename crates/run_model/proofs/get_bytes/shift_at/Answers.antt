use Rattle.std.proofs.Common.{refl}
use Rattle.std.proofs.lemmas.Result.{err_from_is_err_and}
use Rattle.run_model.specs.Bytes.{shift_at}
use Rattle.run_model.proofs.get_bytes.shift_at.Goals as goal

pub returns-in_err-from-clause-exact : goal.returns-in_err-from-clause-exact
unfolding shift_at
returns-in_err-from-clause-exact c =
    let p = err_from_is_err_and c.from_residual.result c.from_residual.ensures.1 in
    rw (p.1, p.2, ← c.in_err-from.ensures.exact) refl

pub returns-in_err-to-clause-exact : goal.returns-in_err-to-clause-exact
unfolding shift_at
returns-in_err-to-clause-exact c =
    let p = err_from_is_err_and c.from_residual-in_err-to.result c.from_residual-in_err-to.ensures.1 in
    rw (p.1, p.2, ← c.in_ok-from.ensures.exact, ← c.in_err-to.ensures.exact) refl

pub returns-in_err-amount-clause-exact : goal.returns-in_err-amount-clause-exact
unfolding shift_at
returns-in_err-amount-clause-exact c =
    let p = err_from_is_err_and c.from_residual-in_err-amount.result c.from_residual-in_err-amount.ensures.1 in
    rw (p.1, p.2, ← c.in_ok-from.ensures.exact, ← c.in_ok-to.ensures.exact, ← c.in_err-amount.ensures.exact) refl

pub returns-clause-exact : goal.returns-clause-exact
unfolding shift_at
returns-clause-exact c = rw (← c.in_ok-from.ensures.exact, ← c.in_ok-to.ensures.exact, ← c.in_ok-amount.ensures.exact) refl
