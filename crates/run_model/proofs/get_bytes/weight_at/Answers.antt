use Rattle.std.proofs.Common.{refl}
use Rattle.std.proofs.lemmas.Result.{err_from_is_err_and}
use Rattle.run_model.specs.Bytes.{weight_at}
use Rattle.run_model.proofs.get_bytes.weight_at.Goals as goal

pub returns-in_err-conit-clause-exact : goal.returns-in_err-conit-clause-exact
unfolding weight_at
returns-in_err-conit-clause-exact c =
    let p = err_from_is_err_and c.from_residual.result c.from_residual.ensures.1 in
    rw (p.1, p.2, ← c.in_err-conit.ensures.exact) refl

pub returns-in_err-nweight-clause-exact : goal.returns-in_err-nweight-clause-exact
unfolding weight_at
returns-in_err-nweight-clause-exact c =
    let p = err_from_is_err_and c.from_residual-in_err-nweight.result c.from_residual-in_err-nweight.ensures.1 in
    rw (p.1, p.2, ← c.in_ok-conit.ensures.exact, ← c.in_err-nweight.ensures.exact) refl

pub returns-in_err-oweight-clause-exact : goal.returns-in_err-oweight-clause-exact
unfolding weight_at
returns-in_err-oweight-clause-exact c =
    let p = err_from_is_err_and c.from_residual-in_err-oweight.result c.from_residual-in_err-oweight.ensures.1 in
    rw (p.1, p.2, ← c.in_ok-conit.ensures.exact, ← c.in_ok-nweight.ensures.exact, ← c.in_err-oweight.ensures.exact) refl
