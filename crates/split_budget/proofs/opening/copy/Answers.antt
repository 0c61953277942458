use Rattle.std.proofs.Common.{◌∙◌, refl}
use Rattle.split_budget.proofs.opening.copy.Goals as goal

pub returns : goal.returns
returns c =
    let alphas = c.in_ok-from_slice.ensures ∙ c.items.ensures in
    let loans = c.in_ok-from_slice-2.ensures ∙ c.items-2.ensures in
    rw (alphas, loans) refl
