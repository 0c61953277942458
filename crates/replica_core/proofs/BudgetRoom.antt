-- What budgets answer doesn't depend on their room.
use Rattle.std.proofs.Common.{◌≡◌, ℕ, ℤ, pos, negsuc, unsigned_abs, List, Option, None, Some, refl, sym, ◌∙◌}
use Rattle.std.proofs.lemmas.List.Elements.{All-weaker}
use Rattle.tact_base.specs.declared.fit.Fit.TheVariants.{Fits}
use Rattle.replica_core.specs.Calling.{MayCount}
use Rattle.tact_base.specs.declared.conit_list.Weight.{Weight}
use Rattle.split_budget.specs.Budgets.{BudgetState}
use Rattle.split_budget.specs.Answers.{answer, missing_on, side_of, weight_answer}

abbrev pub with_room : BudgetState → ℕ → BudgetState
with_room budgets room = record budgets { room = room }

pub weight_answer-room : (budgets : BudgetState) (room : ℕ) (weight : Weight)
    → weight_answer (with_room budgets room) weight ≡ weight_answer budgets weight
weight_answer-room budgets room weight = go weight.nweight
  where
    go : (z : ℤ)
        → answer (with_room budgets room) weight.conit (unsigned_abs z) (missing_on (side_of z) (with_room budgets room) weight.conit)
        ≡ answer budgets weight.conit (unsigned_abs z) (missing_on (side_of z) budgets weight.conit)
    go (pos n) = refl
    go (negsuc n) = refl

pub MayCount-room : (budgets : BudgetState) (room : ℕ) (weights : List Weight) (held : Option Weight)
    → MayCount (with_room budgets room) weights held
    → MayCount budgets weights held
MayCount-room budgets room weights None fits =
    All-weaker (λ (weight : Weight). weight_answer (with_room budgets room) weight ≡ Fits) (λ (weight : Weight). weight_answer budgets weight ≡ Fits)
    (λ weight fits. sym (weight_answer-room budgets room weight) ∙ fits) weights fits
MayCount-room budgets room weights (Some held) counts = counts
