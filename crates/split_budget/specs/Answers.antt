-- How a weight, or an amount to be reserved, meets the shares: the answer of the first peer that doesn't let it
-- through.
use Rattle.std.specs.Prelude.{ℕ, ℤ, pos, negsuc, unsigned_abs, Bool, true, false, List, map, filter, slice_index_or}
use Rattle.tact_base.specs.Setup.{peers_of}
use Rattle.tact_base.specs.Shares.{fit_of}
use Rattle.tact_base.specs.declared.conit_list.Weight.{Weight}
use Rattle.tact_base.specs.declared.fit.Fit.{Fit}
use Rattle.tact_base.specs.declared.fit.Fit.TheVariants.{Fits}
use Rattle.split_budget.specs.declared.side.Side.{Side}
use Rattle.split_budget.specs.declared.side.Side.TheVariants.{Plus, Minus, Greater}
use Rattle.split_budget.specs.Budgets.{BudgetState, share, reserved_on, missing_plus, missing_minus, greater_missing}

-- all answers but one refuse
abbrev pub refuses : Fit → Bool
refuses Fits = false
refuses other = true

-- the first of some answers that refuses; where none does, it fits
abbrev pub first_refusal : List Fit → Fit
first_refusal fits = slice_index_or (filter refuses fits) 0 Fits

-- what an amount on a conit gets of a peer that may miss so much beside it
abbrev pub fit_by : BudgetState → ℕ → ℕ → ℕ → ℕ → Fit
fit_by s conit amount peer missing = fit_of peer (share s peer conit) (reserved_on s conit) missing amount

-- the answer to an amount on a conit, where each peer may miss so much beside it
abbrev pub answer : BudgetState → ℕ → ℕ → (ℕ → ℕ) → Fit
answer s conit amount missing =
    first_refusal (map (λ peer. fit_by s conit amount peer (missing peer)) (peers_of s.setup s.replica))

-- which of the two sums counts against a weight
abbrev pub side_of : ℤ → Side
side_of (pos n) = Plus
side_of (negsuc n) = Minus

-- what a peer may miss on a side, or on the greater of both
abbrev pub missing_on : Side → BudgetState → ℕ → ℕ → ℕ
missing_on Plus s conit peer = missing_plus s peer conit
missing_on Minus s conit peer = missing_minus s peer conit
missing_on Greater s conit peer = greater_missing s peer conit

-- the answer to a weight
abbrev pub weight_answer : BudgetState → Weight → Fit
weight_answer s weight =
    answer s weight.conit (unsigned_abs weight.nweight) (missing_on (side_of weight.nweight) s weight.conit)

-- the answer to an amount to be reserved on a conit
abbrev pub reserve_answer : BudgetState → ℕ → ℕ → Fit
reserve_answer s conit amount = answer s conit amount (missing_on Greater s conit)
