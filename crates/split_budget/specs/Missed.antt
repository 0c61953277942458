-- What a peer may miss, summed by conit (this project's own rule).
use Rattle.std.specs.Prelude.{◌≡◌, ℕ, List, length, slice_index}
use Rattle.tact_base.specs.Sums.{above_zero, below_zero}
use Rattle.tact_base.specs.declared.conit_list.Weight.{Weight}
use Rattle.split_budget.specs.Budgets.{part_on}

-- by conit, the sum of the positive nweights, and that of the sizes of the negative ones
pub record MissedState : Type 0 where
  pub plus : List ℕ
  pub minus : List ℕ

-- on how many conits
abbrev pub conits_of : MissedState → ℕ
conits_of m = length m.plus

-- The sums are those of the weights of these writes, on so many conits.
pub record AreMissed (conits : ℕ) (writes : List (List Weight)) (m : MissedState) : Type 0 where
  pub on : conits_of m ≡ conits
  pub plus : (conit : ℕ) → slice_index m.plus conit ≡ part_on above_zero conit writes
  pub minus : (conit : ℕ) → slice_index m.minus conit ≡ part_on below_zero conit writes
