-- A number of weights, summed by conit over a changing collection of the weights of writes.
use Rattle.std.specs.Prelude.{◌≡◌, ℕ, ◌*◌, ◌≤◌, List, ◌∷◌, ◌++◌, All, length, sum_by, slice_index}
use Rattle.tact_base.specs.Sums.{above_zero, below_zero, on_conit}
use Rattle.tact_base.specs.declared.conit_list.Weight.{Weight}
use Rattle.tact_base.specs.declared.limits.TheConstants.{WEIGHT_MAX, SUMMED_WRITES}
use Rattle.conit_sums.specs.declared.Summed.{Summed}
use Rattle.conit_sums.specs.declared.Summed.TheVariants.{Plus, Minus, Order}

-- what is summed, its sum on each conit, and over the weights of how many writes
pub record SumsState : Type 0 where
  pub summed : Summed
  pub sums : List ℕ
  pub held : ℕ

-- the number of a weight that is summed
abbrev pub number_of : Summed → Weight → ℕ
number_of Plus weight = above_zero weight.nweight
number_of Minus weight = below_zero weight.nweight
number_of Order weight = weight.oweight

-- its sum on a conit, over the weights of one write, and over those of several
abbrev pub write_sum : Summed → List Weight → ℕ → ℕ
write_sum summed weights conit = sum_by (number_of summed) (on_conit conit weights)

abbrev pub sum_of : Summed → List (List Weight) → ℕ → ℕ
sum_of summed writes conit = sum_by (λ weights. write_sum summed weights conit) writes

-- The sums are those of the weights of these writes, each of which has as much on a conit as a weight may have.
pub record AreSumsOf (state : SumsState) (writes : List (List Weight)) : Type 0 where
  pub held : state.held ≡ length writes
  pub sums : (conit : ℕ) → slice_index state.sums conit ≡ sum_of state.summed writes conit
  pub small : All (λ weights. (conit : ℕ) → write_sum state.summed weights conit ≤ WEIGHT_MAX) writes

-- such weights were added and not removed
pub record Holds (state : SumsState) (weights : List Weight) : Type 0 where
  pub front : List (List Weight)
  pub rest : List (List Weight)
  pub sums : AreSumsOf state (front ++ weights ∷ rest)

-- What all sums keep: they are of few writes, and so small.
pub record AreSmall (held : ℕ) (sums : List ℕ) : Type 0 where
  pub few : held ≤ SUMMED_WRITES
  pub small : (conit : ℕ) → slice_index sums conit ≤ held * WEIGHT_MAX
