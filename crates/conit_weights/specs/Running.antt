-- The sums of a changing collection of the weights of writes.
use Rattle.std.specs.Prelude.{ℕ, ℤ, pos, ◌-ℤ◌, List, ◌∷◌, ◌++◌, length, map}
use Rattle.tact_base.specs.declared.conit_list.Weight.{Weight}
use Rattle.conit_sums.specs.declared.Summed.{Summed}
use Rattle.conit_sums.specs.declared.Summed.TheVariants.{Plus, Minus, Order}
use Rattle.conit_sums.specs.ConitSums.{SumsState, AreSmall, AreSumsOf, sum_of}
use Rattle.conit_weights.specs.declared.running.OnConit.{OnConit}

-- the positive nweights, the negative ones and the oweights, each summed by conit
pub record RunningState : Type 0 where
  pub plus : SumsState
  pub minus : SumsState
  pub order : SumsState

-- on how many conits, and over the weights of how many writes
abbrev pub conits_of : RunningState → ℕ
conits_of state = length state.plus.sums

abbrev pub held_of : RunningState → ℕ
held_of state = state.plus.held

-- they are the sums of the weights of these writes
pub record HoldsAll (state : RunningState) (writes : List (List Weight)) : Type 0 where
  pub plus : AreSumsOf state.plus writes
  pub minus : AreSumsOf state.minus writes
  pub order : AreSumsOf state.order writes

-- such weights were added and not removed
pub record WasAdded (state : RunningState) (weights : List Weight) : Type 0 where
  pub front : List (List Weight)
  pub rest : List (List Weight)
  pub sums : HoldsAll state (front ++ weights ∷ rest)

-- by how much these writes change the value of a conit
abbrev pub net_of : List (List Weight) → ℕ → ℤ
net_of writes conit = pos (sum_of Plus writes conit) -ℤ pos (sum_of Minus writes conit)

-- Each of the three is kept beside the others on its conit.
abbrev pub part_of : Summed → OnConit → ℕ
part_of Plus on = on.plus
part_of Minus on = on.minus
part_of Order on = on.order

-- one of them on each conit, over the weights of so many writes
abbrev pub seen_of : Summed → List OnConit → ℕ → SumsState
seen_of summed sums held = record { summed = summed; sums = map (part_of summed) sums; held = held }

-- what is kept of each
abbrev pub AreAllSmall : ℕ → List OnConit → Type 0
AreAllSmall held sums = (summed : Summed) → AreSmall held (map (part_of summed) sums)
