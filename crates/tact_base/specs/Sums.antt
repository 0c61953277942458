-- The four sums of weights on a conit, over a list of writes (after Yu and Vahdat's conits; the two sums by sign are
-- this project's own).
use Rattle.std.specs.Prelude.{ℕ, ℤ, pos, negsuc, suc, ◌+ℤ◌, ◌==◌, List, [], ◌∷◌, filter, map, sum_by}
use Rattle.std.specs.List.{flat_map}
use Rattle.tact_base.specs.declared.conit_list.Weight.{Weight}
use Rattle.tact_base.specs.declared.write.Write.{Write}

-- how far a number is above 0, and how far below
abbrev pub above_zero : ℤ → ℕ
above_zero (pos n) = n
above_zero (negsuc n) = 0

abbrev pub below_zero : ℤ → ℕ
below_zero (pos n) = 0
below_zero (negsuc n) = suc n

-- the weights of a list that are on a conit
abbrev pub on_conit : ℕ → List Weight → List Weight
on_conit conit weights = filter (λ weight. weight.conit == conit) weights

-- the weights that writes have on a conit
abbrev pub weights_on : List Write → ℕ → List Weight
weights_on writes conit = on_conit conit (flat_map (λ write. write.weights) writes)

-- the sum of the positive nweights on a conit
abbrev pub plus_sum : List Write → ℕ → ℕ
plus_sum writes conit = sum_by (λ weight. above_zero weight.nweight) (weights_on writes conit)

-- the sum of the sizes of the negative nweights
abbrev pub minus_sum : List Write → ℕ → ℕ
minus_sum writes conit = sum_by (λ weight. below_zero weight.nweight) (weights_on writes conit)

-- the sum of signed numbers
abbrev pub signed_sum : List ℤ → ℤ
signed_sum [] = pos 0
signed_sum (z ∷ zs) = z +ℤ signed_sum zs

-- the sum of the nweights: by how much the writes change the conit's value
abbrev pub net_sum : List Write → ℕ → ℤ
net_sum writes conit = signed_sum (map (λ weight. weight.nweight) (weights_on writes conit))

-- the sum of the oweights
abbrev pub order_sum : List Write → ℕ → ℕ
order_sum writes conit = sum_by (λ weight. weight.oweight) (weights_on writes conit)
