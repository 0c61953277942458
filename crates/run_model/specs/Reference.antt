-- What is true of a whole history, and how far from it a replica is (the three errors after Yu and Vahdat's conits).
use Rattle.std.specs.Prelude.{ℕ, ◌-◌, ◌<◌, ℤ, ◌-ℤ◌, unsigned_abs, List, [], ◌∷◌, filter, map, nat_le, Any}
use Rattle.std.specs.List.{flat_map}
use Rattle.tact_base.specs.Covers.{least_of}
use Rattle.tact_base.specs.Sums.{net_sum, order_sum}
use Rattle.tact_base.specs.declared.write.Write.{Write}
use Rattle.tact_base.specs.Setup.{Setup, replicas_of, peers_of}
use Rattle.run_model.specs.Histories.{part_of}
use Rattle.run_model.specs.OwnWrites.{own}
use Rattle.run_model.specs.Taking.{have}
use Rattle.run_model.specs.Order.{tentative, value}
use Rattle.run_model.specs.declared.entry.Entry.{Entry}

-- all writes that were accepted
abbrev pub all_writes : Setup → List Entry → List Write
all_writes setup history = flat_map (λ replica. own (part_of history replica)) (replicas_of setup)

-- the reference value of a conit
abbrev pub reference : Setup → List Entry → ℕ → ℤ
reference setup history conit = net_sum (all_writes setup history) conit

-- the writes of an origin that a replica hasn't seen
abbrev pub unseen : List Entry → ℕ → ℕ → List Write
unseen history origin replica = filter (λ write. nat_le (have replica (part_of history replica) origin) write.index) (own (part_of history origin))

-- how far a replica's value is off
abbrev pub num_error : Setup → List Entry → ℕ → ℕ → ℕ
num_error setup history replica conit = unsigned_abs (reference setup history conit -ℤ value setup replica (part_of history replica) conit)

-- how much order weight is tentative at a replica
abbrev pub order_error : Setup → List Entry → ℕ → ℕ → ℕ
order_error setup history replica conit = order_sum (tentative setup replica (part_of history replica)) conit

-- the writes of all others that a replica hasn't seen
abbrev pub unseen_by : Setup → List Entry → ℕ → List Write
unseen_by setup history replica = flat_map (λ origin. unseen history origin replica) (peers_of setup replica)

-- one of them was accepted before a moment
abbrev pub Misses : Setup → List Entry → ℕ → ℕ → Type 0
Misses setup history replica wanted = Any (λ (write : Write). write.moment < wanted) (unseen_by setup history replica)

-- how old the oldest of them is at a moment, 0 where there is none
abbrev pub age_from : ℕ → List ℕ → ℕ
age_from moment [] = 0
age_from moment (first ∷ rest) = moment - least_of (first ∷ rest)

abbrev pub age : Setup → List Entry → ℕ → ℕ → ℕ
age setup history replica moment = age_from moment (map (λ write. write.moment) (unseen_by setup history replica))
