-- The numerical budgets of one replica: its shares of the bounds of the others, what its own writes use of them, and
-- what it lends of its own bound (this project's own rule).
use Rattle.std.specs.Prelude.{◌≢◌, ℕ, ◌+◌, ◌-◌, ◌*◌, ◌/◌, ◌%◌, ◌<◌, max, ℤ, List, [], ◌∷◌, length, drop, map, sum, sum_by, replicate, slice_index}
use Rattle.std.specs.List.{flat_map, range_with_len}
use Rattle.tact_base.specs.Covers.{least_of}
use Rattle.tact_base.specs.Setup.{Setup, IsSetup, peers_of, place_of, alpha_of, loan_of}
use Rattle.tact_base.specs.Sums.{above_zero, below_zero, on_conit}
use Rattle.tact_base.specs.declared.conit_list.Weight.{Weight}
use Rattle.split_budget.specs.declared.budget.Budget.{Budget}

-- The setup, and the replica; how many of the replica's first own writes are given up, which each peer is known to
-- have, and the weights of the own writes after these, in order; how many own writes each replica is known to have; by
-- conit, what is reserved; by replica and then conit, all that was ever lent to it and all that it told it lent, all
-- that was ever given back to it and all that it told it gave back; and how many more writes can surely be added
-- without taking memory.
pub record BudgetState : Type 0 where
  pub setup : Setup
  pub replica : ℕ
  pub given_up : ℕ
  pub weights : List (List Weight)
  pub known : List ℕ
  pub reserved : List ℕ
  pub lent : List ℕ
  pub lent_known : List ℕ
  pub returned : List ℕ
  pub returned_known : List ℕ
  pub room : ℕ

-- the setup of a budget
abbrev pub setup_of : Budget → Setup
setup_of b = record { replicas = b.replicas; conits = b.conits; alphas = b.alphas; loans = b.loans }

-- its setup is without a fault, and its replica is one of the setup's
pub record IsBudget (b : Budget) : Type 0 where
  pub setup : IsSetup (setup_of b)
  pub replica : b.replica < b.replicas

-- a number for each replica and conit, by replica and then conit
abbrev pub by_place : Setup → (ℕ → ℕ → ℕ) → List ℕ
by_place setup number =
    map (λ place. number (place / setup.conits) (place % setup.conits)) (range_with_len 0 (setup.replicas * setup.conits))

-- the state of a replica of a setup at the opening, with so much room
abbrev pub opening : Setup → ℕ → ℕ → BudgetState
opening setup replica room = record {
  setup = setup;
  replica = replica;
  given_up = 0;
  weights = [];
  known = replicate setup.replicas 0;
  reserved = replicate setup.conits 0;
  lent = by_place setup (λ holder conit. loan_of setup replica conit holder);
  lent_known = by_place setup (λ owner conit. loan_of setup owner conit replica);
  returned = replicate (setup.replicas * setup.conits) 0;
  returned_known = replicate (setup.replicas * setup.conits) 0;
  room = room;
}

-- a replica other than the one whose budgets these are
abbrev pub IsPeer : BudgetState → ℕ → Type 0
IsPeer s peer = (peer < s.setup.replicas) × (peer ≢ s.replica)

-- what is reserved on a conit
abbrev pub reserved_on : BudgetState → ℕ → ℕ
reserved_on s conit = slice_index s.reserved conit

-- all that was ever lent to a holder, the opening loan included, and the greatest of what it told it gave back
abbrev pub lent_to : BudgetState → ℕ → ℕ → ℕ
lent_to s holder conit = slice_index s.lent (place_of s.setup holder conit)

abbrev pub returned_by : BudgetState → ℕ → ℕ → ℕ
returned_by s holder conit = slice_index s.returned_known (place_of s.setup holder conit)

-- the greatest of what an owner told it lent, the opening loan included, and all that was ever given back to it
abbrev pub lent_by : BudgetState → ℕ → ℕ → ℕ
lent_by s owner conit = slice_index s.lent_known (place_of s.setup owner conit)

abbrev pub returned_to : BudgetState → ℕ → ℕ → ℕ
returned_to s owner conit = slice_index s.returned (place_of s.setup owner conit)

-- the share of an owner's bound
abbrev pub share : BudgetState → ℕ → ℕ → ℕ
share s owner conit = lent_by s owner conit - returned_to s owner conit

-- what a holder has of the replica's own bound
abbrev pub out : BudgetState → ℕ → ℕ → ℕ
out s holder conit = lent_to s holder conit - returned_by s holder conit

-- what all peers have of it
abbrev pub all_out : BudgetState → ℕ → ℕ
all_out s conit = sum (map (λ peer. out s peer conit) (peers_of s.setup s.replica))

-- what of it is at home
abbrev pub home : BudgetState → ℕ → ℕ
home s conit = alpha_of s.setup s.replica conit - all_out s conit

-- the sum of a part of each nweight on a conit, of weights
abbrev pub part_sum : (ℤ → ℕ) → ℕ → List Weight → ℕ
part_sum part conit weights = sum_by (λ weight. part weight.nweight) (on_conit conit weights)

-- the same of the weights of writes
abbrev pub part_on : (ℤ → ℕ) → ℕ → List (List Weight) → ℕ
part_on part conit writes = part_sum part conit (flat_map (λ weights. weights) writes)

-- the weights of the writes that a peer isn't known to have
abbrev pub maybe_missed : BudgetState → ℕ → List (List Weight)
maybe_missed s peer = drop (slice_index s.known peer - s.given_up) s.weights

-- the sum of their positive nweights on a conit, and that of the sizes of their negative ones
abbrev pub missing_plus : BudgetState → ℕ → ℕ → ℕ
missing_plus s peer conit = part_on above_zero conit (maybe_missed s peer)

abbrev pub missing_minus : BudgetState → ℕ → ℕ → ℕ
missing_minus s peer conit = part_on below_zero conit (maybe_missed s peer)

abbrev pub greater_missing : BudgetState → ℕ → ℕ → ℕ
greater_missing s peer conit = max (missing_plus s peer conit) (missing_minus s peer conit)

-- what of its share of an owner's bound covers nothing
abbrev pub free : BudgetState → ℕ → ℕ → ℕ
free s owner conit = share s owner conit - greater_missing s owner conit - reserved_on s conit

-- how many of the writes that are kept each peer is known to have
abbrev pub had_by_all : BudgetState → ℕ
had_by_all s = least_of (length s.weights ∷ map (λ peer. slice_index s.known peer - s.given_up) (peers_of s.setup s.replica))

-- these are given up
abbrev pub with_given_up : BudgetState → BudgetState
with_given_up s = record s { given_up = s.given_up + had_by_all s; weights = drop (had_by_all s) s.weights }
