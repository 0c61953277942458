-- The own writes of a replica that some other replica may miss, and the sums of what each of these may miss.
use Rattle.std.specs.Prelude.{◌≡◌, ◌≢◌, ◌==◌, ℕ, ◌+◌, ◌-◌, ◌<◌, ◌≤◌, ◌^◌, not, List, [], ◌∷◌, All, length, drop, map, filter, replicate, slice_index, slice_index_or}
use Rattle.std.specs.List.{range_with_len}
use Rattle.tact_base.specs.Covers.{least_of}
use Rattle.tact_base.specs.declared.conit_list.Weight.{Weight}
use Rattle.split_budget.specs.Missed.{MissedState, AreMissed}

-- The replica, and the count of conits; how many of its first writes are given up, and the weights of those after
-- these; how many of its writes each replica is known to have; and how many more can surely be added without taking
-- memory.
pub record OwnState : Type 0 where
  pub replica : ℕ
  pub conits : ℕ
  pub given_up : ℕ
  pub weights : List (List Weight)
  pub known : List ℕ
  pub room : ℕ

-- no write yet
abbrev pub no_writes : ℕ → ℕ → ℕ → ℕ → OwnState
no_writes replica replicas conits room = record {
  replica = replica;
  conits = conits;
  given_up = 0;
  weights = [];
  known = replicate replicas 0;
  room = room;
}

-- a replica other than the one whose writes these are, and all of them
abbrev pub IsOther : OwnState → ℕ → Type 0
IsOther o peer = (peer < length o.known) × (peer ≢ o.replica)

abbrev pub others_of : OwnState → List ℕ
others_of o = filter (λ peer. not (peer == o.replica)) (range_with_len 0 (length o.known))

-- the weights of the writes that one isn't known to have
abbrev pub missed_by : OwnState → ℕ → List (List Weight)
missed_by o peer = drop (slice_index o.known peer - o.given_up) o.weights

-- how many of the writes that are kept each other replica is known to have
abbrev pub had : OwnState → ℕ
had o = least_of (length o.weights ∷ map (λ peer. slice_index o.known peer - o.given_up) (others_of o))

-- these are given up
abbrev pub without_had : OwnState → OwnState
without_had o = record o { given_up = o.given_up + had o; weights = drop (had o) o.weights }

-- all weights are on conits that there are
abbrev pub OnConits : ℕ → List (List Weight) → Type 0
OnConits conits writes = All (λ weights. All (λ weight. weight.conit < conits) weights) writes

-- What is kept whatever is called: the weights are on conits that there are; there are sums for each replica; what is
-- known fits in 64 bits; and each other replica has what is given up, and its sums are those of what it may miss.
pub record KeepsSums (o : OwnState) (missed : List MissedState) : Type 0 where
  pub on_conits : OnConits o.conits o.weights
  pub replicas : length missed ≡ length o.known
  pub fits : All (λ known. known < 2 ^ 64) o.known
  pub given_up : (peer : ℕ) → IsOther o peer → o.given_up ≤ slice_index o.known peer
  pub sums : (peer : ℕ) → IsOther o peer → AreMissed o.conits (missed_by o peer) (slice_index_or missed peer (record { plus = []; minus = [] }))
