-- Numbers by place. A list that ends has 0 at every place past its end.
use Rattle.std.specs.Prelude.{◌≡◌, ◌≢◌, ℕ, ◌+◌, ◌-◌, ◌≤◌, List, [], ◌∷◌, ◌++◌, replicate, length, slice_index, slice_set}
use Rattle.weight_ledger.specs.Seen.{TallyView}

-- the sums by place
abbrev pub added : List ℕ → List ℕ → List ℕ
added [] ys = ys
added (x ∷ xs) [] = x ∷ xs
added (x ∷ xs) (y ∷ ys) = (x + y) ∷ added xs ys

-- what is left by place
abbrev pub lessened : List ℕ → List ℕ → List ℕ
lessened [] ys = []
lessened (x ∷ xs) [] = x ∷ xs
lessened (x ∷ xs) (y ∷ ys) = (x - y) ∷ lessened xs ys

-- 0 at each of some places
abbrev pub cleared : List ℕ → List ℕ → List ℕ
cleared [] xs = xs
cleared (place ∷ places) xs = cleared places (slice_set xs place 0)

-- what stands at each of some places, and 0 elsewhere
abbrev pub picked : List ℕ → List ℕ → List ℕ
picked places xs = lessened xs (cleared places xs)

abbrev pub zeros : ℕ → List ℕ
zeros n = replicate n 0

-- an amount at one of n places
abbrev pub alone : ℕ → ℕ → ℕ → List ℕ
alone n place amount = slice_set (zeros n) place amount

-- 1 at each owned place, which come behind the shared ones
abbrev pub all_owned : ℕ → ℕ → List ℕ
all_owned shared owned = zeros shared ++ replicate owned 1

-- a tally with all that two have
abbrev pub joined : TallyView → TallyView → TallyView
joined one other = record one { amounts = added one.amounts other.amounts; owns = added one.owns other.owns }

-- a tally without what it had at some places, and one with it
abbrev pub left_after : TallyView → List ℕ → TallyView
left_after before places = record before { amounts = cleared places before.amounts; owns = cleared places before.owns }

abbrev pub gone_after : TallyView → List ℕ → TallyView
gone_after before places = record before { amounts = picked places before.amounts; owns = picked places before.owns }

-- what a tally had at a place has gone to another, which owns it
pub record IsMoved (before left gone : TallyView) (place : ℕ) : Type 0 where
  pub none : slice_index left.amounts place ≡ 0
  pub all : slice_index gone.amounts place ≡ slice_index before.amounts place
  pub lost : slice_index left.owns place ≡ 0
  pub got : slice_index gone.owns place ≡ slice_index before.owns place

-- what a tally had at a place it still has, and another has nothing there
pub record IsLeft (before left gone : TallyView) (place : ℕ) : Type 0 where
  pub all : slice_index left.amounts place ≡ slice_index before.amounts place
  pub none : slice_index gone.amounts place ≡ 0
  pub kept : slice_index left.owns place ≡ slice_index before.owns place
  pub free : slice_index gone.owns place ≡ 0

-- A tally can give these amounts and owned places away: it has each, and whoever of the two then owns a place behind
-- the shared ones has all that the tally had there.
pub record IsPartOf (shared : ℕ) (before : TallyView) (amounts owns : List ℕ) : Type 0 where
  pub size : length amounts ≡ length before.amounts
  pub some : (p : ℕ) → slice_index amounts p ≤ slice_index before.amounts p
  pub owned : (p : ℕ) → slice_index owns p ≤ slice_index before.owns p
  pub whole : (p : ℕ) → slice_index owns p ≢ 0 → slice_index amounts p ≡ slice_index before.amounts p
  pub kept : (p : ℕ) → shared ≤ p → slice_index owns p ≢ slice_index before.owns p → slice_index before.owns p ≢ 0 → slice_index amounts p ≡ 0
