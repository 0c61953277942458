-- What the history rule says of the pairs that seats have.
use Rattle.std.specs.Prelude.{◌≡◌, ℕ, ◌<◌, ◌≤◌, List, All, AllPairs, length, slice_get, Some}
use mathlib.Core.Option.{some}
use lib.ListN.{get_elem?}
use Rattle.tact_base.specs.declared.limits.TheConstants.{HISTORY_MAX}
use Rattle.tact_base.specs.Setup.{Setup}
use Rattle.run_model.specs.Histories.{IsPrefix}
use Rattle.run_model.specs.Runs.{IsRun}
use Rattle.run_model.specs.declared.entry.Entry.{Entry}
use Rattle.run_history.specs.declared.view.Part.{Part}
use Rattle.run_history.specs.declared.view.View.{View}

-- a part stands at a place at a seat
pub record HoldsPart (views : List View) (seat place : ℕ) (part : Part) : Type 0 where
  pub view : View
  pub at_seat : get_elem? views seat ≡ some view
  pub at_place : get_elem? view.parts place ≡ some part

-- a pair stands at an index of such a part
pub record HoldsPair (views : List View) (seat place index : ℕ) (pair : ℕ × Entry) : Type 0 where
  pub part : Part
  pub held : HoldsPart views seat place part
  pub at_index : get_elem? part.pairs index ≡ some pair

-- just one pair of all parts has the tick
pub record IsDrawnOnce (views : List View) (tick : ℕ) : Type 0 where
  pub seat : ℕ
  pub place : ℕ
  pub index : ℕ
  pub entry : Entry
  pub stands : HoldsPair views seat place index (tick, entry)
  pub only : (other_seat other_place other_index : ℕ) (other : Entry)
      → HoldsPair views other_seat other_place other_index (tick, other)
      → (other_seat ≡ seat) × (other_place ≡ place) × (other_index ≡ index)

-- a part's ticks rise, its entries name its replica, which is below a count, and it isn't too long
pub record IsDrawnPart (enrolled : ℕ) (part : Part) : Type 0 where
  pub ticks : AllPairs (λ (one other : ℕ × Entry). one.0 < other.0) part.pairs
  pub entries : All (λ (pair : ℕ × Entry). pair.1.replica ≡ part.replica) part.pairs
  pub replica : part.replica < enrolled
  pub room : length part.pairs ≤ HISTORY_MAX

-- The history by tick of all parts is a run, and all that the seats have seen are fronts of it.
pub record IsHistoryOf (setup : Setup) (count : ℕ) (views : List View) (history : List Entry)
    : Type 0 where
  pub run : IsRun setup history
  pub size : length history ≡ count
  pub merge : (seat place index tick : ℕ) (entry : Entry)
      → HoldsPair views seat place index (tick, entry) → slice_get history tick ≡ Some entry
  pub fronts : (seat : ℕ) (view : View) → get_elem? views seat ≡ some view
      → IsPrefix view.seen history × All (λ old. IsPrefix old history) view.olds
  pub olds : (seat : ℕ) (view : View) → get_elem? views seat ≡ some view
      → All (λ old. IsPrefix old view.seen) view.olds
