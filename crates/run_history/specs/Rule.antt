-- The history rule, which holds of the history table between any two steps: there is one history, which is a
-- run; word 0 counts its entries and word 1 the enrolled clerks; and what each seat knows is of that history.
use Rattle.std.specs.Prelude.{◌≡◌, ◌≢◌, ℕ, ◌<◌, ◌≤◌, true, List, [], All, AllPairs, Contains, map, length, slice_index}
use mathlib.Core.Option.{some}
use lib.ListN.{get_elem?}
use Rattle.atomic_table.specs.Table.{State}
use Rattle.tact_base.specs.Setup.{Setup, IsSetup}
use Rattle.run_model.specs.Histories.{part_of, IsPrefix}
use Rattle.run_model.specs.Runs.{IsRun}
use Rattle.run_model.specs.declared.entry.Entry.{Entry}
use Rattle.run_history.specs.declared.view.Part.{Part}
use Rattle.run_history.specs.declared.view.View.{View}
use Rattle.run_history.specs.Ticks.{drawn_by}

-- A part at a seat that has seen a front of the history: the part has all that its replica drew, and the seat
-- has seen all of it.
pub record FitsPart (words : List ℕ) (seat_of : ℕ → ℕ) (history : List Entry) (id : ℕ) (known : List Entry) (part : Part)
    : Type 0 where
  pub drawn : part.pairs ≡ drawn_by history part.replica
  pub whole : part_of known part.replica ≡ part_of history part.replica
  pub here : seat_of part.replica ≡ id
  pub born : part.replica < slice_index words 1

-- What a seat has seen is a front of the history, and what it saw earlier a front of that; its parts fit, and
-- are of different replicas. The one seat that enrols is the first.
pub record FitsSeat (words : List ℕ) (seat_of : ℕ → ℕ) (history : List Entry) (id : ℕ) (view : View)
    : Type 0 where
  pub front : IsPrefix view.seen history
  pub fronts : All (λ old. IsPrefix old view.seen) view.olds
  pub fitting : All (FitsPart words seat_of history id view.seen) view.parts
  pub apart : AllPairs (λ (one other : Part). one.replica ≢ other.replica) view.parts
  pub opener : view.opens ≡ true → (id ≡ 0) × (view.enrolled ≡ slice_index words 1)

-- a seat has the part of a replica
pub record HasPart (views : List View) (id replica : ℕ) : Type 0 where
  pub view : View
  pub at : get_elem? views id ≡ some view
  pub part : Contains (map (λ (part : Part). part.replica) view.parts) replica

-- The rule. `seat_of` says which seat has the part of a replica.
pub record IsOneHistory (setup : Setup) (words : List ℕ) (views : List View) : Type 0 where
  pub history : List Entry
  pub seat_of : ℕ → ℕ
  pub good : IsSetup setup
  pub run : IsRun setup history
  pub size : length words ≡ 2
  pub drawn : slice_index words 0 ≡ length history
  pub enrolled : slice_index words 1 ≤ setup.replicas
  pub unborn : (replica : ℕ) → slice_index words 1 ≤ replica → part_of history replica ≡ []
  pub held : (replica : ℕ) → replica < slice_index words 1 → HasPart views (seat_of replica) replica
  pub seats : (id : ℕ) (view : View) → get_elem? views id ≡ some view
      → FitsSeat words seat_of history id view

-- the rule of a table for a setup, which has no slots
abbrev pub KeepsHistory : Setup → State (Unit {0}) View → Type 0
KeepsHistory setup state = IsOneHistory setup state.words state.views
