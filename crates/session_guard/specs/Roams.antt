-- Roaming clients and their steps, and what is kept of these.
use Rattle.std.specs.Prelude.{◌≡◌, ℕ, ◌<◌, ◌≤◌, List, [], ◌∷◌, ◌++◌, length}
use Rattle.tact_base.specs.Setup.{Setup}
use Rattle.run_model.specs.declared.entry.Entry.{Entry}
use Rattle.session_guard.specs.Guards.{IsGuarded}
use Rattle.session_guard.specs.Journeys.{Keeps, made_in}
use Rattle.session_guard.specs.Roaming.{Roamed, roamed}
use Rattle.session_guard.specs.Trips.{trip_of}
use Rattle.session_guard.specs.declared.journey.Journey.{Journey}
use Rattle.session_guard.specs.declared.roam.TheConstants.{STEPS_MAX}
use Rattle.session_guard.specs.declared.steps.Handed.{Handed}
use Rattle.session_guard.specs.declared.steps.Step.{Step}

-- the setup, how many passes there are, and the steps with their moments
pub record RoamState : Type 0 where
  pub setup : Setup
  pub passes : ℕ
  pub steps : List Handed

abbrev pub with_step : RoamState → ℕ → Step → RoamState
with_step state moment step = record state { steps = state.steps ++ record { moment = moment; step = step } ∷ [] }

-- what the steps made, and of that the entries
abbrev pub roamed_by : RoamState → Roamed
roamed_by state = roamed state.setup state.passes state.steps

abbrev pub entries_of : RoamState → List Entry
entries_of state = (roamed_by state).entries

-- the trip of each client is guarded
abbrev pub AreAllGuarded : RoamState → Type 0
AreAllGuarded state = (pass : ℕ) → pass < state.passes → IsGuarded state.setup (entries_of state) (trip_of (entries_of state) pass)

-- what is kept is what the steps made
pub record HasRoamed (state : RoamState) (journey : Journey) : Type 0 where
  pub keeps : Keeps journey
  pub setup : state.setup ≡ journey.network.setup
  pub passes : state.passes ≡ length journey.clients.items
  pub made : roamed_by state ≡ made_in journey (roamed_by state).outcomes
  pub few : length journey.network.entries ≤ length state.steps
  pub most : length state.steps ≤ STEPS_MAX
