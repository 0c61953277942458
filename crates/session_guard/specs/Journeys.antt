-- What is kept of the steps of roaming clients, and what one more step leaves.
use Rattle.std.specs.Prelude.{◌≡◌, ℕ, ◌+◌, ◌≤◌, List, [], ◌∷◌, ◌++◌, length, map, slice_get, Some}
use Rattle.tact_base.specs.Setup.{IsSetup, Setup}
use Rattle.tact_base.specs.declared.limits.TheConstants.{CLIENTS}
use Rattle.run_model.specs.Runs.{IsRun}
use Rattle.run_model.specs.declared.entry.Entry.{Entry}
use Rattle.session_guard.specs.Carried.{IsCarried}
use Rattle.session_guard.specs.Roaming.{Roamed, stepped}
use Rattle.session_guard.specs.Trips.{trip_of}
use Rattle.session_guard.specs.declared.client.Client.{Client}
use Rattle.session_guard.specs.declared.journey.Journey.{Journey}
use Rattle.session_guard.specs.declared.steps.Outcome.{Outcome}
use Rattle.session_guard.specs.declared.steps.Step.{Step}

-- a client with its number, whose trip is the one through a history
pub record IsClient (setup : Setup) (history : List Entry) (number : ℕ) (client : Client) : Type 0 where
  pub trip : client.trip ≡ trip_of history number
  pub carried : IsCarried setup history client.pass client.trip

-- what was made so far
abbrev pub made_in : Journey → List Outcome → Roamed
made_in journey outcomes = record {
  entries = journey.network.entries;
  passes = map (λ (client : Client). client.pass) journey.clients.items;
  outcomes = outcomes;
}

-- What a journey keeps: its entries are a run, and each client's pass is that of its trip.
pub record Keeps (journey : Journey) : Type 0 where
  pub good : IsSetup journey.network.setup
  pub run : IsRun journey.network.setup journey.network.entries
  pub few : length journey.clients.items ≤ CLIENTS
  pub clients : (number : ℕ) (client : Client) → slice_get journey.clients.items number ≡ Some client
      → IsClient journey.network.setup journey.network.entries number client

-- it goes on by a step, with an outcome
pub record GoesOnBy (old new : Journey) (moment : ℕ) (step : Step) (outcome : Outcome) : Type 0 where
  pub keeps : Keeps new
  pub setup : new.network.setup ≡ old.network.setup
  pub many : length new.clients.items ≡ length old.clients.items
  pub made : (outcomes : List Outcome)
      → stepped old.network.setup (made_in old outcomes) moment step ≡ made_in new (outcomes ++ outcome ∷ [])
  pub grows : length new.network.entries ≤ length old.network.entries + 1

-- or it stays
pub record Stays (old new : Journey) : Type 0 where
  pub network : new.network ≡ old.network
  pub clients : new.clients.items ≡ old.clients.items
