-- Bookings and their trades, and what is kept of these.
use Rattle.std.specs.Prelude.{◌≡◌, ℕ, ◌+◌, ◌<◌, ◌≤◌, List, [], ◌∷◌, ◌++◌, length}
use Rattle.tact_base.specs.Setup.{IsSetup, Setup}
use Rattle.run_model.specs.Runs.{IsRun}
use Rattle.run_model.specs.declared.entry.Entry.{Entry}
use Rattle.replica_network.specs.Networks.{NetworkState}
use Rattle.seat_app.specs.Booked.{Booked, booked}
use Rattle.seat_app.specs.Careful.{IsCareful}
use Rattle.seat_app.specs.Seats.{SeatsState}
use Rattle.seat_app.specs.declared.trades.Handed.{Handed}
use Rattle.seat_app.specs.declared.trades.Outcome.{Outcome}
use Rattle.seat_app.specs.declared.trades.TheConstants.{TRADES_MAX}
use Rattle.seat_app.specs.declared.trades.Trade.{Trade}

-- the setup, the places, and the trades with their moments
pub record BookingState : Type 0 where
  pub setup : Setup
  pub seats : SeatsState
  pub trades : List Handed

abbrev pub with_trade : BookingState → ℕ → Trade → BookingState
with_trade state moment trade = record state { trades = state.trades ++ record { moment = moment; trade = trade } ∷ [] }

-- what the trades made: of that the replicas, and their entries
abbrev pub booked_by : BookingState → Booked
booked_by state = booked state.setup state.seats state.trades

abbrev pub network_of : BookingState → NetworkState
network_of state = (booked_by state).network

abbrev pub entries_of : BookingState → List Entry
entries_of state = (network_of state).entries

-- replicas whose entries are a careful run
pub record SellsCarefully (seats : SeatsState) (network : NetworkState) : Type 0 where
  pub conit : seats.conit < network.setup.conits
  pub good : IsSetup network.setup
  pub run : IsRun network.setup network.entries
  pub careful : IsCareful network.setup seats network.entries

-- they go on by a step, with an outcome
pub record GoesOnBy (seats : SeatsState) (step : Booked → Booked) (old new : NetworkState) (outcome : Outcome) : Type 0 where
  pub careful : SellsCarefully seats new
  pub setup : new.setup ≡ old.setup
  pub made : (outcomes : List Outcome)
      → step (record { network = old; outcomes = outcomes }) ≡ record { network = new; outcomes = outcomes ++ outcome ∷ [] }
  pub grows : length new.entries ≤ length old.entries + 1

-- what is kept is what the trades made
pub record HasBooked (state : BookingState) (network : NetworkState) : Type 0 where
  pub careful : SellsCarefully state.seats network
  pub setup : state.setup ≡ network.setup
  pub made : network_of state ≡ network
  pub few : length network.entries ≤ length state.trades
  pub most : length state.trades ≤ TRADES_MAX
