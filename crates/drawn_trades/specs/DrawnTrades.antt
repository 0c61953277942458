-- The trades that a number draws: places that are sold and cancelled at three replicas at random, messages between these, and
-- no other choice.
use Rattle.std.specs.Prelude.{◌≡◌, ℕ, ◌+◌, ◌%◌, nat_lt, List, [], ◌++◌, length, map, Option, if◌then◌else◌}
use Rattle.std.specs.Option.{option_map}
use Rattle.tact_base.specs.Setup.{Setup}
use Rattle.run_model.specs.Histories.{sent_in}
use Rattle.run_model.specs.Runs.{IsRun}
use Rattle.script_text.specs.Setups.{opening}
use Rattle.drawn_scripts.specs.Draws.{Drawing, drawn, ◌>>=◌, after_steps, listed, one_drawn, pick, some_drawn}
use Rattle.seat_app.specs.Booked.{booked}
use Rattle.seat_app.specs.Bookings.{BookingState, booked_by, entries_of}
use Rattle.seat_app.specs.Careful.{IsNeverOversold}
use Rattle.seat_app.specs.Seats.{SeatsState}
use Rattle.seat_app.specs.declared.trades.Handed.{Handed}
use Rattle.seat_app.specs.declared.trades.Trade.{Trade}
use Rattle.seat_app.specs.declared.trades.Trade.TheVariants as trade

-- the setup of the replicas, and the places
abbrev pub three : Setup
three = opening 3 1 60 20

abbrev pub places : SeatsState
places = record { conit = 0; capacity = 200 }

-- a sale of 1 to 5 places, and a cancellation of 1 or 2
unfoldable pub sell_drawn : Drawing Trade
sell_drawn = do
  replica ← pick 3
  more ← pick 5
  drawn (trade.Sell replica (1 + more))

unfoldable pub cancel_drawn : Drawing Trade
cancel_drawn = do
  replica ← pick 3
  more ← pick 2
  drawn (trade.Cancel replica (1 + more))

-- a sending from one replica to another
unfoldable pub send_drawn : Drawing Trade
send_drawn = do
  from ← pick 3
  step ← pick 2
  drawn (trade.Send from ((from + 1 + step) % 3))

-- the taking of one of so many messages
unfoldable pub take_drawn : ℕ → Drawing (Option Trade)
take_drawn sent = do
  place ← one_drawn sent
  drawn (option_map trade.Take place)

-- what a step does, by a number below ten
abbrev pub kind_drawn : ℕ → ℕ → Drawing (Option Trade)
kind_drawn sent kind =
    if nat_lt kind 5 then some_drawn sell_drawn
    else if nat_lt kind 6 then some_drawn cancel_drawn
    else if nat_lt kind 8 then some_drawn send_drawn
    else take_drawn sent

-- one more step, handed its number as the moment
abbrev pub at_moment : ℕ → Trade → Handed
at_moment moment trade = record { moment = moment; trade = trade }

unfoldable pub step_drawn : ℕ → List Handed → Drawing (List Handed)
step_drawn number trades = do
  kind ← pick 10
  more ← kind_drawn (length (sent_in (booked three places trades).network.entries)) kind
  drawn (trades ++ map (at_moment number) (listed more))

-- the trades after so many steps, and those that a number draws
abbrev pub trades_after : ℕ → Drawing (List Handed)
trades_after steps = after_steps step_drawn [] steps

abbrev pub drawn_trades : ℕ → List Handed
drawn_trades number = (trades_after 1000 number).0

-- a booking of the places at three replicas: its entries are a run, never are too many places sold, and each trade has an
-- outcome
pub record SellsAmongThree (booking : BookingState) : Type 0 where
  pub setup : booking.setup ≡ three
  pub seats : booking.seats ≡ places
  pub run : IsRun booking.setup (entries_of booking)
  pub never_oversold : IsNeverOversold booking.setup booking.seats (entries_of booking)
  pub outcomes : length (booked_by booking).outcomes ≡ length booking.trades
