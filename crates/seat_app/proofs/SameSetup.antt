-- Trades keep the setup that they are made in.
use Rattle.std.proofs.Common.{◌≡◌, ℕ, ℤ, List, [], ◌∷◌, fold, Option, None, Some, pos, refl, ◌∙◌}
use Rattle.std.specs.Prelude.{neg_ℤ}
use Rattle.run_model.specs.Histories.{part_of}
use Rattle.seat_app.specs.Booked.{Booked, after_trade, changed_unless, not_booked, traded}
use Rattle.seat_app.specs.Bookings.{BookingState, network_of}
use Rattle.seat_app.specs.Seats.{SeatsState, lack_after}
use Rattle.seat_app.specs.declared.sale.Sale.{Sale}
use Rattle.seat_app.specs.declared.trades.Handed.{Handed}
use Rattle.seat_app.specs.declared.trades.Trade.{Trade}
use Rattle.seat_app.specs.declared.trades.Trade.TheVariants as trade

module _ (seats : SeatsState) where
  -- a change does
  changed-setup : (before : Booked) (moment replica : ℕ) (change : ℤ) (lack : Option Sale)
      → (changed_unless seats before moment replica change lack).network.setup ≡ before.network.setup
  changed-setup before moment replica change None = refl
  changed-setup before moment replica change (Some lack) = refl

  -- each trade does, and so all
  traded-setup : (before : Booked) (moment : ℕ) (next : Trade) → (traded seats before moment next).network.setup ≡ before.network.setup
  traded-setup before moment (trade.Sell replica amount) =
      changed-setup before moment replica (pos amount) (lack_after seats before.network.setup replica (part_of before.network.entries replica) (pos amount))
  traded-setup before moment (trade.Cancel replica amount) =
      changed-setup before moment replica (neg_ℤ (pos amount)) (lack_after seats before.network.setup replica (part_of before.network.entries replica) (neg_ℤ (pos amount)))
  traded-setup before moment (trade.Send from to) = refl
  traded-setup before moment (trade.Take message) = refl

  all-setup : (before : Booked) (trades : List Handed) → (fold (after_trade seats) before trades).network.setup ≡ before.network.setup
  all-setup before [] = refl
  all-setup before (handed ∷ trades) = all-setup (after_trade seats before handed) trades ∙ traded-setup before handed.moment handed.trade

pub network_of-setup : (state : BookingState) → (network_of state).setup ≡ state.setup
network_of-setup state = all-setup state.seats (not_booked state.setup) state.trades
