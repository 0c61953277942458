-- What trades came to, counted by kinds.
use Rattle.std.specs.Prelude.{◌≡◌, ℕ, ◌<◌, Bool, true, false, List, count_by, map}
use Rattle.std.specs.List.{zip}
use Rattle.seat_app.specs.Bookings.{BookingState, booked_by}
use Rattle.seat_app.specs.declared.sale.Sale.TheVariants as sale
use Rattle.seat_app.specs.declared.trades.Handed.{Handed}
use Rattle.seat_app.specs.declared.trades.Outcome.{Outcome}
use Rattle.seat_app.specs.declared.trades.Outcome.TheVariants as outcome
use Rattle.seat_app.specs.declared.trades.TheConstants.{TRADES_MAX}
use Rattle.seat_app.specs.declared.trades.Trade.{Trade}
use Rattle.seat_app.specs.declared.trades.Trade.TheVariants as trade
use Rattle.drawn_trades.specs.declared.tally.Deal.{Deal}
use Rattle.drawn_trades.specs.declared.tally.Deal.TheVariants as deal
use Rattle.drawn_trades.specs.declared.tally.Tally.{Tally}

-- what a trade came to, by its outcome: an accepted one is a sale or a cancellation
unfoldable pub accepted_deal : Trade → Deal
accepted_deal (trade.Sell replica amount) = deal.Sold
accepted_deal (trade.Cancel replica amount) = deal.Cancelled
accepted_deal (trade.Send from to) = deal.Moved
accepted_deal (trade.Take message) = deal.Moved

unfoldable pub deal_of : Trade → Outcome → Deal
deal_of next (outcome.Traded (sale.Accepted index stamp)) = accepted_deal next
deal_of next (outcome.Traded (sale.Over value out amount capacity)) = deal.Over
deal_of next (outcome.Traded (sale.Under value out amount)) = deal.Under
deal_of next (outcome.Traded (sale.Waiting reply)) = deal.Waiting
deal_of next outcome.Moved = deal.Moved

-- what the trades of a booking came to
abbrev pub deals_in : BookingState → List Deal
deals_in booking = map (λ (dealt : Handed × Outcome). deal_of dealt.0.trade dealt.1) (zip booking.trades (booked_by booking).outcomes)

-- kinds of it
unfoldable pub is_sold : Deal → Bool
is_sold deal.Sold = true
is_sold other = false

unfoldable pub is_cancelled : Deal → Bool
is_cancelled deal.Cancelled = true
is_cancelled other = false

unfoldable pub is_over : Deal → Bool
is_over deal.Over = true
is_over other = false

unfoldable pub is_under : Deal → Bool
is_under deal.Under = true
is_under other = false

unfoldable pub is_waiting : Deal → Bool
is_waiting deal.Waiting = true
is_waiting other = false

-- how many trades of a booking came to what is of a kind
abbrev pub count_in : (Deal → Bool) → BookingState → ℕ
count_in kind booking = count_by kind (deals_in booking)

pub record IsTallyOf (booking : BookingState) (tally : Tally) : Type 0 where
  pub sold : tally.sold ≡ count_in is_sold booking
  pub cancelled : tally.cancelled ≡ count_in is_cancelled booking
  pub over : tally.over ≡ count_in is_over booking
  pub under : tally.under ≡ count_in is_under booking
  pub waiting : tally.waiting ≡ count_in is_waiting booking

-- a tally of fewer trades than there may be
pub record HasRoom (tally : Tally) : Type 0 where
  pub sold : tally.sold < TRADES_MAX
  pub cancelled : tally.cancelled < TRADES_MAX
  pub over : tally.over < TRADES_MAX
  pub under : tally.under < TRADES_MAX
  pub waiting : tally.waiting < TRADES_MAX
