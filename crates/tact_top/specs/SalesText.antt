-- The summary of drawn trades: the counts of what they came to, how many places are sold of what each replica has seen, and
-- how many in all.
use Rattle.std.specs.Prelude.{ℕ, ℤ, List, [], ◌∷◌, ◌++◌, codes, decimal, length}
use Rattle.std.specs.Fmt.{signed_decimal}
use Rattle.std.specs.List.{flat_map, range_with_len}
use Rattle.run_model.specs.Histories.{part_of}
use Rattle.run_model.specs.Order.{value}
use Rattle.run_model.specs.Reference.{reference}
use Rattle.run_model.specs.Text.{line_text}
use Rattle.seat_app.specs.Bookings.{BookingState, entries_of}
use Rattle.drawn_trades.specs.DrawnTrades.{drawn_trades, places, three}
use Rattle.drawn_trades.specs.Tallies.{count_in, is_cancelled, is_over, is_sold, is_under, is_waiting}
use Rattle.tact_top.specs.DrillText.{message_counts}

-- the counts of sales and cancellations that were accepted, of those that were not, and of messages, each behind its name
unfoldable pub other_counts : BookingState → List (List ℕ)
other_counts booking =
    codes "over" ∷ decimal (count_in is_over booking) ∷ codes "under" ∷ decimal (count_in is_under booking)
    ∷ codes "waits" ∷ decimal (count_in is_waiting booking) ∷ message_counts (entries_of booking)

unfoldable pub trade_counts : BookingState → List (List ℕ)
trade_counts booking =
    codes "sold" ∷ decimal (count_in is_sold booking) ∷ codes "cancelled" ∷ decimal (count_in is_cancelled booking) ∷ other_counts booking

abbrev pub trade_tokens : ℕ → BookingState → List (List ℕ)
trade_tokens number booking = decimal number ∷ codes "entries" ∷ decimal (length (entries_of booking)) ∷ trade_counts booking

-- their line, with its line feed
abbrev pub trades_text : ℕ → BookingState → List ℕ
trades_text number booking = line_text (codes "sales" ∷ trade_tokens number booking) ++ 10 ∷ []

-- the line of a replica: how many places are sold of all that it has seen
abbrev pub seen_by : BookingState → ℕ → ℤ
seen_by booking replica = value booking.setup replica (part_of (entries_of booking) replica) booking.seats.conit

abbrev pub value_tokens : ℕ → ℤ → List (List ℕ)
value_tokens replica seen = decimal replica ∷ codes "value" ∷ signed_decimal seen ∷ []

abbrev pub value_text : ℕ → ℤ → List ℕ
value_text replica seen = line_text (codes "replica" ∷ value_tokens replica seen) ++ 10 ∷ []

abbrev pub values_text : BookingState → List ℕ
values_text booking = flat_map (λ replica. value_text replica (seen_by booking replica)) (range_with_len 0 3)

-- the line of all: how many are sold of all that was accepted
abbrev pub reference_text : ℤ → List ℕ
reference_text sold = line_text (codes "ref" ∷ signed_decimal sold ∷ []) ++ 10 ∷ []

-- the summary of the trades that a number draws
abbrev pub booking_text : ℕ → BookingState → List ℕ
booking_text number booking =
    trades_text number booking ++ values_text booking ++ reference_text (reference three (entries_of booking) places.conit)

abbrev pub sales_text : ℕ → List ℕ
sales_text number = booking_text number (record { setup = three; seats = places; trades = drawn_trades number })
