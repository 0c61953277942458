-- What trades make, one after another: the entries of the replicas, and what each trade came to.
use Rattle.std.specs.Prelude.{◌≢◌, ℕ, ℤ, pos, neg_ℤ, ◌<◌, ◌≤◌, List, [], ◌∷◌, ◌++◌, fold, length, Option, None, Some}
use Rattle.tact_base.specs.Setup.{Setup}
use Rattle.tact_base.specs.declared.limits.TheConstants.{WEIGHT_MAX}
use Rattle.run_model.specs.Histories.{moment_at, part_of, sent_in}
use Rattle.run_model.specs.Replies.{reply_of}
use Rattle.replica_network.specs.Networks.{NetworkState, after_call, after_send, after_take}
use Rattle.seat_app.specs.Sales.{sale_of}
use Rattle.seat_app.specs.Seats.{SeatsState, lack_after, request_of}
use Rattle.seat_app.specs.declared.sale.Sale.{Sale}
use Rattle.seat_app.specs.declared.trades.Handed.{Handed}
use Rattle.seat_app.specs.declared.trades.Outcome.{Outcome}
use Rattle.seat_app.specs.declared.trades.Outcome.TheVariants.{Moved, Traded}
use Rattle.seat_app.specs.declared.trades.Trade.{Trade}
use Rattle.seat_app.specs.declared.trades.Trade.TheVariants as trade
use Rattle.seat_app.specs.declared.trades.TheConstants.{CLIENT, KEY}

-- the replicas with all entries, and the outcomes of the trades
pub record Booked : Type 0 where
  pub network : NetworkState
  pub outcomes : List Outcome

abbrev pub not_booked : Setup → Booked
not_booked setup = record { network = record { setup = setup; entries = [] }; outcomes = [] }

-- a change that is kept away makes no entry; another one makes the call that is due
abbrev pub changed_unless : SeatsState → Booked → ℕ → ℕ → ℤ → Option Sale → Booked
changed_unless seats before moment replica change (Some lack) = record before { outcomes = before.outcomes ++ Traded lack ∷ [] }
changed_unless seats before moment replica change None =
    let network = before.network in
    let part = part_of network.entries replica in
    let asked = request_of seats KEY change in
    record {
      network = after_call network moment replica CLIENT asked;
      outcomes = before.outcomes ++ Traded (sale_of (reply_of network.setup replica part (moment_at part moment) asked)) ∷ [];
    }

abbrev pub changed : SeatsState → Booked → ℕ → ℕ → ℤ → Booked
changed seats before moment replica change =
    changed_unless seats before moment replica change
    (lack_after seats before.network.setup replica (part_of before.network.entries replica) change)

-- a sending or a taking makes an entry
abbrev pub moved : Booked → NetworkState → Booked
moved before network = record { network = network; outcomes = before.outcomes ++ Moved ∷ [] }

-- one more trade: a sale is a change above 0, a cancellation one below it; messages count from 0 over all sendings
abbrev pub traded : SeatsState → Booked → ℕ → Trade → Booked
traded seats before moment (trade.Sell replica amount) = changed seats before moment replica (pos amount)
traded seats before moment (trade.Cancel replica amount) = changed seats before moment replica (neg_ℤ (pos amount))
traded seats before moment (trade.Send from to) = moved before (after_send before.network moment from to)
traded seats before moment (trade.Take message) = moved before (after_take before.network moment message)

abbrev pub after_trade : SeatsState → Booked → Handed → Booked
after_trade seats before handed = traded seats before handed.moment handed.trade

-- all trades, one after another
abbrev pub booked : Setup → SeatsState → List Handed → Booked
booked setup seats trades = fold (after_trade seats) (not_booked setup) trades

-- a trade that may follow: at replicas that there are, of 1 to 10^6 places, a sending to another one, a taking of what
-- was sent
abbrev pub MayTrade : NetworkState → Trade → Type 0
MayTrade network (trade.Sell replica amount) = (replica < network.setup.replicas) × (1 ≤ amount) × (amount ≤ WEIGHT_MAX)
MayTrade network (trade.Cancel replica amount) = (replica < network.setup.replicas) × (1 ≤ amount) × (amount ≤ WEIGHT_MAX)
MayTrade network (trade.Send from to) = (from < network.setup.replicas) × (to < network.setup.replicas) × (to ≢ from)
MayTrade network (trade.Take message) = message < length (sent_in network.entries)
