use Rattle.std.proofs.Common.{◌≡◌, ℕ, ◌<◌, List, [], ◌∷◌, ◌++◌, length, sym, ap, ◌∙◌, subst, arith}
use Rattle.tact_base.specs.Setup.{Setup}
use Rattle.replica_network.specs.Networks.{NetworkState}
use Rattle.seat_app.specs.Booked.{traded}
use Rattle.seat_app.specs.Bookings.{BookingState, GoesOnBy, HasBooked, with_trade}
use Rattle.seat_app.specs.Seats.{SeatsState}
use Rattle.seat_app.specs.declared.trades.Handed.{Handed}
use Rattle.seat_app.specs.declared.trades.Outcome.{Outcome}
use Rattle.seat_app.specs.declared.trades.TheConstants.{TRADES_MAX}
use Rattle.seat_app.specs.declared.trades.Trade.{Trade}
use Rattle.seat_app.proofs.BookedLemmas.{has_traded, is_careful, is_kept, is_never_oversold, is_run}
use Rattle.seat_app.proofs.booking.Booking.step.Goals as goal
use Rattle.seat_app.proofs.booking.Booking.step.Goals.{After-push}

-- the places at replicas, and trades
abbrev state_of : NetworkState → SeatsState → List Handed → BookingState
state_of network seats trades = record { setup = network.setup; seats = seats; trades = trades }

-- with the trades in more memory
in_room : (network : NetworkState) (seats : SeatsState) (trades more : List Handed)
    → more ≡ trades
    → HasBooked (state_of network seats trades) network
    → HasBooked (state_of network seats more) network
in_room network seats trades more same is = subst (λ (hs : List Handed). HasBooked (state_of network seats hs) network) (sym same) is

-- of the same replicas, told of them
of_same : (old new : NetworkState) (seats : SeatsState) (trades : List Handed)
    → new ≡ old
    → HasBooked (state_of old seats trades) old
    → HasBooked (state_of new seats trades) new
of_same old new seats trades same is = subst (λ (n : NetworkState). HasBooked (state_of n seats trades) n) (sym same) is

-- after a trade
traded_on : (old new : NetworkState) (seats : SeatsState) (trades before after : List Handed) (moment : ℕ) (next : Trade) (outcome : Outcome)
    → HasBooked (state_of old seats trades) old
    → before ≡ trades
    → GoesOnBy seats (λ booked. traded seats booked moment next) old new outcome
    → length trades < TRADES_MAX
    → after ≡ before ++ record { moment = moment; trade = next } ∷ []
    → HasBooked (state_of new seats after) new
traded_on old new seats trades before after moment next outcome is room goes few kept =
    in_room new seats (with_trade (state_of old seats trades) moment next).trades after
    (kept ∙ ap (λ (hs : List Handed). hs ++ record { moment = moment; trade = next } ∷ []) room)
    (subst (λ (s : Setup). HasBooked (record (with_trade (state_of old seats trades) moment next) { setup = s }) new) (sym goes.setup)
    (has_traded (state_of old seats trades) old new moment next outcome is goes few))

pub returns-in_err-reserve-clause-kept : goal.returns-in_err-reserve-clause-kept
returns-in_err-reserve-clause-kept c =
    is_kept _ c.self.inside.network (in_room c.self.inside.network c.self.inside.seats c.self.inside.trades.items c.reserve.new.self.items c.reserve.ensures.items c.self.invariant)

pub returns-in_err-reserve-clause-never_oversold : goal.returns-in_err-reserve-clause-never_oversold
returns-in_err-reserve-clause-never_oversold c =
    is_never_oversold _ c.self.inside.network
    (in_room c.self.inside.network c.self.inside.seats c.self.inside.trades.items c.reserve.new.self.items c.reserve.ensures.items c.self.invariant)

pub returns-in_err-outcome-clause-kept : goal.returns-in_err-outcome-clause-kept
returns-in_err-outcome-clause-kept c =
    is_kept _ c.deal.new.network
    (of_same c.self.inside.network c.deal.new.network c.self.inside.seats c.reserve.new.self.items c.in_err-outcome.ensures.err
    (in_room c.self.inside.network c.self.inside.seats c.self.inside.trades.items c.reserve.new.self.items c.reserve.ensures.items c.self.invariant))

pub returns-in_err-outcome-clause-never_oversold : goal.returns-in_err-outcome-clause-never_oversold
returns-in_err-outcome-clause-never_oversold c =
    is_never_oversold _ c.deal.new.network
    (of_same c.self.inside.network c.deal.new.network c.self.inside.seats c.reserve.new.self.items c.in_err-outcome.ensures.err
    (in_room c.self.inside.network c.self.inside.seats c.self.inside.trades.items c.reserve.new.self.items c.reserve.ensures.items c.self.invariant))

-- what is so at the end
at_end : (c : After-push) → HasBooked (state_of c.deal.new.network c.self.inside.seats c.push.new.self.items) c.deal.new.network
at_end c =
    let few : length c.self.inside.trades.items < TRADES_MAX = omega (arith, c.requires.few, ap (λ (s : BookingState). length s.trades) c.self.view_is) in
    traded_on c.self.inside.network c.deal.new.network c.self.inside.seats c.self.inside.trades.items c.reserve.new.self.items c.push.new.self.items c.args.moment c.args.trade.now
    c.in_ok-outcome.outcome c.self.invariant c.reserve.ensures.items c.in_ok-outcome.ensures.goes few c.push.ensures.items

pub invariant_of-self-2 : goal.invariant_of-self-2
invariant_of-self-2 c = at_end c

pub returns-clause-run : goal.returns-clause-run
returns-clause-run c = is_run _ c.deal.new.network (at_end c)

pub returns-clause-kept : goal.returns-clause-kept
returns-clause-kept c = is_kept _ c.deal.new.network (at_end c)

pub returns-clause-careful : goal.returns-clause-careful
returns-clause-careful c = is_careful _ c.deal.new.network (at_end c)

pub returns-clause-never_oversold : goal.returns-clause-never_oversold
returns-clause-never_oversold c = is_never_oversold _ c.deal.new.network (at_end c)
