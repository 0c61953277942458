-- What a step draws may be traded after the trades so far.
use Rattle.std.proofs.Common.{◌≡◌, ◌≢◌, ℕ, ◌+◌, ◌<◌, ◌≤◌, ◌==◌, ◌%◌, ℤ, pos, Bool, true, false, nat_lt, cond, List, [], ◌∷◌, fold, length, Option, None, Some, refl, sym, ap, ◌∙◌, subst, arith}
use Rattle.std.specs.Prelude.{neg_ℤ}
use Rattle.std.specs.Option.{option_map}
use Rattle.std.proofs.Math.Nat.{mod-lt}
use Rattle.std.proofs.lemmas.Bool.{eqb-false}
use Rattle.std.proofs.lemmas.List.{length_push}
use Rattle.tact_base.specs.Setup.{Setup}
use Rattle.run_model.specs.Histories.{part_of, sent_in}
use Rattle.run_model.specs.Runs.{IsLawful, IsRun}
use Rattle.run_model.specs.declared.entry.Entry.{Entry}
use Rattle.run_model.proofs.PrefixLemmas.{EachAfter-nil}
use Rattle.drawn_scripts.specs.Draws.{drawn, one_drawn, pick, some_drawn}
use Rattle.drawn_scripts.proofs.DrawnLemmas.{picked_below}
use Rattle.drawn_scripts.proofs.DrawsLemmas.{after_more, after_none}
use Rattle.replica_network.specs.Networks.{NetworkState}
use Rattle.seat_app.specs.Booked.{Booked, MayTrade, after_trade, changed_unless, not_booked, traded}
use Rattle.seat_app.specs.Bookings.{BookingState, booked_by, entries_of, network_of, with_trade}
use Rattle.seat_app.specs.Careful.{IsCarefulEntry, IsNeverOversold}
use Rattle.seat_app.specs.Seats.{SeatsState, lack_after}
use Rattle.seat_app.specs.declared.sale.Sale.{Sale}
use Rattle.seat_app.specs.declared.trades.Handed.{Handed}
use Rattle.seat_app.specs.declared.trades.Trade.{Trade}
use Rattle.seat_app.specs.declared.trades.Trade.TheVariants as trade
use Rattle.seat_app.proofs.NeverOversold.{never_oversold}
use Rattle.drawn_trades.specs.DrawnTrades.{SellsAmongThree, cancel_drawn, kind_drawn, places, sell_drawn, send_drawn, step_drawn, take_drawn, three, trades_after}
use Rattle.drawn_trades.specs.Tallies.{IsTallyOf}
use Rattle.drawn_trades.specs.declared.tally.Tally.{Tally}

-- trades leave the setup
module _ (seats : SeatsState) where
  changed_setup : (before : Booked) (moment replica : ℕ) (change : ℤ) (lack : Option Sale)
      → (changed_unless seats before moment replica change lack).network.setup ≡ before.network.setup
  changed_setup before moment replica change None = refl
  changed_setup before moment replica change (Some lack) = refl

  change_setup : (before : Booked) (moment replica : ℕ) (change : ℤ)
      → (changed_unless seats before moment replica change
      (lack_after seats before.network.setup replica (part_of before.network.entries replica) change)).network.setup
      ≡ before.network.setup
  change_setup before moment replica change =
      changed_setup before moment replica change (lack_after seats before.network.setup replica (part_of before.network.entries replica) change)

  traded_setup : (before : Booked) (moment : ℕ) (next : Trade) → (traded seats before moment next).network.setup ≡ before.network.setup
  traded_setup before moment (trade.Sell replica amount) = change_setup before moment replica (pos amount)
  traded_setup before moment (trade.Cancel replica amount) = change_setup before moment replica (neg_ℤ (pos amount))
  traded_setup before moment (trade.Send from to) = refl
  traded_setup before moment (trade.Take message) = refl

  booked_setup_from : (before : Booked) (trades : List Handed) → (fold (after_trade seats) before trades).network.setup ≡ before.network.setup
  booked_setup_from before [] = refl
  booked_setup_from before (handed ∷ trades) =
      booked_setup_from (after_trade seats before handed) trades ∙ traded_setup before handed.moment handed.trade

network_is : (booking : BookingState) → SellsAmongThree booking → (network_of booking).setup ≡ three
network_is booking is = booked_setup_from booking.seats (not_booked booking.setup) booking.trades ∙ is.setup

-- what may be drawn may be traded
abbrev MayTradeIfAny : NetworkState → Option Trade → Type 0
MayTradeIfAny network None = Unit {0}
MayTradeIfAny network (Some next) = MayTrade network next

module _ (network : NetworkState) (is : network.setup ≡ three) where
  three_there : network.setup.replicas ≡ 3
  three_there = ap (λ (s : Setup). s.replicas) is

  sell_may : (state : ℕ) → MayTrade network (sell_drawn state).0
  unfolding sell_drawn
  sell_may state =
      let s1 = (pick 3 state).1 in
      (omega (arith, three_there, picked_below 3 state (omega arith)), omega arith, omega (arith, picked_below 5 s1 (omega arith)))

  cancel_may : (state : ℕ) → MayTrade network (cancel_drawn state).0
  unfolding cancel_drawn
  cancel_may state =
      let s1 = (pick 3 state).1 in
      (omega (arith, three_there, picked_below 3 state (omega arith)), omega arith, omega (arith, picked_below 2 s1 (omega arith)))

  step_others : (from step : ℕ) → from < 3 → step < 2 → (from + 1 + step) % 3 ≢ from
  step_others from step h k = λ same. omega (arith, same, h, k)

  send_may : (state : ℕ) → MayTrade network (send_drawn state).0
  unfolding send_drawn
  send_may state =
      let from = (pick 3 state).0 in
      let s1 = (pick 3 state).1 in
      let step = (pick 2 s1).0 in
      let within = picked_below 3 state (omega arith) in (
        omega (arith, three_there, within),
        omega (arith, three_there, mod-lt (from + 1 + step) {m = 3} (omega arith)),
        step_others from step within (picked_below 2 s1 (omega arith)),
      )

  take_may : (state : ℕ) → MayTradeIfAny network (take_drawn (length (sent_in network.entries)) state).0
  unfolding take_drawn one_drawn
  take_may state = go (sent == 0) refl
    where
      sent : ℕ
      sent = length (sent_in network.entries)

      go : (none : Bool)
          → (sent == 0) ≡ none
          → MayTradeIfAny network (option_map trade.Take (cond none (drawn None) (some_drawn (pick sent)) state).0)
      go true is = tt
      go false is = picked_below sent state (omega (arith, eqb-false sent 0 is))

  kind_may : (kind state : ℕ) → MayTradeIfAny network (kind_drawn (length (sent_in network.entries)) kind state).0
  kind_may kind state = go (nat_lt kind 5) (nat_lt kind 6) (nat_lt kind 8)
    where
      go : (sell cancel send : Bool)
          → MayTradeIfAny network (cond sell (some_drawn sell_drawn) (cond cancel (some_drawn cancel_drawn)
          (cond send (some_drawn send_drawn) (take_drawn (length (sent_in network.entries))))) state).0
      go true cancel send = sell_may state
      go false true send = cancel_may state
      go false false true = send_may state
      go false false false = take_may state

pub trade_found : (booking : BookingState) (sent kind state state' : ℕ) (found : Option Trade) (next : Trade)
    → SellsAmongThree booking
    → sent ≡ length (sent_in (entries_of booking))
    → kind_drawn sent kind state ≡ (found, state')
    → found ≡ Some next
    → MayTrade (network_of booking) next
trade_found booking sent kind state state' found next is all drawn some =
    subst (MayTradeIfAny (network_of booking))
    (ap (λ (n : ℕ). (kind_drawn n kind state).0) (sym all) ∙ ap (λ (taken : Option Trade × ℕ). taken.0) drawn ∙ some)
    (kind_may (network_of booking) (network_is booking is) kind state)

-- one more trade leaves them so
pub among_more : (old new : BookingState) (moment : ℕ) (next : Trade)
    → SellsAmongThree old
    → new ≡ with_trade old moment next
    → length (booked_by new).outcomes ≡ length (booked_by old).outcomes + 1
    → IsRun new.setup (entries_of new)
    → IsNeverOversold new.setup new.seats (entries_of new)
    → SellsAmongThree new
among_more old new moment next is same more run never = record {
  setup = ap (λ (b : BookingState). b.setup) same ∙ is.setup;
  seats = ap (λ (b : BookingState). b.seats) same ∙ is.seats;
  run = run;
  never_oversold = never;
  outcomes = omega (
    arith,
    more,
    is.outcomes,
    ap (λ (b : BookingState). length b.trades) same,
    length_push old.trades (let one : Handed = record { moment = moment; trade = next } in one),
  );
}

-- what has been drawn in so many steps
pub record IsDrawnTo (number done : ℕ) (booking : BookingState) (tally : Tally) (draws : ℕ) : Type 0 where
  pub trades : trades_after done number ≡ (booking.trades, draws)
  pub few : length booking.trades ≤ done
  pub among : SellsAmongThree booking
  pub counted : IsTallyOf booking tally

abbrev none_traded : BookingState
none_traded = record { setup = three; seats = places; trades = [] }

none_among : SellsAmongThree none_traded
none_among =
    let run : IsRun three [] = EachAfter-nil (IsLawful three) in
    record {
      setup = refl;
      seats = refl;
      run = run;
      never_oversold = never_oversold three places [] run
          (EachAfter-nil (λ (before : List Entry) (entry : Entry). IsCarefulEntry three places (part_of before entry.replica) entry));
      outcomes = refl;
    }

pub drawn_to_begins : (number : ℕ) (booking : BookingState) (tally : Tally)
    → booking ≡ record { setup = three; seats = places; trades = [] }
    → tally ≡ record { sold = 0; cancelled = 0; over = 0; under = 0; waiting = 0 }
    → IsDrawnTo number 0 booking tally number
drawn_to_begins number booking tally same none =
    subst (λ (b : BookingState). IsDrawnTo number 0 b tally number) (sym same)
    (subst (λ (t : Tally). IsDrawnTo number 0 none_traded t number) (sym none) (record {
      trades = after_none step_drawn [] number;
      few = omega arith;
      among = none_among;
      counted = record { sold = refl; cancelled = refl; over = refl; under = refl; waiting = refl };
    }))

pub drawn_to_more : (number done : ℕ) (booking new : BookingState) (tally tally' : Tally) (draws draws' : ℕ)
    → IsDrawnTo number done booking tally draws
    → step_drawn done booking.trades draws ≡ (new.trades, draws')
    → length new.trades ≤ length booking.trades + 1
    → SellsAmongThree new
    → IsTallyOf new tally'
    → IsDrawnTo number (done + 1) new tally' draws'
drawn_to_more number done booking new tally tally' draws draws' is next few among counted = record {
  trades = after_more step_drawn [] number done ∙ ap (λ (before : List Handed × ℕ). step_drawn done before.0 before.1) is.trades ∙ next;
  few = omega (arith, few, is.few);
  among = among;
  counted = counted;
}
