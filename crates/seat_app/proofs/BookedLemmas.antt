-- What is kept of a booking is what its trades made, so its entries are a careful run, which never sells too many places.
use Rattle.std.proofs.Common.{◌≡◌, ℕ, ◌<◌, List, [], ◌∷◌, ◌++◌, length, sym, ap, ap₂, ◌∙◌, subst₂, arith}
use Rattle.std.proofs.lemmas.List.{length_push}
use Rattle.tact_base.proofs.ListLemmas.{fold-push}
use Rattle.tact_base.specs.Setup.{Setup}
use Rattle.run_model.specs.Promises.{IsKept}
use Rattle.run_model.specs.Runs.{IsRun}
use Rattle.run_model.specs.declared.entry.Entry.{Entry}
use Rattle.run_promises.proofs.Kept.{IsKept-run}
use Rattle.replica_network.specs.Networks.{NetworkState}
use Rattle.seat_app.specs.Booked.{Booked, after_trade, booked, not_booked, traded}
use Rattle.seat_app.specs.Bookings.{BookingState, GoesOnBy, HasBooked, SellsCarefully, booked_by, entries_of, with_trade}
use Rattle.seat_app.specs.Careful.{IsCareful, IsNeverOversold}
use Rattle.seat_app.specs.declared.trades.Handed.{Handed}
use Rattle.seat_app.specs.declared.trades.Outcome.{Outcome}
use Rattle.seat_app.specs.declared.trades.TheConstants.{TRADES_MAX}
use Rattle.seat_app.specs.declared.trades.Trade.{Trade}
use Rattle.seat_app.proofs.NeverOversold.{never_oversold}

module _ (state : BookingState) (network : NetworkState) (is : HasBooked state network) where
  pub entries_are : entries_of state ≡ network.entries
  entries_are = ap (λ (n : NetworkState). n.entries) is.made

  pub is_run : IsRun state.setup (entries_of state)
  is_run = subst₂ IsRun (sym is.setup) (sym entries_are) is.careful.run

  pub is_kept : IsKept state.setup (entries_of state)
  is_kept = subst₂ IsKept (sym is.setup) (sym entries_are) (IsKept-run network.setup network.entries is.careful.good is.careful.run)

  pub is_careful : IsCareful state.setup state.seats (entries_of state)
  is_careful = subst₂ (λ (s : Setup) (es : List Entry). IsCareful s state.seats es) (sym is.setup) (sym entries_are) is.careful.careful

  pub is_never_oversold : IsNeverOversold state.setup state.seats (entries_of state)
  is_never_oversold = never_oversold state.setup state.seats (entries_of state) is_run is_careful

-- nothing was sold
pub none_booked : (state : BookingState) (network : NetworkState)
    → SellsCarefully state.seats network
    → state.setup ≡ network.setup
    → network.entries ≡ []
    → state.trades ≡ []
    → HasBooked state network
none_booked state network careful setup entries trades = record {
  careful = careful;
  setup = setup;
  made = ap (λ (hs : List Handed). (booked state.setup state.seats hs).network) trades
      ∙ ap₂ (λ (s : Setup) (es : List Entry). let none : NetworkState = record { setup = s; entries = es } in none) setup (sym entries);
  few = omega (arith, ap length entries);
  most = omega (arith, ap length trades);
}

-- one trade more
module _ (state : BookingState) (old new : NetworkState) (moment : ℕ) (next : Trade) (outcome : Outcome) (is : HasBooked state old)
    (goes : GoesOnBy state.seats (λ before. traded state.seats before moment next) old new outcome) (few : length state.trades < TRADES_MAX) where
  made_more : booked_by (with_trade state moment next) ≡ record { network = new; outcomes = (booked_by state).outcomes ++ outcome ∷ [] }
  made_more =
      let handed : Handed = record { moment = moment; trade = next } in
      fold-push (after_trade state.seats) (not_booked state.setup) state.trades handed
      ∙ ap (λ (n : NetworkState). traded state.seats (record { network = n; outcomes = (booked_by state).outcomes }) moment next) is.made
      ∙ goes.made (booked_by state).outcomes

  pub more_outcomes : (booked_by (with_trade state moment next)).outcomes ≡ (booked_by state).outcomes ++ outcome ∷ []
  more_outcomes = ap (λ (made : Booked). made.outcomes) made_more

  pub has_traded : HasBooked (with_trade state moment next) new
  has_traded = record {
    careful = goes.careful;
    setup = is.setup ∙ sym goes.setup;
    made = ap (λ (made : Booked). made.network) made_more;
    few = omega (arith, goes.grows, is.few, length_push state.trades (let handed : Handed = record { moment = moment; trade = next } in handed));
    most = omega (arith, few, length_push state.trades (let handed : Handed = record { moment = moment; trade = next } in handed));
  }
