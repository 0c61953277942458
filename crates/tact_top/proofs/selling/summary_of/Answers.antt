use Rattle.std.proofs.Common.{ℕ, ℤ, List, ◌≡◌, ◌++◌, ap, ◌∙◌, arith, rules, of_z, to_z, w64, FitsSigned}
use Rattle.std.proofs.lemmas.Int.{to_z-of_z}
use Rattle.seat_app.specs.Bookings.{BookingState}
use Rattle.tact_top.specs.SalesText.{booking_text, reference_text, trades_text, values_text}
use Rattle.tact_top.proofs.selling.summary_of.Goals as goal

pub put_values-requires : goal.put_values-requires
put_values-requires c = omega (arith, ap (λ (booking : BookingState). booking.setup.replicas) c.in_ok-trades.ensures.drawn)

pub returns : goal.returns
returns c =
    let number = c.args.number in
    let trades = c.in_ok-trades.trades in
    let booking = trades.booking in
    let fits : FitsSigned w64 trades.places_sold = search rules in
    let sold : to_z w64 (of_z w64 trades.places_sold) ≡ trades.places_sold = to_z-of_z w64 trades.places_sold fits in
    c.in_ok-put_reference.ensures
    ∙ ap (λ (text : List ℕ). text ++ reference_text (to_z w64 (of_z w64 trades.places_sold)))
    (c.in_ok-put_values.ensures
    ∙ ap (λ (text : List ℕ). text ++ values_text booking)
    (c.in_ok-put_trades.ensures ∙ ap (λ (text : List ℕ). text ++ trades_text number booking) c.new-text.ensures))
    ∙ ap (λ (z : ℤ). trades_text number booking ++ values_text booking ++ reference_text z) (sold ∙ c.in_ok-trades.ensures.places_sold)
    ∙ ap (λ (b : BookingState). booking_text number b) c.in_ok-trades.ensures.drawn
