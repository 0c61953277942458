use Rattle.std.proofs.Common.{◌≡◌, [], sym, ap, ap₂, ◌∙◌, refl, subst}
use Rattle.tact_base.specs.Setup as setups
use Rattle.tact_base.specs.Setup.{Setup}
use Rattle.script_text.specs.Setups.{setup_of}
use Rattle.seat_app.specs.Bookings.{BookingState}
use Rattle.seat_app.specs.Seats.{SeatsState}
use Rattle.drawn_trades.specs.DrawnTrades.{three}
use Rattle.drawn_trades.proofs.TradeLemmas.{IsDrawnTo, drawn_to_begins, drawn_to_more}
use Rattle.drawn_trades.proofs.drawing.draw_trades.Goals as goal

pub start-requires-clause-good : goal.start-requires-clause-good
unfolding setups.config_fault
start-requires-clause-good c = refl

pub loop-step-init : goal.loop-step-init
loop-step-init c =
    let setup : c.config.result.now ≡ three = c.config.ensures ∙ ap setup_of c.in_ok-script.ensures in
    let none = λ (s : Setup) (p : SeatsState). let one : BookingState = record { setup = s; seats = p; trades = [] } in one in
    subst (IsDrawnTo c.args.number 0 c.in_ok-booking.booking c.new-tally.result) (sym c.new-draws.ensures)
    (drawn_to_begins c.args.number c.in_ok-booking.booking c.new-tally.result (c.in_ok-booking.ensures ∙ ap₂ none setup c.new.ensures) c.new-tally.ensures)

pub loop-step-preserved : goal.loop-step-preserved
loop-step-preserved c =
    let l = c.loop-step in
    let new = c.draw_step.new in
    let ended = c.in_ok-draw_step.ensures in
    drawn_to_more c.args.number l.step l.booking new.booking l.tally new.tally l.draws new.draws l.invariant ended.drawn ended.few ended.among ended.counted
