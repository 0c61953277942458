use Rattle.std.proofs.Common.{ℕ, List, sym, ap, ap₂, ◌∙◌, rules, w64, FitsSigned}
use Rattle.std.proofs.lemmas.Int.{to_z-of_z}
use Rattle.tact_base.specs.Setup.{Setup}
use Rattle.run_model.specs.Histories.{part_of}
use Rattle.run_model.specs.Order.{value}
use Rattle.run_model.specs.declared.entry.Entry.{Entry}
use Rattle.seat_app.specs.Bookings.{BookingState, entries_of}
use Rattle.seat_app.proofs.BookedLemmas.{entries_are}
use Rattle.seat_app.proofs.booking.Booking.value.Goals as goal

pub returns : goal.returns
returns c =
    let network = c.self.inside.network in
    let seats = c.self.inside.seats in
    let replica = c.args.replica in
    let part = part_of network.entries replica in
    let fits : FitsSigned w64 c.value.result = search rules in
    to_z-of_z w64 c.value.result fits
    ∙ c.value.ensures.of_part part c.at.ensures.stands
    ∙ ap₂ (λ (s : Setup) (r : ℕ). value s r part c.conit.result) c.at.ensures.one.setup c.at.ensures.one.replica
    ∙ ap (value network.setup replica part) c.conit.ensures
    ∙ ap (λ (es : List Entry). value network.setup replica (part_of es replica) seats.conit) (sym (entries_are _ network c.self.invariant))
    ∙ ap (λ (s : BookingState). value s.setup replica (part_of (entries_of s) replica) s.seats.conit) c.self.view_is
