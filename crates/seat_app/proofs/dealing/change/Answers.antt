use Rattle.std.proofs.Common.{◌≡◌, ℕ, None, ap, ap₂, ◌∙◌, of_z, to_z, w64}
use Rattle.std.proofs.lemmas.Int.{to_z-of_z}
use Rattle.tact_base.specs.Setup.{Setup}
use Rattle.run_model.specs.Histories.{part_of}
use Rattle.seat_app.specs.Seats.{lack_after, request_of}
use Rattle.seat_app.specs.declared.trades.TheConstants.{KEY}
use Rattle.seat_app.proofs.Deals.{let_through}
use Rattle.seat_app.proofs.dealing.change.Goals as goal

pub returns-clause-goes : goal.returns-clause-goes
returns-clause-goes c =
    let seats = c.args.seats.now in
    let old = c.args.network.now in
    let part = part_of old.entries c.args.replica in
    let change_is = to_z-of_z w64 c.args.change c.ranges.change in
    let none : None ≡ lack_after seats old.setup c.args.replica part c.args.change =
    c.in_default.ensures.of_part part c.at.ensures.stands
    ∙ ap₂ (λ (s : Setup) (r : ℕ). lack_after seats s r part (to_z w64 (of_z w64 c.args.change))) c.at.ensures.one.setup c.at.ensures.one.replica
    ∙ ap (lack_after seats old.setup c.args.replica part) change_is in
    let_through seats old c.args.moment c.args.replica c.args.change c.requires.careful c.call.new.self c.request.result c.in_ok-reply.reply c.sale_of.result none
    (c.request.ensures ∙ ap (request_of seats KEY) change_is) c.in_ok-reply.ensures.made c.in_ok-reply.ensures.run c.in_ok-reply.ensures.due c.sale_of.ensures
