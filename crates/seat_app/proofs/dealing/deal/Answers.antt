use Rattle.std.proofs.Common.{sym, subst}
use Rattle.seat_app.specs.Booked.{traded}
use Rattle.seat_app.specs.Bookings.{GoesOnBy}
use Rattle.seat_app.specs.declared.trades.Outcome.TheVariants.{Moved}
use Rattle.seat_app.specs.declared.trades.Trade.{Trade}
use Rattle.seat_app.proofs.Deals.{sent_on, took_on}
use Rattle.seat_app.proofs.dealing.deal.Goals as goal

pub returns-in_ok-send-in-Send-clause-goes : goal.returns-in_ok-send-in-Send-clause-goes
returns-in_ok-send-in-Send-clause-goes c =
    let seats = c.args.seats.now in
    let old = c.args.network.now in
    let new = c.send.new.self in
    subst (λ (t : Trade). GoesOnBy seats (λ before. traded seats before c.args.moment t) old new Moved) (sym c.in-Send.is)
    (sent_on seats old c.args.moment c.requires.careful new c.in-Send.from c.in-Send.to c.in_ok-send-in-Send.ensures.made c.in_ok-send-in-Send.ensures.run)

pub returns-in_ok-take-in-Take-clause-goes : goal.returns-in_ok-take-in-Take-clause-goes
returns-in_ok-take-in-Take-clause-goes c =
    let seats = c.args.seats.now in
    let old = c.args.network.now in
    let new = c.take.new.self in
    subst (λ (t : Trade). GoesOnBy seats (λ before. traded seats before c.args.moment t) old new Moved) (sym c.in-Take.is)
    (took_on seats old c.args.moment c.requires.careful new c.in-Take.message c.in_ok-take-in-Take.ensures.made c.in_ok-take-in-Take.ensures.run)
