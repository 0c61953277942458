use Rattle.std.proofs.Common.{ℤ, subst}
use Rattle.std.specs.Prelude.{IfOk}
use Rattle.seat_app.proofs.Amounts.{sold_is}
use Rattle.seat_app.specs.Sales.{OnReply}
use Rattle.seat_app.specs.Seats.{request_of}
use Rattle.seat_app.specs.Selling.{IsDueCareful}
use Rattle.seat_app.proofs.seats.Seats.sell.Goals as goal

pub returns-clause-careful : goal.returns-clause-careful
returns-clause-careful c =
    subst (λ (z : ℤ). IfOk c.change.result (OnReply (IsDueCareful c.args.self.now c.args.replica.now.core c.args.moment c.args.client (request_of c.args.self.now c.args.key z))))
    (sold_is c.args.amount c.requires.few) c.change.ensures.careful
