use Rattle.std.proofs.Common.{ℤ, subst}
use Rattle.std.specs.Prelude.{IfOk}
use Rattle.seat_app.proofs.Amounts.{cancelled_is}
use Rattle.seat_app.specs.Sales.{OnReply}
use Rattle.seat_app.specs.Seats.{request_of}
use Rattle.seat_app.specs.Selling.{EntersDue, IsDueCareful, TellsDue}
use Rattle.seat_app.specs.declared.sale.Sale.{Sale}
use Rattle.seat_app.proofs.seats.Seats.cancel.Goals as goal

pub returns-clause-goes_on : goal.returns-clause-goes_on
returns-clause-goes_on c =
    subst (λ (z : ℤ). IfOk c.change.result (OnReply (EntersDue c.args.replica.now.core c.change.new.replica.core c.args.moment c.args.client (request_of c.args.self.now c.args.key z))))
    (cancelled_is c.args.amount c.requires.few) c.change.ensures.goes_on

pub returns-clause-due : goal.returns-clause-due
returns-clause-due c =
    subst (λ (z : ℤ). IfOk c.change.result (λ (sale : Sale). OnReply (TellsDue c.args.replica.now.core c.args.moment (request_of c.args.self.now c.args.key z) sale) sale))
    (cancelled_is c.args.amount c.requires.few) c.change.ensures.due

pub returns-clause-careful : goal.returns-clause-careful
returns-clause-careful c =
    subst (λ (z : ℤ). IfOk c.change.result (OnReply (IsDueCareful c.args.self.now c.args.replica.now.core c.args.moment c.args.client (request_of c.args.self.now c.args.key z))))
    (cancelled_is c.args.amount c.requires.few) c.change.ensures.careful
