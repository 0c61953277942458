use Rattle.std.proofs.Common.{◌≡◌, None, sym, ap, ◌∙◌, subst, w64}
use Rattle.std.proofs.lemmas.Int.{to_z-of_z}
use Rattle.run_model.specs.declared.call.Request.{Request}
use Rattle.seat_app.proofs.Leaving.{OnReply-sale_of, careful_entry, enters_due}
use Rattle.seat_app.specs.Sales.{OnReply}
use Rattle.seat_app.specs.Seats.{lack_after, request_of}
use Rattle.seat_app.specs.Selling.{EntersDue, IsDueCareful}
use Rattle.seat_app.proofs.seats.Seats.change.Goals as goal

pub returns-clause-goes_on : goal.returns-clause-goes_on
returns-clause-goes_on c =
    let old = c.args.replica.now.core in
    let new = c.call.new.self.core in
    let given = c.in_ok-reply.reply in
    let asked : c.request.result ≡ request_of c.args.self.now c.args.key c.args.change =
    c.request.ensures ∙ ap (request_of c.args.self.now c.args.key) (to_z-of_z w64 c.args.change c.ranges.change) in
    let goes = enters_due old new c.args.moment c.args.client c.request.result given c.in_ok-reply.ensures.goes_on c.in_ok-reply.ensures.due in
    subst (λ (r : Request). OnReply (EntersDue old new c.args.moment c.args.client r) c.sale_of.result) asked
    (subst (OnReply (EntersDue old new c.args.moment c.args.client c.request.result)) (sym c.sale_of.ensures)
    (OnReply-sale_of (EntersDue old new c.args.moment c.args.client c.request.result) given goes))

pub returns-clause-careful : goal.returns-clause-careful
returns-clause-careful c =
    let old = c.args.replica.now.core in
    let asked = request_of c.args.self.now c.args.key c.args.change in
    let careful : IsDueCareful c.args.self.now old c.args.moment c.args.client asked =
    λ part stands.
    let none : lack_after c.args.self.now old.setup old.replica part c.args.change ≡ None =
    ap (lack_after c.args.self.now old.setup old.replica part) (sym (to_z-of_z w64 c.args.change c.ranges.change)) ∙ sym (c.in_default.ensures.of_part part stands) in
    careful_entry old.setup c.args.self.now old.replica part c.args.moment c.args.client c.args.key c.args.change none in
    subst (OnReply (IsDueCareful c.args.self.now old c.args.moment c.args.client asked)) (sym c.sale_of.ensures)
    (OnReply-sale_of (IsDueCareful c.args.self.now old c.args.moment c.args.client asked) c.in_ok-reply.reply careful)
