use Rattle.std.proofs.Common.{refl, sym, ap, subst, ◌∙◌}
use Rattle.std.proofs.lemmas.Bool.{not-false}
use Rattle.replica_lock.specs.Resuming.{IsPaid}
use Rattle.replica_lock.specs.declared.owe.Owe.{Owe}
use Rattle.replica_lock.proofs.Settling.{after_resumed, dropped, resumed-counts, resumed-parts, room-calls, room-paid, seen-calls, settles}
use Rattle.replica_lock.proofs.Stepping.{with_tells}
use Rattle.replica_lock.proofs.turn.Turn.settle.Goals as goal

pub pay-allowance-requires-clause-room : goal.pay-allowance-requires-clause-room
pay-allowance-requires-clause-room g c =
    let known = settles c.self.view_is c.session.view_is (c.self.invariant.0, c.self.invariant.1, c.self.invariant.2) refl c.session.invariant.among c.requires.going c.requires.kept c.requires.at c.requires.seen c.requires.run c.requires.turns in
    room-paid known c.owe-owe.ensures

pub resolve-requires-clause-calls : goal.resolve-requires-clause-calls
resolve-requires-clause-calls g c =
    let known = settles c.self.view_is c.session.view_is (c.self.invariant.0, c.self.invariant.1, c.self.invariant.2) refl c.session.invariant.among c.requires.going c.requires.kept c.requires.at c.requires.seen c.requires.run c.requires.turns in
    rw (c.pay-allowance.ensures.session ∙ sym c.session.view_is) (seen-calls known c.owe-owe.ensures)

pub resolve-requires-clause-room : goal.resolve-requires-clause-room
resolve-requires-clause-room g c =
    let known = settles c.self.view_is c.session.view_is (c.self.invariant.0, c.self.invariant.1, c.self.invariant.2) refl c.session.invariant.among c.requires.going c.requires.kept c.requires.at c.requires.seen c.requires.run c.requires.turns in
    rw (c.pay-allowance.ensures.session ∙ sym c.session.view_is) (room-calls known)

pub invariant_of-self : goal.invariant_of-self
invariant_of-self g c =
    let known = settles c.self.view_is c.session.view_is (c.self.invariant.0, c.self.invariant.1, c.self.invariant.2) refl c.session.invariant.among c.requires.going c.requires.kept c.requires.at c.requires.seen c.requires.run c.requires.turns in
    with_tells
    (after_resumed known (resumed-counts c.self.inside.counts c.resolve.ensures.book c.pay-allowance.ensures.book (c.pay-allowance.ensures.session ∙ sym c.session.view_is) c.owe-owe.ensures))
    c.self.invariant.3

pub invariant_of-self-2 : goal.invariant_of-self-2
invariant_of-self-2 g c =
    let known = settles c.self.view_is c.session.view_is (c.self.invariant.0, c.self.invariant.1, c.self.invariant.2) refl c.session.invariant.among c.requires.going c.requires.kept c.requires.at c.requires.seen c.requires.run c.requires.turns in
    with_tells
    (after_resumed known (resumed-counts c.self.inside.counts c.resolve.ensures.book c.pay-allowance.ensures.book (c.pay-allowance.ensures.session ∙ sym c.session.view_is) c.owe-owe.ensures))
    c.self.invariant.3

pub returns-then-not-owe-clause-settled : goal.returns-then-not-owe-clause-settled
returns-then-not-owe-clause-settled g c =
    let known = settles c.self.view_is c.session.view_is (c.self.invariant.0, c.self.invariant.1, c.self.invariant.2) refl c.session.invariant.among c.requires.going c.requires.kept c.requires.at c.requires.seen c.requires.run c.requires.turns in
    rw (← c.self.view_is, ← c.session.view_is) (dropped known c.resolve.ensures.session (c.pay-allowance.ensures.session ∙ sym c.session.view_is) c.owe-owe.ensures c.if-not-owe.true)

pub returns-clause-resumed_as : goal.returns-clause-resumed_as
returns-clause-resumed_as g c =
    let parts = resumed-parts c.self.inside.counts (resumed-counts c.self.inside.counts c.resolve.ensures.book c.pay-allowance.ensures.book (c.pay-allowance.ensures.session ∙ sym c.session.view_is) c.owe-owe.ensures) in
    rw (← c.self.view_is, ← c.session.view_is) (
      ap (λ (o : Owe). o.stands) (sym c.owe-owe.ensures) ∙ not-false c.owe-owe.result.stands c.if-not-owe.false,
      record {
        book = parts.0;
        owes = parts.1;
        paid = subst (λ (o : Owe). IsPaid c.self.inside.node.now o c.pay-allowance.result) c.owe-owe.ensures c.pay-allowance.ensures.paid;
      },
    )
