use Rattle.std.proofs.Common.{refl, ap, subst}
use Rattle.run_model.specs.Histories.{IsPrefix}
use Rattle.locked_replica.specs.Locks.{LockedView}
use Rattle.replica_lock.proofs.Steps.{keeps_left, left}
use Rattle.replica_lock.proofs.Stepping.{after_heard, with_tells}
use Rattle.replica_lock.proofs.Turning.{agreed}
use Rattle.replica_lock.proofs.turn.Turn.hear.Goals as goal

pub invariant_of-self : goal.invariant_of-self
invariant_of-self g c =
    let agrees = agreed c.self.view_is c.session.view_is c.requires.session.at c.self.invariant.0 c.stand.ensures c.self.invariant.2.booked c.session.invariant c.agree.ensures.owned c.agree.ensures.tally refl in
    let value = rw c.deref_mut.ensures.value at c.hear.ensures.value in
    with_tells
    (after_heard agrees c.self.invariant.2 c.self.invariant.1 value (subst (IsPrefix c.self.inside.locked.value.clerk.seen) c.hear.ensures.note.1 (rw c.deref_mut.ensures.value at c.hear.ensures.learnt).0) c.agree.ensures.book)
    c.self.invariant.3

pub invariant_of-session : goal.invariant_of-session
invariant_of-session g c =
    let told = c.hear.ensures in
    let value = rw c.deref_mut.ensures.value at told.value in
    let agrees = agreed c.self.view_is c.session.view_is c.requires.session.at c.self.invariant.0 c.stand.ensures c.self.invariant.2.booked c.session.invariant c.agree.ensures.owned c.agree.ensures.tally refl in
    keeps_left c.hear.new.note agrees told.kept (ap (λ (v : LockedView). v.core) value) (ap (λ (v : LockedView). v.stored) value) told.note told.learnt.1 c.node.view_is told.run c.agree.ensures.tally

pub returns-clause-heard : goal.returns-clause-heard
returns-clause-heard g c =
    let told = c.hear.ensures in
    let value = rw c.deref_mut.ensures.value at told.value in
    let agrees = agreed c.self.view_is c.session.view_is c.requires.session.at c.self.invariant.0 c.stand.ensures c.self.invariant.2.booked c.session.invariant c.agree.ensures.owned c.agree.ensures.tally refl in
    rw (← c.self.view_is, ← c.session.view_is)
    (left c.hear.new.note agrees told.kept (ap (λ (v : LockedView). v.core) value) (ap (λ (v : LockedView). v.stored) value) told.note told.learnt.1 c.node.view_is told.run).heard
