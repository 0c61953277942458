use Rattle.std.proofs.Common.{refl, subst, ap, ◌∙◌, arith}
use Rattle.run_model.specs.declared.entry.Act.TheVariants as act
use Rattle.locked_replica.specs.Journals.{IsInDoubtAfter}
use Rattle.locked_replica.specs.Locks.{LockedView, entry_in, made_place, one_more_at}
use Rattle.replica_lock.specs.Ledgers.{told_book}
use Rattle.replica_lock.specs.Nodes.{CountsView}
use Rattle.replica_lock.specs.contracts.session.Session.{the_view}
use Rattle.replica_lock.proofs.Hearing.{heard_marked, marking, seen_marked}
use Rattle.replica_lock.proofs.Steps.{HasLeft, keeps_left, keeps_made, left, made, noted}
use Rattle.replica_lock.proofs.Stepping.{after_entry, after_told, with_tells}
use Rattle.replica_lock.proofs.Turning.{agreed, in_made, room_made}
use Rattle.replica_lock.proofs.turn.Turn.take.Goals as goal
use Rattle.replica_lock.proofs.turn.Turn.take.Goals.{After-mark}

-- what a refusal leaves of the session
leaves : (g : _) (c : After-mark g)
    → HasLeft c.self.inside.node.now c.self.inside.locked.value (the_view c.session.inside) (noted (the_view c.session.inside) c.agree.new.tally c.take-answer.new.note)
leaves g c =
    let agrees = agreed c.self.view_is c.session.view_is c.requires.session.at c.self.invariant.0 c.stand.ensures c.self.invariant.2.booked c.session.invariant c.agree.ensures.owned c.agree.ensures.tally refl in
    let told = c.in-Err.ensures in
    left c.take-answer.new.note agrees told.kept
    (rw c.deref_mut.ensures.value at told.err.0) (rw c.deref_mut.ensures.value at told.err.1) told.note told.learnt.1 c.node.view_is told.run

pub returns-in-Ok-clause-taken : goal.returns-in-Ok-clause-taken
returns-in-Ok-clause-taken g c =
    let agrees = agreed c.self.view_is c.session.view_is c.requires.session.at c.self.invariant.0 c.stand.ensures c.self.invariant.2.booked c.session.invariant c.agree.ensures.owned c.agree.ensures.tally refl in
    rw (c.count_made.ensures.session, ← c.self.view_is, ← c.session.view_is)
    (made c.take-answer.new.note c.args.moment _ agrees c.in-Ok.ensures.note (rw c.deref_mut.ensures.value at c.in-Ok.ensures.entered) refl)

pub returns-in-Err-clause-refused : goal.returns-in-Err-clause-refused
returns-in-Err-clause-refused g c =
    rw (c.mark.ensures.session, ← c.self.view_is, ← c.session.view_is) (heard_marked _ _ _ _ (marking c.in-Err.refused.fault) (leaves g c).heard)

pub returns-in-Err-clause-fault_seen : goal.returns-in-Err-clause-fault_seen
returns-in-Err-clause-fault_seen g c =
    rw c.mark.ensures.session (seen_marked c.in-Err.refused.fault _ ((leaves g c).fault c.self.inside.journal c.take-answer.new.journal c.in-Err.refused.fault (rw c.deref_mut.ensures.value at c.in-Err.ensures.fault)))

pub invariant_of-session : goal.invariant_of-session
invariant_of-session g c =
    let agrees = agreed c.self.view_is c.session.view_is c.requires.session.at c.self.invariant.0 c.stand.ensures c.self.invariant.2.booked c.session.invariant c.agree.ensures.owned c.agree.ensures.tally refl in
    keeps_made c.take-answer.new.note c.args.moment _ agrees c.in-Ok.ensures.note (rw c.deref_mut.ensures.value at c.in-Ok.ensures.entered) refl c.agree.ensures.tally

pub count_made-requires-clause-agrees : goal.count_made-requires-clause-agrees
count_made-requires-clause-agrees g c =
    let agrees = agreed c.self.view_is c.session.view_is c.requires.session.at c.self.invariant.0 c.stand.ensures c.self.invariant.2.booked c.session.invariant c.agree.ensures.owned c.agree.ensures.tally refl in
    rw c.agree.ensures.book (in_made agrees)

pub count_made-requires-clause-room : goal.count_made-requires-clause-room
count_made-requires-clause-room g c =
    let agrees = agreed c.self.view_is c.session.view_is c.requires.session.at c.self.invariant.0 c.stand.ensures c.self.invariant.2.booked c.session.invariant c.agree.ensures.owned c.agree.ensures.tally refl in
    omega (arith, in_made agrees, room_made agrees (rw c.deref_mut.ensures.value at c.in-Ok.ensures.rooms))

pub invariant_of-self : goal.invariant_of-self
invariant_of-self g c =
    let agrees = agreed c.self.view_is c.session.view_is c.requires.session.at c.self.invariant.0 c.stand.ensures c.self.invariant.2.booked c.session.invariant c.agree.ensures.owned c.agree.ensures.tally refl in
    let told = c.in-Ok.ensures in
    with_tells
    (after_entry agrees c.self.invariant.2 (rw c.deref_mut.ensures.value at told.label) told.counts told.journaled told.going.1 (rw c.deref_mut.ensures.value at told.totals)
    (c.count_made.ensures.book ∙ ap (λ (k : CountsView). record k { book = one_more_at (made_place c.session.inside.conits c.session.inside.client) k.book }) c.agree.ensures.book))
    (told.counts.0 ∙ c.self.invariant.3)

pub invariant_of-session-in-Err : goal.invariant_of-session-in-Err
invariant_of-session-in-Err g c =
    let agrees = agreed c.self.view_is c.session.view_is c.requires.session.at c.self.invariant.0 c.stand.ensures c.self.invariant.2.booked c.session.invariant c.agree.ensures.owned c.agree.ensures.tally refl in
    let told = c.in-Err.ensures in
    keeps_left c.take-answer.new.note agrees told.kept (rw c.deref_mut.ensures.value at told.err.0) (rw c.deref_mut.ensures.value at told.err.1) told.note told.learnt.1 c.node.view_is told.run c.agree.ensures.tally

pub invariant_of-self-in-Err : goal.invariant_of-self-in-Err
invariant_of-self-in-Err g c =
    let agrees = agreed c.self.view_is c.session.view_is c.requires.session.at c.self.invariant.0 c.stand.ensures c.self.invariant.2.booked c.session.invariant c.agree.ensures.owned c.agree.ensures.tally refl in
    let told = c.in-Err.ensures in
    with_tells
    (after_told agrees c.self.invariant.2 (rw c.deref_mut.ensures.value at told.label) told.counts told.journaled (entry_in c.self.inside.locked.value c.args.moment (act.Take c.args.parcel.message)) c.in-Err.refused.fault (rw c.deref_mut.ensures.value at told.err.2) c.self.invariant.1.counted tt
    (rw c.deref_mut.ensures.value at told.fault) (subst (λ (v : LockedView). IsInDoubtAfter c.take-answer.new.journal (entry_in v c.args.moment (act.Take c.args.parcel.message)) c.in-Err.refused.fault) c.deref_mut.ensures.value told.doubt)
    (c.mark.ensures.book ∙ ap (λ (k : CountsView). record k { book = told_book c.session.inside.conits c.session.inside.client c.in-Err.refused.fault k.book }) c.agree.ensures.book))
    (told.counts.0 ∙ c.self.invariant.3)
