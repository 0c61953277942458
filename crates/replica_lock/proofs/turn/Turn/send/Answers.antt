use Rattle.std.proofs.Common.{◌≡◌, refl, ap, ◌∙◌, subst, arith}
use Rattle.run_model.specs.declared.entry.Act.TheVariants as act
use Rattle.locked_replica.specs.Journals.{IsInDoubtAfter, send_in}
use Rattle.locked_replica.specs.Locks.{LockedView, made_place, one_more_at, part_in}
use Rattle.replica_lock.specs.Ledgers.{told_book}
use Rattle.replica_lock.specs.Nodes.{CountsView}
use Rattle.locked_replica.specs.Parcels.{message_to}
use Rattle.replica_lock.specs.contracts.session.Session.{the_view}
use Rattle.replica_lock.proofs.Hearing.{heard_marked, marking, seen_marked}
use Rattle.replica_lock.proofs.Steps.{HasLeft, keeps_left, keeps_made, left, made, message_made, noted}
use Rattle.replica_lock.proofs.Stepping.{after_entry, after_told, with_tells}
use Rattle.replica_lock.proofs.Turning.{agreed, in_made, room_made}
use Rattle.replica_lock.proofs.turn.Turn.send.Goals as goal
use Rattle.replica_lock.proofs.turn.Turn.send.Goals.{After-mark}

-- what a refusal leaves of the session
leaves : (g : _) (c : After-mark g)
    → HasLeft c.self.inside.node.now c.self.inside.locked.value (the_view c.session.inside) (noted (the_view c.session.inside) c.agree.new.tally c.send-answer.new.note)
leaves g c =
    let agrees = agreed c.self.view_is c.session.view_is c.requires.session.at c.self.invariant.0 c.stand.ensures c.self.invariant.2.booked c.session.invariant c.agree.ensures.owned c.agree.ensures.tally refl in
    let told = c.in-Err.ensures in
    left c.send-answer.new.note agrees told.kept
    (rw c.deref_mut.ensures.value at told.err.0) (rw c.deref_mut.ensures.value at told.err.1) told.note told.learnt.1 c.node.view_is told.run

pub returns-in-Ok-clause-sent : goal.returns-in-Ok-clause-sent
returns-in-Ok-clause-sent g c =
    let agrees = agreed c.self.view_is c.session.view_is c.requires.session.at c.self.invariant.0 c.stand.ensures c.self.invariant.2.booked c.session.invariant c.agree.ensures.owned c.agree.ensures.tally refl in
    let told = c.in-Ok.ensures in
    let entered = rw c.deref_mut.ensures.value at told.entered in
    let message = subst (λ (v : LockedView). c.in-Ok.parcel.message ≡ message_to v.core.setup v.core.replica (part_in v) c.args.moment c.args.to) c.deref_mut.ensures.value told.message in
    let done = act.Send c.in-Ok.parcel.message in
    rw (c.count_made.ensures.session, ← c.self.view_is, ← c.session.view_is) (record {
      made = made c.send-answer.new.note c.args.moment done agrees told.note entered refl;
      message_is = message_made c.send-answer.new.note c.args.moment done agrees told.note entered refl c.args.to c.in-Ok.parcel.message message;
    })

pub returns-in-Err-clause-refused : goal.returns-in-Err-clause-refused
returns-in-Err-clause-refused g c =
    rw (c.mark.ensures.session, ← c.self.view_is, ← c.session.view_is) (heard_marked _ _ _ _ (marking c.in-Err.fault) (leaves g c).heard)

pub returns-in-Err-clause-fault_seen : goal.returns-in-Err-clause-fault_seen
returns-in-Err-clause-fault_seen g c =
    rw c.mark.ensures.session (seen_marked c.in-Err.fault _ ((leaves g c).fault c.self.inside.journal c.send-answer.new.journal c.in-Err.fault (rw c.deref_mut.ensures.value at c.in-Err.ensures.fault)))

pub invariant_of-session : goal.invariant_of-session
invariant_of-session g c =
    let agrees = agreed c.self.view_is c.session.view_is c.requires.session.at c.self.invariant.0 c.stand.ensures c.self.invariant.2.booked c.session.invariant c.agree.ensures.owned c.agree.ensures.tally refl in
    keeps_made c.send-answer.new.note c.args.moment (act.Send c.in-Ok.parcel.message) agrees c.in-Ok.ensures.note (rw c.deref_mut.ensures.value at c.in-Ok.ensures.entered) refl c.agree.ensures.tally

pub count_made-requires-clause-agrees : goal.count_made-requires-clause-agrees
count_made-requires-clause-agrees g c =
    let agrees = agreed c.self.view_is c.session.view_is c.requires.session.at c.self.invariant.0 c.stand.ensures c.self.invariant.2.booked c.session.invariant c.agree.ensures.owned c.agree.ensures.tally refl in
    rw c.agree.ensures.book (in_made agrees)

pub count_made-requires-clause-room : goal.count_made-requires-clause-room
count_made-requires-clause-room g c =
    let agrees = agreed c.self.view_is c.session.view_is c.requires.session.at c.self.invariant.0 c.stand.ensures c.self.invariant.2.booked c.session.invariant c.agree.ensures.owned c.agree.ensures.tally refl in
    omega (arith, in_made agrees, room_made agrees (rw c.deref_mut.ensures.value at c.in-Ok.ensures.rooms))

pub invariant_of-self : goal.invariant_of-self
invariant_of-self g c =
    let agrees = agreed c.self.view_is c.session.view_is c.requires.session.at c.self.invariant.0 c.stand.ensures c.self.invariant.2.booked c.session.invariant c.agree.ensures.owned c.agree.ensures.tally refl in
    let told = c.in-Ok.ensures in
    with_tells
    (after_entry agrees c.self.invariant.2 (rw c.deref_mut.ensures.value at told.label) told.counts told.journaled told.going.1 (rw c.deref_mut.ensures.value at told.totals)
    (c.count_made.ensures.book ∙ ap (λ (k : CountsView). record k { book = one_more_at (made_place c.session.inside.conits c.session.inside.client) k.book }) c.agree.ensures.book))
    (told.counts.0 ∙ c.self.invariant.3)

pub invariant_of-session-in-Err : goal.invariant_of-session-in-Err
invariant_of-session-in-Err g c =
    let agrees = agreed c.self.view_is c.session.view_is c.requires.session.at c.self.invariant.0 c.stand.ensures c.self.invariant.2.booked c.session.invariant c.agree.ensures.owned c.agree.ensures.tally refl in
    let told = c.in-Err.ensures in
    keeps_left c.send-answer.new.note agrees told.kept (rw c.deref_mut.ensures.value at told.err.0) (rw c.deref_mut.ensures.value at told.err.1) told.note told.learnt.1 c.node.view_is told.run c.agree.ensures.tally

pub invariant_of-self-in-Err : goal.invariant_of-self-in-Err
invariant_of-self-in-Err g c =
    let agrees = agreed c.self.view_is c.session.view_is c.requires.session.at c.self.invariant.0 c.stand.ensures c.self.invariant.2.booked c.session.invariant c.agree.ensures.owned c.agree.ensures.tally refl in
    let told = c.in-Err.ensures in
    with_tells
    (after_told agrees c.self.invariant.2 (rw c.deref_mut.ensures.value at told.label) told.counts told.journaled (send_in c.self.inside.locked.value c.args.moment c.args.to) c.in-Err.fault (rw c.deref_mut.ensures.value at told.err.2) c.self.invariant.1.counted tt
    (rw c.deref_mut.ensures.value at told.fault) (subst (λ (v : LockedView). IsInDoubtAfter c.send-answer.new.journal (send_in v c.args.moment c.args.to) c.in-Err.fault) c.deref_mut.ensures.value told.doubt)
    (c.mark.ensures.book ∙ ap (λ (k : CountsView). record k { book = told_book c.session.inside.conits c.session.inside.client c.in-Err.fault k.book }) c.agree.ensures.book))
    (told.counts.0 ∙ c.self.invariant.3)
