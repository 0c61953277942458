use Rattle.std.proofs.Common.{refl, ap, ◌∙◌, subst, arith}
use Rattle.locked_replica.specs.Loans.{IsLentInDoubt, act_of}
use Rattle.locked_replica.specs.Locks.{LockedView, entry_in, made_place, one_more_at}
use Rattle.replica_lock.specs.Ledgers.{lent_book}
use Rattle.replica_lock.specs.Nodes.{CountsView}
use Rattle.replica_lock.specs.contracts.session.Session.{the_view}
use Rattle.locked_replica.proofs.LoanActs.{quiet-loan}
use Rattle.replica_lock.proofs.Hearing.{heard_marked, marking_lent, seen_lent}
use Rattle.replica_lock.proofs.Steps.{HasLeft, keeps_left, keeps_made, left, loan-no_call, made, noted}
use Rattle.replica_lock.proofs.Stepping.{after_entry, after_lent, with_tells}
use Rattle.replica_lock.proofs.Turning.{agreed, in_made, room_made}
use Rattle.replica_lock.proofs.turn.Turn.move_loan.Goals as goal
use Rattle.replica_lock.proofs.turn.Turn.move_loan.Goals.{After-mark_lent}

-- what a refusal leaves of the session
leaves : (g : _) (c : After-mark_lent g)
    → HasLeft c.self.inside.node.now c.self.inside.locked.value (the_view c.session.inside) (noted (the_view c.session.inside) c.agree.new.tally c.lend-answer.new.note)
leaves g c =
    let agrees = agreed c.self.view_is c.session.view_is c.requires.session.at c.self.invariant.0 c.stand.ensures c.self.invariant.2.booked c.session.invariant c.agree.ensures.owned c.agree.ensures.tally refl in
    let told = c.in-Err.ensures in
    left c.lend-answer.new.note agrees told.kept
    (rw c.deref_mut.ensures.value at told.err.0) (rw c.deref_mut.ensures.value at told.err.1) told.note told.learnt.1 c.node.view_is told.run

pub returns-in-Ok-clause-made : goal.returns-in-Ok-clause-made
returns-in-Ok-clause-made g c =
    let agrees = agreed c.self.view_is c.session.view_is c.requires.session.at c.self.invariant.0 c.stand.ensures c.self.invariant.2.booked c.session.invariant c.agree.ensures.owned c.agree.ensures.tally refl in
    rw (c.count_made.ensures.session, ← c.self.view_is, ← c.session.view_is)
    (made c.lend-answer.new.note c.args.moment (act_of c.args.loan) agrees c.in-Ok.ensures.note
    (rw c.deref_mut.ensures.value at c.in-Ok.ensures.entered) ((quiet-loan c.args.loan).calls c.session.inside.client))

pub returns-in-Err-clause-refused : goal.returns-in-Err-clause-refused
returns-in-Err-clause-refused g c =
    rw (c.mark_lent.ensures.session, ← c.self.view_is, ← c.session.view_is) (heard_marked _ _ _ _ (marking_lent c.in-Err.fault) (leaves g c).heard)

pub returns-in-Err-clause-fault_seen : goal.returns-in-Err-clause-fault_seen
returns-in-Err-clause-fault_seen g c =
    rw (c.mark_lent.ensures.session, ← c.self.view_is)
    (seen_lent _ c.args.loan c.in-Err.fault _ ((leaves g c).loan_fault c.args.loan c.self.inside.journal c.lend-answer.new.journal c.in-Err.fault (rw c.deref_mut.ensures.value at c.in-Err.ensures.fault)))

pub invariant_of-session : goal.invariant_of-session
invariant_of-session g c =
    let agrees = agreed c.self.view_is c.session.view_is c.requires.session.at c.self.invariant.0 c.stand.ensures c.self.invariant.2.booked c.session.invariant c.agree.ensures.owned c.agree.ensures.tally refl in
    keeps_made c.lend-answer.new.note c.args.moment (act_of c.args.loan) agrees c.in-Ok.ensures.note (rw c.deref_mut.ensures.value at c.in-Ok.ensures.entered)
    ((quiet-loan c.args.loan).calls c.session.inside.client) c.agree.ensures.tally

pub count_made-requires-clause-agrees : goal.count_made-requires-clause-agrees
count_made-requires-clause-agrees g c =
    let agrees = agreed c.self.view_is c.session.view_is c.requires.session.at c.self.invariant.0 c.stand.ensures c.self.invariant.2.booked c.session.invariant c.agree.ensures.owned c.agree.ensures.tally refl in
    rw c.agree.ensures.book (in_made agrees)

pub count_made-requires-clause-room : goal.count_made-requires-clause-room
count_made-requires-clause-room g c =
    let agrees = agreed c.self.view_is c.session.view_is c.requires.session.at c.self.invariant.0 c.stand.ensures c.self.invariant.2.booked c.session.invariant c.agree.ensures.owned c.agree.ensures.tally refl in
    omega (arith, in_made agrees, room_made agrees (rw c.deref_mut.ensures.value at c.in-Ok.ensures.rooms))

pub invariant_of-self : goal.invariant_of-self
invariant_of-self g c =
    let agrees = agreed c.self.view_is c.session.view_is c.requires.session.at c.self.invariant.0 c.stand.ensures c.self.invariant.2.booked c.session.invariant c.agree.ensures.owned c.agree.ensures.tally refl in
    let told = c.in-Ok.ensures in
    with_tells
    (after_entry agrees c.self.invariant.2 (rw c.deref_mut.ensures.value at told.label) told.counts told.journaled told.going.1 (rw c.deref_mut.ensures.value at told.totals)
    (c.count_made.ensures.book ∙ ap (λ (k : CountsView). record k { book = one_more_at (made_place c.session.inside.conits c.session.inside.client) k.book }) c.agree.ensures.book))
    (told.counts.0 ∙ c.self.invariant.3)

pub invariant_of-session-in-Err : goal.invariant_of-session-in-Err
invariant_of-session-in-Err g c =
    let agrees = agreed c.self.view_is c.session.view_is c.requires.session.at c.self.invariant.0 c.stand.ensures c.self.invariant.2.booked c.session.invariant c.agree.ensures.owned c.agree.ensures.tally refl in
    let told = c.in-Err.ensures in
    keeps_left c.lend-answer.new.note agrees told.kept (rw c.deref_mut.ensures.value at told.err.0) (rw c.deref_mut.ensures.value at told.err.1) told.note told.learnt.1 c.node.view_is told.run c.agree.ensures.tally

pub invariant_of-self-in-Err : goal.invariant_of-self-in-Err
invariant_of-self-in-Err g c =
    let agrees = agreed c.self.view_is c.session.view_is c.requires.session.at c.self.invariant.0 c.stand.ensures c.self.invariant.2.booked c.session.invariant c.agree.ensures.owned c.agree.ensures.tally refl in
    let told = c.in-Err.ensures in
    with_tells
    (after_lent agrees c.self.invariant.2 (rw c.deref_mut.ensures.value at told.label) told.counts told.journaled c.args.loan (entry_in c.self.inside.locked.value c.args.moment (act_of c.args.loan)) c.in-Err.fault
    (rw c.deref_mut.ensures.value at told.err.2) c.self.invariant.1.counted (loan-no_call c.args.loan)
    (rw c.deref_mut.ensures.value at told.fault)
    (subst (λ (v : LockedView). IsLentInDoubt c.lend-answer.new.journal (entry_in v c.args.moment (act_of c.args.loan)) c.in-Err.fault) c.deref_mut.ensures.value told.doubt)
    (c.mark_lent.ensures.book ∙ ap (λ (k : CountsView). record k { book = lent_book c.session.inside.conits c.session.inside.client c.in-Err.fault k.book }) c.agree.ensures.book))
    (told.counts.0 ∙ c.self.invariant.3)
