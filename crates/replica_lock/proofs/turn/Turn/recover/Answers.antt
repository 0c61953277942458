use Rattle.std.proofs.Common.{◌<◌, ◌+◌, ◌^◌, IfSome, refl, sym, subst, ap, ◌∙◌}
use Rattle.locked_replica.specs.Locks.{LockedView}
use Rattle.locked_replica.specs.Restarting.{HasReread}
use Rattle.locked_replica.specs.declared.restarting.Found.{Found}
use Rattle.replica_lock.specs.Ledgers.{found_owes, owe_of, restart_book}
use Rattle.replica_lock.specs.Nodes.{CountsView}
use Rattle.replica_lock.specs.contracts.session.Session.{the_view}
use Rattle.replica_lock.proofs.Finding.{after_found, among_reread, few_reread, heard_reread, keeps_reread}
use Rattle.replica_lock.proofs.Hearing.{heard_marked, marking_restart}
use Rattle.replica_lock.proofs.Steps.{HasLeft, keeps_left, left, noted}
use Rattle.replica_lock.proofs.Stepping.{after_reread_refused, with_tells}
use Rattle.replica_lock.proofs.Turning.{agreed}
use Rattle.replica_lock.proofs.turn.Turn.recover.Goals as goal
use Rattle.replica_lock.proofs.turn.Turn.recover.Goals.{After-mark_restart}

-- what a refusal leaves of the session
leaves : (g : _) (c : After-mark_restart g)
    → HasLeft c.self.inside.node.now c.self.inside.locked.value (the_view c.session.inside) (noted (the_view c.session.inside) c.agree.new.tally c.reread-answer.new.note)
leaves g c =
    let agrees = agreed c.self.view_is c.session.view_is c.requires.session c.self.invariant.0 c.stand.ensures c.self.invariant.2.booked c.session.invariant c.agree.ensures.owned c.agree.ensures.tally refl in
    let told = c.in-Err.ensures in
    left c.reread-answer.new.note agrees told.kept
    (rw c.deref_mut.ensures.value at told.err.0) (rw c.deref_mut.ensures.value at told.err.1) told.note told.learnt.1 c.node.view_is told.run

pub note_found-requires-clause-clients : goal.note_found-requires-clause-clients
note_found-requires-clause-clients g c =
    let agrees = agreed c.self.view_is c.session.view_is c.requires.session c.self.invariant.0 c.stand.ensures c.self.invariant.2.booked c.session.invariant c.agree.ensures.owned c.agree.ensures.tally refl in
    among_reread agrees c.self.invariant.2 c.self.invariant.1 c.in-Ok.ensures.kept c.in-Ok.found (subst (λ (v : LockedView). HasReread v c.reread-answer.new.self c.self.inside.journal.doubt c.in-Ok.found) c.deref_mut.ensures.value c.in-Ok.ensures.found)

pub note_found-requires-clause-few : goal.note_found-requires-clause-few
note_found-requires-clause-few g c =
    let agrees = agreed c.self.view_is c.session.view_is c.requires.session c.self.invariant.0 c.stand.ensures c.self.invariant.2.booked c.session.invariant c.agree.ensures.owned c.agree.ensures.tally refl in
    subst (λ (k : CountsView). IfSome c.in-Ok.found (λ (one : Found). (owe_of k.owes one.client).kept + 1 < 2 ^ 64)) (sym c.agree.ensures.book)
    (few_reread agrees c.self.invariant.2 c.self.invariant.1 c.in-Ok.ensures.kept c.in-Ok.found (subst (λ (v : LockedView). HasReread v c.reread-answer.new.self c.self.inside.journal.doubt c.in-Ok.found) c.deref_mut.ensures.value c.in-Ok.ensures.found))

pub invariant_of-self : goal.invariant_of-self
invariant_of-self g c =
    let agrees = agreed c.self.view_is c.session.view_is c.requires.session c.self.invariant.0 c.stand.ensures c.self.invariant.2.booked c.session.invariant c.agree.ensures.owned c.agree.ensures.tally refl in
    let told = c.in-Ok.ensures in
    with_tells
    (after_found agrees c.self.invariant.2 c.self.invariant.1 told.kept c.in-Ok.found (subst (λ (v : LockedView). HasReread v c.reread-answer.new.self c.self.inside.journal.doubt c.in-Ok.found) c.deref_mut.ensures.value c.in-Ok.ensures.found) (rw c.deref_mut.ensures.value at told.label) (told.tells, told.never_falls) told.journaled told.sure.0
    (c.note_found.ensures ∙ ap (λ (k : CountsView). record k { owes = found_owes c.in-Ok.found k.owes }) c.agree.ensures.book))
    (told.tells ∙ c.self.invariant.3)

pub invariant_of-session : goal.invariant_of-session
invariant_of-session g c =
    let agrees = agreed c.self.view_is c.session.view_is c.requires.session c.self.invariant.0 c.stand.ensures c.self.invariant.2.booked c.session.invariant c.agree.ensures.owned c.agree.ensures.tally refl in
    let told = c.in-Ok.ensures in
    keeps_reread agrees c.self.invariant.2 c.self.invariant.1 told.kept c.reread-answer.new.note c.in-Ok.found (subst (λ (v : LockedView). HasReread v c.reread-answer.new.self c.self.inside.journal.doubt c.in-Ok.found) c.deref_mut.ensures.value c.in-Ok.ensures.found) (rw c.deref_mut.ensures.value at told.label) told.note told.learnt.1 c.node.view_is told.run c.agree.ensures.tally

pub returns-in-Ok-clause-heard : goal.returns-in-Ok-clause-heard
returns-in-Ok-clause-heard g c =
    let agrees = agreed c.self.view_is c.session.view_is c.requires.session c.self.invariant.0 c.stand.ensures c.self.invariant.2.booked c.session.invariant c.agree.ensures.owned c.agree.ensures.tally refl in
    let told = c.in-Ok.ensures in
    rw (← c.self.view_is, ← c.session.view_is)
    (heard_reread agrees c.self.invariant.2 c.self.invariant.1 told.kept c.reread-answer.new.note c.in-Ok.found (subst (λ (v : LockedView). HasReread v c.reread-answer.new.self c.self.inside.journal.doubt c.in-Ok.found) c.deref_mut.ensures.value c.in-Ok.ensures.found) (rw c.deref_mut.ensures.value at told.label) told.note told.learnt.1 c.node.view_is told.run)

pub returns-in-Err-clause-refused : goal.returns-in-Err-clause-refused
returns-in-Err-clause-refused g c =
    rw (c.mark_restart.ensures.session, ← c.self.view_is, ← c.session.view_is) (heard_marked _ _ _ _ (marking_restart c.in-Err.fault) (leaves g c).heard)

pub invariant_of-session-in-Err : goal.invariant_of-session-in-Err
invariant_of-session-in-Err g c =
    let agrees = agreed c.self.view_is c.session.view_is c.requires.session c.self.invariant.0 c.stand.ensures c.self.invariant.2.booked c.session.invariant c.agree.ensures.owned c.agree.ensures.tally refl in
    let told = c.in-Err.ensures in
    keeps_left c.reread-answer.new.note agrees told.kept (rw c.deref_mut.ensures.value at told.err.0) (rw c.deref_mut.ensures.value at told.err.1) told.note told.learnt.1 c.node.view_is told.run c.agree.ensures.tally

pub invariant_of-self-in-Err : goal.invariant_of-self-in-Err
invariant_of-self-in-Err g c =
    let agrees = agreed c.self.view_is c.session.view_is c.requires.session c.self.invariant.0 c.stand.ensures c.self.invariant.2.booked c.session.invariant c.agree.ensures.owned c.agree.ensures.tally refl in
    let told = c.in-Err.ensures in
    with_tells
    (after_reread_refused agrees c.self.invariant.2 (rw c.deref_mut.ensures.value at told.label) (told.tells, told.never_falls) told.journaled c.in-Err.fault (rw c.deref_mut.ensures.value at told.err.2) told.doubt told.fault
    (c.mark_restart.ensures.book ∙ ap (λ (k : CountsView). record k { book = restart_book c.session.inside.conits c.session.inside.client c.in-Err.fault k.book }) c.agree.ensures.book))
    (told.tells ∙ c.self.invariant.3)
