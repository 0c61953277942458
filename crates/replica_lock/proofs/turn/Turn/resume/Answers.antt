use Rattle.std.proofs.Common.{refl, sym, ap, ◌∙◌, subst}
use Rattle.run_model.specs.Histories.{IsPrefix}
use Rattle.locked_replica.specs.declared.fault.NodeFault.TheVariants as fault
use Rattle.replica_lock.specs.Ledgers.{told_book}
use Rattle.replica_lock.specs.Nodes.{CountsView}
use Rattle.replica_lock.proofs.Hearing.{heard_marked, marking}
use Rattle.replica_lock.proofs.Resumes.{after_halted, after_heard, has_resumed, heard_learnt, keeps_learnt, replica_learnt}
use Rattle.replica_lock.proofs.Turning.{agreed, in_turns}
use Rattle.replica_lock.proofs.Stepping.{with_tells}
use Rattle.replica_lock.proofs.turn.Turn.resume.Goals as goal

pub invariant_of-self : goal.invariant_of-self
invariant_of-self g c =
    let told = c.hear_own.ensures in
    let agrees = agreed c.self.view_is c.session.view_is c.requires c.self.invariant.0 c.stand.ensures c.self.invariant.2.booked c.session.invariant c.agree.ensures.owned c.agree.ensures.tally refl in
    with_tells
    (after_heard agrees (c.self.invariant.0, c.self.invariant.1, c.self.invariant.2) (rw c.deref_mut.ensures.value at told.value) (subst (IsPrefix c.self.inside.locked.value.clerk.seen) told.note.1 (rw c.deref_mut.ensures.value at told.learnt.0)) c.agree.ensures.book)
    c.self.invariant.3

pub invariant_of-self-then-is_halted : goal.invariant_of-self-then-is_halted
invariant_of-self-then-is_halted g c =
    let told = c.hear_own.ensures in
    let agrees = agreed c.self.view_is c.session.view_is c.requires c.self.invariant.0 c.stand.ensures c.self.invariant.2.booked c.session.invariant c.agree.ensures.owned c.agree.ensures.tally refl in
    with_tells
    (after_halted agrees (c.self.invariant.0, c.self.invariant.1, c.self.invariant.2) (rw c.deref_mut.ensures.value at told.value) (subst (IsPrefix c.self.inside.locked.value.clerk.seen) told.note.1 (rw c.deref_mut.ensures.value at told.learnt.0))
    (sym c.is_halted.ensures.halted ∙ c.if-is_halted.true) (c.mark_halt.ensures.book ∙ ap (λ (k : CountsView). record k { book = told_book c.session.inside.conits c.session.inside.client fault.Halted k.book }) c.agree.ensures.book))
    c.self.invariant.3

pub invariant_of-session : goal.invariant_of-session
invariant_of-session g c =
    let told = c.hear_own.ensures in
    let agrees = agreed c.self.view_is c.session.view_is c.requires c.self.invariant.0 c.stand.ensures c.self.invariant.2.booked c.session.invariant c.agree.ensures.owned c.agree.ensures.tally refl in
    keeps_learnt agrees (c.self.invariant.0, c.self.invariant.1, c.self.invariant.2) (rw c.deref_mut.ensures.value at told.value) (subst (IsPrefix c.self.inside.locked.value.clerk.seen) told.note.1 (rw c.deref_mut.ensures.value at told.learnt.0))
    c.hear_own.new.note told.kept told.note told.learnt.1 c.node.view_is told.run c.agree.ensures.tally

pub returns-then-not-session-clause-resumed : goal.returns-then-not-session-clause-resumed
returns-then-not-session-clause-resumed g c =
    let told = c.hear_own.ensures in
    let agrees = agreed c.self.view_is c.session.view_is c.requires c.self.invariant.0 c.stand.ensures c.self.invariant.2.booked c.session.invariant c.agree.ensures.owned c.agree.ensures.tally refl in
    rw (← c.self.view_is, ← c.session.view_is) (
      c.if-not-session.true,
      heard_learnt agrees (c.self.invariant.0, c.self.invariant.1, c.self.invariant.2) (rw c.deref_mut.ensures.value at told.value) (subst (IsPrefix c.self.inside.locked.value.clerk.seen) told.note.1 (rw c.deref_mut.ensures.value at told.learnt.0))
          c.hear_own.new.note told.kept told.note told.learnt.1 c.node.view_is told.run,
    )

pub returns-then-is_halted-clause-refused : goal.returns-then-is_halted-clause-refused
returns-then-is_halted-clause-refused g c =
    let told = c.hear_own.ensures in
    let agrees = agreed c.self.view_is c.session.view_is c.requires c.self.invariant.0 c.stand.ensures c.self.invariant.2.booked c.session.invariant c.agree.ensures.owned c.agree.ensures.tally refl in
    rw (c.mark_halt.ensures.session, ← c.self.view_is, ← c.session.view_is)
    (heard_marked _ _ _ _ (marking fault.Halted)
    (heard_learnt agrees (c.self.invariant.0, c.self.invariant.1, c.self.invariant.2) (rw c.deref_mut.ensures.value at told.value) (subst (IsPrefix c.self.inside.locked.value.clerk.seen) told.note.1 (rw c.deref_mut.ensures.value at told.learnt.0))
    c.hear_own.new.note told.kept told.note told.learnt.1 c.node.view_is told.run))

pub settle-requires-clause-turns : goal.settle-requires-clause-turns
settle-requires-clause-turns g c =
    let agrees = agreed c.self.view_is c.session.view_is c.requires c.self.invariant.0 c.stand.ensures c.self.invariant.2.booked c.session.invariant c.agree.ensures.owned c.agree.ensures.tally refl in
    rw c.agree.ensures.book (in_turns agrees)

pub returns-clause-resumed : goal.returns-clause-resumed
returns-clause-resumed g c =
    let told = c.hear_own.ensures in
    let value = rw c.deref_mut.ensures.value at told.value in
    let learnt = subst (IsPrefix c.self.inside.locked.value.clerk.seen) told.note.1 (rw c.deref_mut.ensures.value at told.learnt.0) in
    let agrees = agreed c.self.view_is c.session.view_is c.requires c.self.invariant.0 c.stand.ensures c.self.invariant.2.booked c.session.invariant c.agree.ensures.owned c.agree.ensures.tally refl in
    rw (← c.self.view_is, ← c.session.view_is)
    (has_resumed (heard_learnt agrees (c.self.invariant.0, c.self.invariant.1, c.self.invariant.2) value learnt c.hear_own.new.note told.kept told.note told.learnt.1 c.node.view_is told.run) told.note.1 told.kept
    (replica_learnt agrees (c.self.invariant.0, c.self.invariant.1, c.self.invariant.2) value learnt) c.if-not-session.false c.session.invariant.least c.settle.new.session c.settle.result c.settle.ensures.settled)
