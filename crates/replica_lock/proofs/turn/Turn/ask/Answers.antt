use Rattle.std.proofs.Common.{◌≡◌, ◌+◌, ◌-◌, ◌<◌, false, get_or, set, refl, sym, ap, ◌∙◌, subst, arith}
use Rattle.run_model.specs.Missing.{granted_on, used_on, reserved}
use Rattle.weight_ledger.specs.Seen.{TallyView}
use Rattle.locked_replica.specs.Asking.{conit_of}
use Rattle.locked_replica.specs.Journals.{IsInDoubtAfter, call_in}
use Rattle.locked_replica.specs.Locks.{LockedView, made_place, one_more_at, part_in, turns_place}
use Rattle.replica_lock.specs.Allowances.{AllowanceView}
use Rattle.replica_lock.specs.Ledgers.{failed_book, failed_owes}
use Rattle.replica_lock.specs.Nodes.{CountsView}
use Rattle.replica_lock.specs.Sessions.{SessionView}
use Rattle.replica_lock.specs.contracts.session.Session.{the_view}
use Rattle.locked_replica.proofs.Allowing.{used-most, reserved-entered, entered-due}
use Rattle.replica_lock.proofs.Allowed.{asked_with, lost-within, may-more}
use Rattle.replica_lock.proofs.Hearing.{heard_marked, marking_failed, seen_failed}
use Rattle.replica_lock.proofs.LedgerLemmas.{counted-conit}
use Rattle.replica_lock.proofs.Seeing.{HasCalled-entered}
use Rattle.replica_lock.proofs.Told.{KeepsSession-counted, allowance_as, calls-entered, calls-seen}
use Rattle.replica_lock.proofs.Steps.{HasLeft, keeps_left, left, noted}
use Rattle.replica_lock.proofs.Stepping.{after_call, after_failed, with_tells}
use Rattle.replica_lock.proofs.Turning.{agreed, in_made, in_turns, places, room_made, room_turns, tells, session_as, width}
use Rattle.replica_lock.proofs.turn.Turn.ask.Goals as goal
use Rattle.replica_lock.proofs.turn.Turn.ask.Goals.{After-fail}

-- what a refusal leaves of the session
leaves : (g : _) (c : After-fail g)
    → HasLeft c.self.inside.node.now c.self.inside.locked.value (the_view c.session.inside) (noted (the_view c.session.inside) c.agree.new.tally c.call-answer.new.note)
leaves g c =
    let agrees = agreed c.self.view_is c.session.view_is c.requires.session.at c.self.invariant.0 c.stand.ensures c.self.invariant.2.booked c.session.invariant c.agree.ensures.owned c.agree.ensures.tally refl in
    let told = c.in-Err.ensures in
    left c.call-answer.new.note agrees told.kept (rw c.deref_mut.ensures.value at told.err.0)
    (rw c.deref_mut.ensures.value at told.err.1) told.note told.learnt.1 c.node.view_is told.run

pub call-answer-requires-clause-asked : goal.call-answer-requires-clause-asked
call-answer-requires-clause-asked g c =
    let asked = asked_with c.allowance.inside.tally c.args.request c.self.view_is c.allowance.view_is c.self.invariant.0 c.stand.ensures c.self.invariant.2.booked c.requires.allowance c.requires.asked c.allowance.invariant c.agree-2.ensures.least c.agree.ensures.book in
    let locked = c.self.inside.locked.value in
    rw c.deref_mut.ensures.value
    (may-more locked.core.setup c.allowance.inside.conit c.allowance.inside.amount (reserved (part_in locked) c.allowance.inside.conit) c.args.request asked.held asked.may)

pub count-requires-clause-turns : goal.count-requires-clause-turns
count-requires-clause-turns g c =
    let agrees = agreed c.self.view_is c.session.view_is c.requires.session.at c.self.invariant.0 c.stand.ensures c.self.invariant.2.booked c.session.invariant c.agree.ensures.owned c.agree.ensures.tally refl in
    rw (c.agree.ensures.tally, c.agree-2.ensures.book, c.agree.ensures.book) ((places agrees).owns_turns, room_turns agrees (rw c.deref_mut.ensures.value at c.in-Ok.ensures.rooms).0)

pub count-requires-clause-made : goal.count-requires-clause-made
count-requires-clause-made g c =
    let agrees = agreed c.self.view_is c.session.view_is c.requires.session.at c.self.invariant.0 c.stand.ensures c.self.invariant.2.booked c.session.invariant c.agree.ensures.owned c.agree.ensures.tally refl in
    rw (c.agree.ensures.tally, c.agree-2.ensures.book, c.agree.ensures.book) ((places agrees).owns_made, room_made agrees (rw c.deref_mut.ensures.value at c.in-Ok.ensures.rooms).1)

pub move_total-requires-clause-least : goal.move_total-requires-clause-least
move_total-requires-clause-least g c =
    let agrees = agreed c.self.view_is c.session.view_is c.requires.session.at c.self.invariant.0 c.stand.ensures c.self.invariant.2.booked c.session.invariant c.agree.ensures.owned c.agree.ensures.tally refl in
    let asked = asked_with c.allowance.inside.tally c.args.request c.self.view_is c.allowance.view_is c.self.invariant.0 c.stand.ensures c.self.invariant.2.booked c.requires.allowance c.requires.asked c.allowance.invariant c.agree-2.ensures.least c.agree.ensures.book in
    let conit = c.allowance.inside.conit in
    let still = counted-conit c.session.inside.conits c.session.inside.client conit c.self.inside.counts.book (omega (arith, asked.here, width agrees)) in
    let book = ap (λ (k : CountsView). get_or k.book conit 0) c.count.ensures.book
    ∙ ap (λ (k : CountsView). get_or (one_more_at (made_place c.session.inside.conits c.session.inside.client) (one_more_at (turns_place c.session.inside.conits c.session.inside.client) k.book)) conit 0) (c.agree-2.ensures.book ∙ c.agree.ensures.book) in
    omega (arith, asked.mine, still, book)

pub move_total-requires-clause-enough : goal.move_total-requires-clause-enough
move_total-requires-clause-enough g c =
    let asked = asked_with c.allowance.inside.tally c.args.request c.self.view_is c.allowance.view_is c.self.invariant.0 c.stand.ensures c.self.invariant.2.booked c.requires.allowance c.requires.asked c.allowance.invariant c.agree-2.ensures.least c.agree.ensures.book in
    let used = used-most _ _ _ c.args.request c.in-Ok.reply asked.may in
    let moved = reserved-entered _ c.call-answer.new.self _ _ (rw c.deref_mut.ensures.value at c.in-Ok.ensures.entered) c.in-Ok.ensures.kept c.allowance.inside.conit in
    omega (arith, used, moved, c.reserved-before.ensures.reserved, c.reserved-after.ensures.reserved)

pub overflow_add-session : goal.overflow_add-session
overflow_add-session g c =
    let agrees = agreed c.self.view_is c.session.view_is c.requires.session.at c.self.invariant.0 c.stand.ensures c.self.invariant.2.booked c.session.invariant c.agree.ensures.owned c.agree.ensures.tally refl in
    omega (arith, in_turns agrees, room_turns agrees (rw c.deref_mut.ensures.value at c.in-Ok.ensures.rooms).0)

pub overflow_add-session-in-Ok : goal.overflow_add-session-in-Ok
overflow_add-session-in-Ok g c =
    let agrees = agreed c.self.view_is c.session.view_is c.requires.session.at c.self.invariant.0 c.stand.ensures c.self.invariant.2.booked c.session.invariant c.agree.ensures.owned c.agree.ensures.tally refl in
    omega (arith, in_made agrees, room_made agrees (rw c.deref_mut.ensures.value at c.in-Ok.ensures.rooms).1)

pub invariant_of-self : goal.invariant_of-self
invariant_of-self g c =
    let agrees = agreed c.self.view_is c.session.view_is c.requires.session.at c.self.invariant.0 c.stand.ensures c.self.invariant.2.booked c.session.invariant c.agree.ensures.owned c.agree.ensures.tally refl in
    let asked = asked_with c.allowance.inside.tally c.args.request c.self.view_is c.allowance.view_is c.self.invariant.0 c.stand.ensures c.self.invariant.2.booked c.requires.allowance c.requires.asked c.allowance.invariant c.agree-2.ensures.least c.agree.ensures.book in
    let told = c.in-Ok.ensures in
    let conit = c.allowance.inside.conit in
    let first = c.reserved-before.result in
    let last = c.reserved-after.result in
    let book = c.self.inside.counts.book in
    let inside : conit < c.session.inside.conits = omega (arith, asked.here, width agrees) in
    let used = used-most _ _ _ c.args.request c.in-Ok.reply asked.may in
    let moved = reserved-entered _ c.call-answer.new.self _ _ (rw c.deref_mut.ensures.value at told.entered) told.kept conit in
    let counted = one_more_at (made_place c.session.inside.conits c.session.inside.client) (one_more_at (turns_place c.session.inside.conits c.session.inside.client) book) in
    with_tells
    (after_call agrees c.self.invariant.2 (rw c.deref_mut.ensures.value at told.label) told.counts told.journaled conit first last told.going.1 inside (sym c.reserved-before.ensures.total)
    (omega (arith, used, moved, asked.mine, c.reserved-before.ensures.reserved, c.reserved-after.ensures.reserved))
    ((rw c.deref_mut.ensures.value at told.totals)
    ∙ ap (set (one_more_at (made_place c.self.inside.locked.value.core.setup.conits c.session.inside.client) (one_more_at (turns_place c.self.inside.locked.value.core.setup.conits c.session.inside.client) c.self.inside.locked.value.totals)) conit)
    (sym c.reserved-after.ensures.reserved))
    (c.move_total.ensures.book
    ∙ ap (λ (k : CountsView). let later : CountsView = record k { book = set k.book conit (get_or k.book conit 0 + last - first) } in later)
    (c.count.ensures.book ∙ ap (λ (k : CountsView). let later : CountsView = record k { book = one_more_at (made_place c.session.inside.conits c.session.inside.client) (one_more_at (turns_place c.session.inside.conits c.session.inside.client) k.book) } in later)
    (c.agree-2.ensures.book ∙ c.agree.ensures.book))
    ∙ ap (λ n. let later : CountsView = record c.self.inside.counts { book = set counted conit (n + last - first) } in later) (counted-conit c.session.inside.conits c.session.inside.client conit book inside)))
    (told.counts.0 ∙ c.self.invariant.3)

pub invariant_of-session : goal.invariant_of-session
invariant_of-session g c =
    let before : SessionView = the_view c.session.inside in
    let agrees = agreed c.self.view_is c.session.view_is c.requires.session.at c.self.invariant.0 c.stand.ensures c.self.invariant.2.booked c.session.invariant c.agree.ensures.owned c.agree.ensures.tally refl in
    let knows = tells agrees in
    let told = c.in-Ok.ensures in
    let certain = subst (λ (s : SessionView). s.doubt ≡ false) (sym c.session.view_is) c.requires.session.certain in
    let pushed = calls-entered _ c.call-answer.new.self _ _ _ _ _ _ (rw c.deref_mut.ensures.value at told.entered) in
    KeepsSession-counted before c.session.inside.tally c.agree.new.tally c.count.new.tally _ _ _ _ _ c.session.invariant certain c.agree.ensures.tally c.count.ensures.tally c.count.ensures.turns c.count.ensures.made
    (calls-seen c.call-answer.new.self _ _ _ told.kept told.note.1 (knows.replica ∙ sym (rw c.deref_mut.ensures.value at told.label.1)) ∙ pushed ∙ ap (λ n. n + 1) (sym (knows.calls certain)))

pub invariant_of-session-in-Err : goal.invariant_of-session-in-Err
invariant_of-session-in-Err g c =
    let agrees = agreed c.self.view_is c.session.view_is c.requires.session.at c.self.invariant.0 c.stand.ensures c.self.invariant.2.booked c.session.invariant c.agree.ensures.owned c.agree.ensures.tally refl in
    let told = c.in-Err.ensures in
    keeps_left c.call-answer.new.note agrees told.kept (rw c.deref_mut.ensures.value at told.err.0) (rw c.deref_mut.ensures.value at told.err.1) told.note told.learnt.1 c.node.view_is told.run c.agree.ensures.tally

pub invariant_of-self-in-Err : goal.invariant_of-self-in-Err
invariant_of-self-in-Err g c =
    let agrees = agreed c.self.view_is c.session.view_is c.requires.session.at c.self.invariant.0 c.stand.ensures c.self.invariant.2.booked c.session.invariant c.agree.ensures.owned c.agree.ensures.tally refl in
    let asked = asked_with c.allowance.inside.tally c.args.request c.self.view_is c.allowance.view_is c.self.invariant.0 c.stand.ensures c.self.invariant.2.booked c.requires.allowance c.requires.asked c.allowance.invariant c.agree-2.ensures.least c.agree.ensures.book in
    let told = c.in-Err.ensures in
    let conit = c.allowance.inside.conit in
    let lost = c.given_up-lost.result in
    let lost_in = lost-within _ _ _ c.args.request asked.may in
    with_tells
    (after_failed agrees c.self.invariant.2 (rw c.deref_mut.ensures.value at told.label) told.counts told.journaled c.self.inside.locked.value c.args.moment conit lost c.args.request c.in-Err.fault
    (subst (λ (s : SessionView). s.doubt ≡ false) (sym c.session.view_is) c.requires.session.certain) (omega (arith, asked.here, width agrees))
    (subst (λ (a : AllowanceView). conit_of c.args.request ≡ a.conit) (sym c.allowance.view_is) c.requires.on) c.given_up-lost.ensures
    (rw c.given_up-lost.ensures (omega (arith, lost_in, asked.mine)))
    (rw c.deref_mut.ensures.value at told.err.2) c.self.invariant.1.counted (rw c.deref_mut.ensures.value at told.fault)
    (subst (λ (v : LockedView). IsInDoubtAfter c.call-answer.new.journal (call_in v c.args.moment c.session.inside.client c.args.request) c.in-Err.fault) c.deref_mut.ensures.value told.doubt)
    (c.fail.ensures.counts
    ∙ ap (λ (k : CountsView). let later : CountsView = record k { book = failed_book c.session.inside.conits c.session.inside.client conit lost c.in-Err.fault k.book; owes = failed_owes c.session.inside.client conit lost c.in-Err.fault k.owes } in later)
    (c.agree-2.ensures.book ∙ c.agree.ensures.book)))
    (told.counts.0 ∙ c.self.invariant.3)

pub returns-in-Ok-clause-held : goal.returns-in-Ok-clause-held
returns-in-Ok-clause-held g c =
    let asked = asked_with c.allowance.inside.tally c.args.request c.self.view_is c.allowance.view_is c.self.invariant.0 c.stand.ensures c.self.invariant.2.booked c.requires.allowance c.requires.asked c.allowance.invariant c.agree-2.ensures.least c.agree.ensures.book in
    rw (← c.self.view_is, ← c.allowance.view_is) asked.held

pub returns-in-Ok-clause-moved : goal.returns-in-Ok-clause-moved
returns-in-Ok-clause-moved g c =
    let asked = asked_with c.allowance.inside.tally c.args.request c.self.view_is c.allowance.view_is c.self.invariant.0 c.stand.ensures c.self.invariant.2.booked c.requires.allowance c.requires.asked c.allowance.invariant c.agree-2.ensures.least c.agree.ensures.book in
    let used = used-most _ _ _ c.args.request c.in-Ok.reply asked.may in
    let moved = reserved-entered _ c.call-answer.new.self _ _ (rw c.deref_mut.ensures.value at c.in-Ok.ensures.entered) c.in-Ok.ensures.kept c.allowance.inside.conit in
    let conit = c.allowance.inside.conit in
    let amounts : c.allowance.inside.amount + c.reserved-after.result - c.reserved-before.result
    ≡ c.allowance.inside.amount + granted_on conit c.args.request c.in-Ok.reply - used_on conit c.args.request c.in-Ok.reply =
    omega (arith, used, moved, c.reserved-before.ensures.reserved, c.reserved-after.ensures.reserved) in
    rw (← c.allowance.view_is)
    (c.move_total.ensures.allowance ∙ allowance_as c.allowance.inside.replica conit _ _ _ _ (ap (λ (t : TallyView). t.id) c.agree-2.ensures.tally) amounts)

pub returns-in-Ok-clause-answered : goal.returns-in-Ok-clause-answered
returns-in-Ok-clause-answered g c =
    let agrees = agreed c.self.view_is c.session.view_is c.requires.session.at c.self.invariant.0 c.stand.ensures c.self.invariant.2.booked c.session.invariant c.agree.ensures.owned c.agree.ensures.tally refl in
    let knows = tells agrees in
    let told = c.in-Ok.ensures in
    let certain = subst (λ (s : SessionView). s.doubt ≡ false) (sym c.session.view_is) c.requires.session.certain in
    let before : SessionView = the_view c.session.inside in
    let value = session_as before (before.calls + 1) (before.made + 1) before.faults before.halts before.doubt _ _ _ _ _ _
    (ap (λ (t : TallyView). t.id) (c.count.ensures.tally ∙ ap (λ (t : TallyView). record t { amounts = one_more_at (made_place before.conits before.client) (one_more_at (turns_place before.conits before.client) t.amounts) }) c.agree.ensures.tally)) told.note.0 told.note.1 in
    let entered = rw c.deref_mut.ensures.value at told.entered in
    let conit = c.allowance.inside.conit in
    let client = c.session.inside.client in
    let asked = asked_with c.allowance.inside.tally c.args.request c.self.view_is c.allowance.view_is c.self.invariant.0 c.stand.ensures c.self.invariant.2.booked c.requires.allowance c.requires.asked c.allowance.invariant c.agree-2.ensures.least c.agree.ensures.book in
    let inside : conit < c.session.inside.conits = omega (arith, asked.here, width agrees) in
    let first = c.reserved-before.result in
    let last = c.reserved-after.result in
    let counted = one_more_at (made_place c.session.inside.conits client) (one_more_at (turns_place c.session.inside.conits client) c.self.inside.counts.book) in
    let moved : c.move_total.new.counts ≡ record c.self.inside.counts { book = set counted conit (get_or c.self.inside.counts.book conit 0 + last - first) } =
    c.move_total.ensures.book
    ∙ ap (λ (k : CountsView). let later : CountsView = record k { book = set k.book conit (get_or k.book conit 0 + last - first) } in later)
    (c.count.ensures.book ∙ ap (λ (k : CountsView). let later : CountsView = record k { book = one_more_at (made_place c.session.inside.conits client) (one_more_at (turns_place c.session.inside.conits client) k.book) } in later)
    (c.agree-2.ensures.book ∙ c.agree.ensures.book))
    ∙ ap (λ n. let later : CountsView = record c.self.inside.counts { book = set counted conit (n + last - first) } in later) (counted-conit c.session.inside.conits client conit c.self.inside.counts.book inside) in
    rw (← c.self.view_is, ← c.session.view_is, ← c.allowance.view_is) (record {
      entered = entered;
      due = entered-due _ c.call-answer.new.self _ c.args.moment client _ c.args.request c.in-Ok.reply entered;
      totals = (rw c.deref_mut.ensures.value at told.totals)
          ∙ ap (λ n. set (one_more_at (made_place n client) (one_more_at (turns_place n client) c.self.inside.locked.value.totals))
          conit (reserved (part_in c.call-answer.new.self) conit)) (sym (width agrees));
      book = ap (λ (k : CountsView). k.book) moved
          ∙ ap (λ n. set counted conit (get_or c.self.inside.counts.book conit 0 + n - first)) c.reserved-after.ensures.reserved
          ∙ ap (λ n. set counted conit (get_or c.self.inside.counts.book conit 0 + reserved (part_in c.call-answer.new.self) conit - n)) c.reserved-before.ensures.reserved;
      owes = ap (λ (k : CountsView). k.owes) moved;
      called = HasCalled-entered _ c.self.invariant.0.keeps.sound _ c.call-answer.new.self _ _ _ _ _ knows.setup knows.replica (knows.calls certain) (knows.known certain) entered value;
    })

pub returns-in-Err-clause-refused : goal.returns-in-Err-clause-refused
returns-in-Err-clause-refused g c =
    let told = c.in-Err.ensures in
    let of = leaves g c in
    let fault = rw c.deref_mut.ensures.value at told.fault in
    let conit = c.allowance.inside.conit in
    let client = c.session.inside.client in
    let conits = c.session.inside.conits in
    let failed : c.fail.new.counts ≡ record c.self.inside.counts {
      book = failed_book conits client conit c.given_up-lost.result c.in-Err.fault c.self.inside.counts.book;
      owes = failed_owes client conit c.given_up-lost.result c.in-Err.fault c.self.inside.counts.owes;
    } =
    c.fail.ensures.counts
    ∙ ap (λ (k : CountsView). let later : CountsView = record k { book = failed_book conits client conit c.given_up-lost.result c.in-Err.fault k.book; owes = failed_owes client conit c.given_up-lost.result c.in-Err.fault k.owes } in later)
    (c.agree-2.ensures.book ∙ c.agree.ensures.book) in
    rw (c.fail.ensures.session, ← c.self.view_is, ← c.session.view_is, ← c.allowance.view_is) (record {
      core = rw c.deref_mut.ensures.value at told.err.0;
      stored = rw c.deref_mut.ensures.value at told.err.1;
      totals = rw c.deref_mut.ensures.value at told.err.2;
      book = ap (λ (k : CountsView). k.book) failed ∙ ap (λ lost. failed_book conits client conit lost c.in-Err.fault c.self.inside.counts.book) c.given_up-lost.ensures;
      owes = ap (λ (k : CountsView). k.owes) failed ∙ ap (λ lost. failed_owes client conit lost c.in-Err.fault c.self.inside.counts.owes) c.given_up-lost.ensures;
      heard = heard_marked _ _ _ _ (marking_failed c.in-Err.fault) of.heard;
      fault = fault;
      doubt = subst (λ (v : LockedView). IsInDoubtAfter c.call-answer.new.journal (call_in v c.args.moment client c.args.request) c.in-Err.fault) c.deref_mut.ensures.value told.doubt;
      fault_seen = seen_failed c.in-Err.fault _ (of.fault c.self.inside.journal c.call-answer.new.journal c.in-Err.fault fault);
    })
