use Rattle.std.proofs.Common.{◌<◌, replicate, set, refl, sym, ap, ◌∙◌, subst}
use Rattle.split_budget.specs.Budgets.{reserved_on}
use Rattle.tact_base.specs.Setup.{Setup}
use Rattle.run_model.specs.Missing.{reserved}
use Rattle.locked_replica.specs.Locks.{HasEntered, LockedView, made_place, turns_place, one_more_at}
use Rattle.locked_replica.proofs.Entering.{goes_on-due, has_room, call-on, spelled, stands-spelled, IsLocked-call, HasEntered-drawn, drawn-grows, part-after}
use Rattle.locked_replica.proofs.locked.Locked.enter_call.Goals as goal

pub draw-requires-clause-due : goal.draw-requires-clause-due
draw-requires-clause-due c =
    let stands = stands-spelled _ _ c.self.view_is c.args.moment c.args.client c.args.request c.answer-reply.result _ _ _ c.replica_number-replica.ensures
    c.moment_after-at.ensures c.calls_of-number.ensures c.answer-reply.new.replica.core c.self.invariant.0 c.answer-reply.ensures.goes_on in
    (goes_on-due _ _ _ c.answer-reply.new.replica.core (sym c.requires.desk.1 ∙ ap (λ (v : LockedView). v.core.setup) (sym c.self.view_is) ∙ sym c.answer-reply.ensures.same.0) stands)

pub count_call-requires-clause-turns : goal.count_call-requires-clause-turns
count_call-requires-clause-turns c =
    let stands = stands-spelled _ _ c.self.view_is c.args.moment c.args.client c.args.request c.answer-reply.result _ _ _ c.replica_number-replica.ensures
    c.moment_after-at.ensures c.calls_of-number.ensures c.answer-reply.new.replica.core c.self.invariant.0 c.answer-reply.ensures.goes_on in
    let due = goes_on-due c.answer-reply.new.replica.core.setup _ _ c.answer-reply.new.replica.core refl stands in
    rw c.self.invariant.1 (has_room _ c.args.client c.self.invariant.0 c.requires.client due.room).0

pub count_call-requires-clause-made : goal.count_call-requires-clause-made
count_call-requires-clause-made c =
    let stands = stands-spelled _ _ c.self.view_is c.args.moment c.args.client c.args.request c.answer-reply.result _ _ _ c.replica_number-replica.ensures
    c.moment_after-at.ensures c.calls_of-number.ensures c.answer-reply.new.replica.core c.self.invariant.0 c.answer-reply.ensures.goes_on in
    let due = goes_on-due c.answer-reply.new.replica.core.setup _ _ c.answer-reply.new.replica.core refl stands in
    rw c.self.invariant.1 (has_room _ c.args.client c.self.invariant.0 c.requires.client due.room).1

pub invariant_of-self : goal.invariant_of-self
invariant_of-self c =
    let stands = stands-spelled _ _ c.self.view_is c.args.moment c.args.client c.args.request c.answer-reply.result _ _ _ c.replica_number-replica.ensures
    c.moment_after-at.ensures c.calls_of-number.ensures c.answer-reply.new.replica.core c.self.invariant.0 c.answer-reply.ensures.goes_on in
    let totals = c.set_reserved.ensures ∙ ap (λ t. set t c.args.conit (reserved_on c.answer-reply.new.replica.core.budgets c.args.conit))
    (c.count_call.ensures ∙ ap (λ n. one_more_at (made_place n c.args.client) (one_more_at (turns_place n c.args.client) c.self.inside.totals.items)) c.self.invariant.1) in (
      IsLocked-call _ _ _ c.args.client _ c.self.invariant.0 c.requires.client c.answer-reply.ensures.same c.draw.ensures.drawn c.draw.ensures.stored c.args.conit
          (call-on _ _ _ _ _ _ _ c.requires.asked) (subst (λ (v : LockedView). c.args.conit < v.core.setup.conits) (sym c.self.view_is) c.requires.conit) stands totals,
      c.self.invariant.1 ∙ sym (ap (λ (s : Setup). s.conits) c.answer-reply.ensures.same.0),
      c.self.invariant.2 ∙ sym (ap (λ (s : Setup). replicate s.replicas 0) c.answer-reply.ensures.same.0),
      c.self.invariant.3 ∙ sym c.answer-reply.ensures.same.0,
    )

pub returns-clause-kept : goal.returns-clause-kept
returns-clause-kept c =
    let stands = stands-spelled _ _ c.self.view_is c.args.moment c.args.client c.args.request c.answer-reply.result _ _ _ c.replica_number-replica.ensures
    c.moment_after-at.ensures c.calls_of-number.ensures c.answer-reply.new.replica.core c.self.invariant.0 c.answer-reply.ensures.goes_on in
    let totals = c.set_reserved.ensures ∙ ap (λ t. set t c.args.conit (reserved_on c.answer-reply.new.replica.core.budgets c.args.conit))
    (c.count_call.ensures ∙ ap (λ n. one_more_at (made_place n c.args.client) (one_more_at (turns_place n c.args.client) c.self.inside.totals.items)) c.self.invariant.1) in
    IsLocked-call _ _ _ c.args.client _ c.self.invariant.0 c.requires.client c.answer-reply.ensures.same c.draw.ensures.drawn c.draw.ensures.stored c.args.conit
    (call-on _ _ _ _ _ _ _ c.requires.asked) (subst (λ (v : LockedView). c.args.conit < v.core.setup.conits) (sym c.self.view_is) c.requires.conit) stands totals

pub returns-clause-totals : goal.returns-clause-totals
returns-clause-totals c =
    let before : LockedView = Rattle.locked_replica.specs.declared.locked.Locked.TheView.view c.self.inside in
    let after : LockedView = record {
      core = c.answer-reply.new.replica.core;
      clerk = c.draw.new.clerk;
      stored = c.draw.new.stored.items;
      totals = c.set_reserved.new.totals.items;
      spare = c.answer-reply.new.replica.spare;
      beside = c.answer-reply.new.replica.beside;
      room = c.draw.new.stored.room;
    } in
    let stands = stands-spelled _ _ c.self.view_is c.args.moment c.args.client c.args.request c.answer-reply.result _ _ _ c.replica_number-replica.ensures
    c.moment_after-at.ensures c.calls_of-number.ensures c.answer-reply.new.replica.core c.self.invariant.0 c.answer-reply.ensures.goes_on in
    let totals = c.set_reserved.ensures ∙ ap (λ t. set t c.args.conit (reserved_on c.answer-reply.new.replica.core.budgets c.args.conit))
    (c.count_call.ensures ∙ ap (λ n. one_more_at (made_place n c.args.client) (one_more_at (turns_place n c.args.client) c.self.inside.totals.items)) c.self.invariant.1) in
    let here : c.args.conit < after.core.setup.conits =
    subst (λ (s : Setup). c.args.conit < s.conits) (sym c.answer-reply.ensures.same.0) (subst (λ (v : LockedView). c.args.conit < v.core.setup.conits) (sym c.self.view_is) c.requires.conit) in
    let part = part-after before after _ c.args.client _ c.self.invariant.0 c.requires.client c.answer-reply.ensures.same c.draw.ensures.drawn c.draw.ensures.stored in
    let number = stands.budgets.reserved c.args.conit here ∙ sym (ap (λ p. reserved p c.args.conit) part) in
    rw (← c.self.view_is) (totals
    ∙ ap (set (one_more_at (made_place before.core.setup.conits c.args.client) (one_more_at (turns_place before.core.setup.conits c.args.client) before.totals)) c.args.conit) number)

pub returns-clause-entered : goal.returns-clause-entered
returns-clause-entered c =
    let is = sym c.self.view_is in
    let before = Rattle.locked_replica.specs.declared.locked.Locked.TheView.view c.self.inside in
    let same = spelled before _ c.self.view_is c.args.moment c.args.client c.args.request c.answer-reply.result
    _ _ _ c.replica_number-replica.ensures c.moment_after-at.ensures c.calls_of-number.ensures in
    let after : LockedView = record {
      core = c.answer-reply.new.replica.core;
      clerk = c.draw.new.clerk;
      stored = c.draw.new.stored.items;
      totals = c.set_reserved.new.totals.items;
      spare = c.answer-reply.new.replica.spare;
      beside = c.answer-reply.new.replica.beside;
      room = c.draw.new.stored.room;
    } in
    let entered = HasEntered-drawn before after _ c.args.client _ c.self.invariant.0 c.requires.client c.answer-reply.ensures.same c.draw.ensures.drawn c.draw.ensures.stored
    (c.replica_number-replica.ensures ∙ ap (λ (v : LockedView). v.core.replica) is) (sym c.requires.desk.1 ∙ ap (λ (v : LockedView). v.core.setup) is) in
    rw (← c.self.view_is, c.copied-given.ensures) (subst (λ e. HasEntered before after c.self.inside.clerk.seen e) (sym same) entered)

pub returns-clause-grows : goal.returns-clause-grows
returns-clause-grows c = rw (← c.self.view_is) (drawn-grows _ _ _ _ c.draw.ensures.drawn)

pub returns-clause-rooms : goal.returns-clause-rooms
returns-clause-rooms c =
    let stands = stands-spelled _ _ c.self.view_is c.args.moment c.args.client c.args.request c.answer-reply.result _ _ _ c.replica_number-replica.ensures
    c.moment_after-at.ensures c.calls_of-number.ensures c.answer-reply.new.replica.core c.self.invariant.0 c.answer-reply.ensures.goes_on in
    let due = goes_on-due c.answer-reply.new.replica.core.setup _ _ c.answer-reply.new.replica.core refl stands in
    rw (← c.self.view_is) (has_room _ c.args.client c.self.invariant.0 c.requires.client due.room)
