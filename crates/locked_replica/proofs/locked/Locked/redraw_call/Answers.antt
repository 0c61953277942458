use Rattle.std.proofs.Common.{◌<◌, ◌∷◌, ◌++◌, [], replicate, set, sym, ap, ◌∙◌, subst}
use Rattle.tact_base.specs.Setup.{Setup, IsSetup}
use Rattle.replica_core.specs.Stands.{IsSameReplica, Stands}
use Rattle.run_model.specs.Missing.{reserved}
use Rattle.split_budget.specs.Budgets.{reserved_on}
use Rattle.locked_replica.specs.Locks.{LockedView, made_place, one_more_at, part_in, turns_place}
use Rattle.locked_replica.proofs.Entering.{HasEntered-drawn, IsLocked-call, drawn-grows, part-after}
use Rattle.locked_replica.proofs.Redrawing.{call-of, given-call, given-due, given-replica, given-room, sent-call}
use Rattle.locked_replica.proofs.locked.Locked.redraw_call.Goals as goal

pub draw-requires-clause-replica : goal.draw-requires-clause-replica
draw-requires-clause-replica c =
    let before : LockedView = Rattle.locked_replica.specs.declared.locked.Locked.TheView.view c.self.inside in
    let same = subst (λ (v : LockedView). IsSameReplica v.core c.args.replica.core) (sym c.self.view_is) c.requires.same in
    let stands = subst (λ (v : LockedView). Stands (part_in v ++ c.args.entry ∷ []) c.args.replica.core) (sym c.self.view_is) c.requires.stands in
    given-replica before c.args.replica.core c.args.entry c.self.invariant.0 same stands ∙ sym c.self.invariant.0.replica

pub draw-requires-clause-due : goal.draw-requires-clause-due
draw-requires-clause-due c =
    let before : LockedView = Rattle.locked_replica.specs.declared.locked.Locked.TheView.view c.self.inside in
    let same = subst (λ (v : LockedView). IsSameReplica v.core c.args.replica.core) (sym c.self.view_is) c.requires.same in
    let stands = subst (λ (v : LockedView). Stands (part_in v ++ c.args.entry ∷ []) c.args.replica.core) (sym c.self.view_is) c.requires.stands in
    given-due before c.args.replica.core c.args.entry c.self.invariant.0 same stands _ (ap (λ (v : LockedView). v.core.setup) c.self.view_is ∙ c.requires.desk.1)

pub draw-requires-clause-sent : goal.draw-requires-clause-sent
draw-requires-clause-sent c = sent-call c.args.client c.args.conit _ c.args.entry.act c.requires.call

pub count_call-requires-clause-client : goal.count_call-requires-clause-client
count_call-requires-clause-client c =
    let before : LockedView = Rattle.locked_replica.specs.declared.locked.Locked.TheView.view c.self.inside in
    let same = subst (λ (v : LockedView). IsSameReplica v.core c.args.replica.core) (sym c.self.view_is) c.requires.same in
    let stands = subst (λ (v : LockedView). Stands (part_in v ++ c.args.entry ∷ []) c.args.replica.core) (sym c.self.view_is) c.requires.stands in
    let is = given-call before c.args.replica.core c.args.entry c.self.invariant.0 same stands c.args.client c.args.conit (subst IsSetup (sym (ap (λ (v : LockedView). v.core.setup) c.self.view_is ∙ c.requires.desk.1)) c.requires.sound) c.requires.call in
    is.0

pub count_call-requires-clause-turns : goal.count_call-requires-clause-turns
count_call-requires-clause-turns c =
    let before : LockedView = Rattle.locked_replica.specs.declared.locked.Locked.TheView.view c.self.inside in
    let same = subst (λ (v : LockedView). IsSameReplica v.core c.args.replica.core) (sym c.self.view_is) c.requires.same in
    let stands = subst (λ (v : LockedView). Stands (part_in v ++ c.args.entry ∷ []) c.args.replica.core) (sym c.self.view_is) c.requires.stands in
    let is = given-call before c.args.replica.core c.args.entry c.self.invariant.0 same stands c.args.client c.args.conit (subst IsSetup (sym (ap (λ (v : LockedView). v.core.setup) c.self.view_is ∙ c.requires.desk.1)) c.requires.sound) c.requires.call in
    rw c.self.invariant.1 (given-room before c.args.replica.core c.args.entry c.self.invariant.0 same stands c.args.client is.0).0

pub count_call-requires-clause-made : goal.count_call-requires-clause-made
count_call-requires-clause-made c =
    let before : LockedView = Rattle.locked_replica.specs.declared.locked.Locked.TheView.view c.self.inside in
    let same = subst (λ (v : LockedView). IsSameReplica v.core c.args.replica.core) (sym c.self.view_is) c.requires.same in
    let stands = subst (λ (v : LockedView). Stands (part_in v ++ c.args.entry ∷ []) c.args.replica.core) (sym c.self.view_is) c.requires.stands in
    let is = given-call before c.args.replica.core c.args.entry c.self.invariant.0 same stands c.args.client c.args.conit (subst IsSetup (sym (ap (λ (v : LockedView). v.core.setup) c.self.view_is ∙ c.requires.desk.1)) c.requires.sound) c.requires.call in
    rw c.self.invariant.1 (given-room before c.args.replica.core c.args.entry c.self.invariant.0 same stands c.args.client is.0).1

pub set_reserved-requires-clause-conit : goal.set_reserved-requires-clause-conit
set_reserved-requires-clause-conit c =
    let before : LockedView = Rattle.locked_replica.specs.declared.locked.Locked.TheView.view c.self.inside in
    let same = subst (λ (v : LockedView). IsSameReplica v.core c.args.replica.core) (sym c.self.view_is) c.requires.same in
    let stands = subst (λ (v : LockedView). Stands (part_in v ++ c.args.entry ∷ []) c.args.replica.core) (sym c.self.view_is) c.requires.stands in
    let is = given-call before c.args.replica.core c.args.entry c.self.invariant.0 same stands c.args.client c.args.conit (subst IsSetup (sym (ap (λ (v : LockedView). v.core.setup) c.self.view_is ∙ c.requires.desk.1)) c.requires.sound) c.requires.call in
    rw same.0 is.1

pub invariant_of-self : goal.invariant_of-self
invariant_of-self c =
    let before : LockedView = Rattle.locked_replica.specs.declared.locked.Locked.TheView.view c.self.inside in
    let same = subst (λ (v : LockedView). IsSameReplica v.core c.args.replica.core) (sym c.self.view_is) c.requires.same in
    let stands = subst (λ (v : LockedView). Stands (part_in v ++ c.args.entry ∷ []) c.args.replica.core) (sym c.self.view_is) c.requires.stands in
    let is = given-call before c.args.replica.core c.args.entry c.self.invariant.0 same stands c.args.client c.args.conit (subst IsSetup (sym (ap (λ (v : LockedView). v.core.setup) c.self.view_is ∙ c.requires.desk.1)) c.requires.sound) c.requires.call in
    let totals = c.set_reserved.ensures ∙ ap (λ t. set t c.args.conit (reserved_on c.args.replica.core.budgets c.args.conit))
    (c.count_call.ensures ∙ ap (λ n. one_more_at (made_place n c.args.client) (one_more_at (turns_place n c.args.client) c.self.inside.totals.items)) c.self.invariant.1) in (
      IsLocked-call _ _ _ c.args.client _ c.self.invariant.0 is.0 same c.draw.ensures.drawn c.draw.ensures.stored c.args.conit
          (call-of c.args.client c.args.conit c.args.entry.act c.requires.call) is.1 stands totals,
      c.self.invariant.1 ∙ sym (ap (λ (s : Setup). s.conits) same.0),
      c.self.invariant.2 ∙ sym (ap (λ (s : Setup). replicate s.replicas 0) same.0),
      c.self.invariant.3 ∙ sym same.0,
    )

pub returns-clause-kept : goal.returns-clause-kept
returns-clause-kept c =
    let before : LockedView = Rattle.locked_replica.specs.declared.locked.Locked.TheView.view c.self.inside in
    let same = subst (λ (v : LockedView). IsSameReplica v.core c.args.replica.core) (sym c.self.view_is) c.requires.same in
    let stands = subst (λ (v : LockedView). Stands (part_in v ++ c.args.entry ∷ []) c.args.replica.core) (sym c.self.view_is) c.requires.stands in
    let is = given-call before c.args.replica.core c.args.entry c.self.invariant.0 same stands c.args.client c.args.conit (subst IsSetup (sym (ap (λ (v : LockedView). v.core.setup) c.self.view_is ∙ c.requires.desk.1)) c.requires.sound) c.requires.call in
    let totals = c.set_reserved.ensures ∙ ap (λ t. set t c.args.conit (reserved_on c.args.replica.core.budgets c.args.conit))
    (c.count_call.ensures ∙ ap (λ n. one_more_at (made_place n c.args.client) (one_more_at (turns_place n c.args.client) c.self.inside.totals.items)) c.self.invariant.1) in
    IsLocked-call _ _ _ c.args.client _ c.self.invariant.0 is.0 same c.draw.ensures.drawn c.draw.ensures.stored c.args.conit
    (call-of c.args.client c.args.conit c.args.entry.act c.requires.call) is.1 stands totals

pub returns-clause-totals : goal.returns-clause-totals
returns-clause-totals c =
    let before : LockedView = Rattle.locked_replica.specs.declared.locked.Locked.TheView.view c.self.inside in
    let same = subst (λ (v : LockedView). IsSameReplica v.core c.args.replica.core) (sym c.self.view_is) c.requires.same in
    let stands = subst (λ (v : LockedView). Stands (part_in v ++ c.args.entry ∷ []) c.args.replica.core) (sym c.self.view_is) c.requires.stands in
    let is = given-call before c.args.replica.core c.args.entry c.self.invariant.0 same stands c.args.client c.args.conit (subst IsSetup (sym (ap (λ (v : LockedView). v.core.setup) c.self.view_is ∙ c.requires.desk.1)) c.requires.sound) c.requires.call in
    let after : LockedView = record {
      core = c.args.replica.core;
      clerk = c.draw.new.clerk;
      stored = c.draw.new.stored.items;
      totals = c.set_reserved.new.totals.items;
      spare = c.args.replica.spare;
      beside = c.args.replica.beside;
      room = c.draw.new.stored.room;
    } in
    let totals = c.set_reserved.ensures ∙ ap (λ t. set t c.args.conit (reserved_on c.args.replica.core.budgets c.args.conit))
    (c.count_call.ensures ∙ ap (λ n. one_more_at (made_place n c.args.client) (one_more_at (turns_place n c.args.client) c.self.inside.totals.items)) c.self.invariant.1) in
    let here = subst (λ (s : Setup). c.args.conit < s.conits) (sym same.0) is.1 in
    let part = part-after before after _ c.args.client _ c.self.invariant.0 is.0 same c.draw.ensures.drawn c.draw.ensures.stored in
    let number = stands.budgets.reserved c.args.conit here ∙ sym (ap (λ p. reserved p c.args.conit) part) in
    rw (← c.self.view_is) (totals
    ∙ ap (set (one_more_at (made_place before.core.setup.conits c.args.client) (one_more_at (turns_place before.core.setup.conits c.args.client) before.totals)) c.args.conit) number)

pub returns-clause-entered : goal.returns-clause-entered
returns-clause-entered c =
    let before : LockedView = Rattle.locked_replica.specs.declared.locked.Locked.TheView.view c.self.inside in
    let same = subst (λ (v : LockedView). IsSameReplica v.core c.args.replica.core) (sym c.self.view_is) c.requires.same in
    let stands = subst (λ (v : LockedView). Stands (part_in v ++ c.args.entry ∷ []) c.args.replica.core) (sym c.self.view_is) c.requires.stands in
    let is = given-call before c.args.replica.core c.args.entry c.self.invariant.0 same stands c.args.client c.args.conit (subst IsSetup (sym (ap (λ (v : LockedView). v.core.setup) c.self.view_is ∙ c.requires.desk.1)) c.requires.sound) c.requires.call in
    let after : LockedView = record {
      core = c.args.replica.core;
      clerk = c.draw.new.clerk;
      stored = c.draw.new.stored.items;
      totals = c.set_reserved.new.totals.items;
      spare = c.args.replica.spare;
      beside = c.args.replica.beside;
      room = c.draw.new.stored.room;
    } in
    let entered = HasEntered-drawn before after _ c.args.client _ c.self.invariant.0 is.0 same c.draw.ensures.drawn c.draw.ensures.stored
    (given-replica before c.args.replica.core c.args.entry c.self.invariant.0 same stands) (sym (ap (λ (v : LockedView). v.core.setup) c.self.view_is ∙ c.requires.desk.1)) in
    rw (← c.self.view_is) entered

pub returns-clause-grows : goal.returns-clause-grows
returns-clause-grows c = rw (← c.self.view_is) (drawn-grows _ _ _ _ c.draw.ensures.drawn)
