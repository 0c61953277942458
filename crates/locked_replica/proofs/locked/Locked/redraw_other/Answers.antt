use Rattle.std.proofs.Common.{◌∷◌, ◌++◌, [], replicate, sym, ap, ◌∙◌, subst, arith}
use Rattle.tact_base.specs.Setup.{Setup}
use Rattle.replica_core.specs.Stands.{IsSameReplica, Stands}
use Rattle.locked_replica.specs.Locks.{LockedView, made_place, one_more_at, part_in}
use Rattle.locked_replica.proofs.Entering.{HasEntered-drawn, drawn-grows}
use Rattle.locked_replica.proofs.Making.{IsLocked-made}
use Rattle.locked_replica.proofs.Redrawing.{given-due, given-replica, given-room, quiet-other}
use Rattle.locked_replica.proofs.locked.Locked.redraw_other.Goals as goal

pub draw-requires-clause-replica : goal.draw-requires-clause-replica
draw-requires-clause-replica c =
    let before : LockedView = Rattle.locked_replica.specs.declared.locked.Locked.TheView.view c.self.inside in
    let same = subst (λ (v : LockedView). IsSameReplica v.core c.args.replica.core) (sym c.self.view_is) c.requires.same in
    let stands = subst (λ (v : LockedView). Stands (part_in v ++ c.args.entry ∷ []) c.args.replica.core) (sym c.self.view_is) c.requires.stands in
    given-replica before c.args.replica.core c.args.entry c.self.invariant.0 same stands ∙ sym c.self.invariant.0.replica

pub draw-requires-clause-due : goal.draw-requires-clause-due
draw-requires-clause-due c =
    let before : LockedView = Rattle.locked_replica.specs.declared.locked.Locked.TheView.view c.self.inside in
    let same = subst (λ (v : LockedView). IsSameReplica v.core c.args.replica.core) (sym c.self.view_is) c.requires.same in
    let stands = subst (λ (v : LockedView). Stands (part_in v ++ c.args.entry ∷ []) c.args.replica.core) (sym c.self.view_is) c.requires.stands in
    given-due before c.args.replica.core c.args.entry c.self.invariant.0 same stands _ (ap (λ (v : LockedView). v.core.setup) c.self.view_is ∙ c.requires.desk.1)

pub count_entry-requires-clause-made : goal.count_entry-requires-clause-made
count_entry-requires-clause-made c =
    let before : LockedView = Rattle.locked_replica.specs.declared.locked.Locked.TheView.view c.self.inside in
    let same = subst (λ (v : LockedView). IsSameReplica v.core c.args.replica.core) (sym c.self.view_is) c.requires.same in
    let stands = subst (λ (v : LockedView). Stands (part_in v ++ c.args.entry ∷ []) c.args.replica.core) (sym c.self.view_is) c.requires.stands in
    rw c.self.invariant.1 (given-room before c.args.replica.core c.args.entry c.self.invariant.0 same stands 0 (omega arith)).1

pub invariant_of-self : goal.invariant_of-self
invariant_of-self c =
    let before : LockedView = Rattle.locked_replica.specs.declared.locked.Locked.TheView.view c.self.inside in
    let same = subst (λ (v : LockedView). IsSameReplica v.core c.args.replica.core) (sym c.self.view_is) c.requires.same in
    let stands = subst (λ (v : LockedView). Stands (part_in v ++ c.args.entry ∷ []) c.args.replica.core) (sym c.self.view_is) c.requires.stands in
    let totals = c.count_entry.ensures ∙ ap (λ n. one_more_at (made_place n 0) c.self.inside.totals.items) c.self.invariant.1 in (
      IsLocked-made _ _ _ 0 _ c.self.invariant.0 (omega arith) same c.draw.ensures.drawn c.draw.ensures.stored (quiet-other c.args.entry.act c.requires.other) stands totals,
      c.self.invariant.1 ∙ sym (ap (λ (s : Setup). s.conits) same.0),
      c.self.invariant.2 ∙ sym (ap (λ (s : Setup). replicate s.replicas 0) same.0),
      c.self.invariant.3 ∙ sym same.0,
    )

pub returns-clause-kept : goal.returns-clause-kept
returns-clause-kept c =
    let before : LockedView = Rattle.locked_replica.specs.declared.locked.Locked.TheView.view c.self.inside in
    let same = subst (λ (v : LockedView). IsSameReplica v.core c.args.replica.core) (sym c.self.view_is) c.requires.same in
    let stands = subst (λ (v : LockedView). Stands (part_in v ++ c.args.entry ∷ []) c.args.replica.core) (sym c.self.view_is) c.requires.stands in
    let totals = c.count_entry.ensures ∙ ap (λ n. one_more_at (made_place n 0) c.self.inside.totals.items) c.self.invariant.1 in
    IsLocked-made _ _ _ 0 _ c.self.invariant.0 (omega arith) same c.draw.ensures.drawn c.draw.ensures.stored (quiet-other c.args.entry.act c.requires.other) stands totals

pub returns-clause-entered : goal.returns-clause-entered
returns-clause-entered c =
    let before : LockedView = Rattle.locked_replica.specs.declared.locked.Locked.TheView.view c.self.inside in
    let same = subst (λ (v : LockedView). IsSameReplica v.core c.args.replica.core) (sym c.self.view_is) c.requires.same in
    let stands = subst (λ (v : LockedView). Stands (part_in v ++ c.args.entry ∷ []) c.args.replica.core) (sym c.self.view_is) c.requires.stands in
    let after : LockedView = record {
      core = c.args.replica.core;
      clerk = c.draw.new.clerk;
      stored = c.draw.new.stored.items;
      totals = c.count_entry.new.totals.items;
      spare = c.args.replica.spare;
      beside = c.args.replica.beside;
      room = c.draw.new.stored.room;
    } in
    let entered = HasEntered-drawn before after _ 0 _ c.self.invariant.0 (omega arith) same c.draw.ensures.drawn c.draw.ensures.stored
    (given-replica before c.args.replica.core c.args.entry c.self.invariant.0 same stands) (sym (ap (λ (v : LockedView). v.core.setup) c.self.view_is ∙ c.requires.desk.1)) in
    rw (← c.self.view_is) entered

pub returns-clause-grows : goal.returns-clause-grows
returns-clause-grows c = rw (← c.self.view_is) (drawn-grows _ _ _ _ c.draw.ensures.drawn)
