use Rattle.std.proofs.Common.{replicate, sym, ap, ◌∙◌, subst}
use Rattle.tact_base.specs.Setup.{Setup}
use Rattle.run_model.specs.Histories.{moment_at}
use Rattle.run_model.specs.declared.entry.Act.TheVariants as act
use Rattle.locked_replica.specs.Locks.{HasEntered, LockedView, made_place, one_more_at, part_in}
use Rattle.locked_replica.proofs.Entering.{HasEntered-drawn, drawn-grows}
use Rattle.locked_replica.proofs.Making.{IsLocked-made, made-due, made-room, made-spelled, made-stands, quiet-restart}
use Rattle.locked_replica.proofs.locked.Locked.enter_restart.Goals as goal

pub draw-requires-clause-due : goal.draw-requires-clause-due
draw-requires-clause-due c =
    let is = sym c.self.view_is in
    made-due _ c.begin_anew.new.replica.core c.args.moment act.Restart _ _ c.self.invariant.0 c.begin_anew.ensures.goes_on
    (c.replica_number-replica.ensures ∙ ap (λ (v : LockedView). v.core.replica) is)
    (c.moment_after-at.ensures ∙ ap (λ (v : LockedView). moment_at (part_in v) c.args.moment) is)
    _ (sym c.requires.desk.1 ∙ ap (λ (v : LockedView). v.core.setup) is ∙ sym c.begin_anew.ensures.same.0)

pub count_entry-requires-clause-made : goal.count_entry-requires-clause-made
count_entry-requires-clause-made c =
    let is = sym c.self.view_is in
    rw c.self.invariant.1 (made-room _ c.begin_anew.new.replica.core c.args.moment act.Restart _ _ c.self.invariant.0 c.begin_anew.ensures.goes_on
    (c.replica_number-replica.ensures ∙ ap (λ (v : LockedView). v.core.replica) is)
    (c.moment_after-at.ensures ∙ ap (λ (v : LockedView). moment_at (part_in v) c.args.moment) is)
    c.args.client c.requires.client)

pub invariant_of-self : goal.invariant_of-self
invariant_of-self c =
    let is = sym c.self.view_is in
    let stands = made-stands _ c.begin_anew.new.replica.core c.args.moment act.Restart _ _ c.self.invariant.0 c.begin_anew.ensures.goes_on
    (c.replica_number-replica.ensures ∙ ap (λ (v : LockedView). v.core.replica) is)
    (c.moment_after-at.ensures ∙ ap (λ (v : LockedView). moment_at (part_in v) c.args.moment) is) in
    let totals = c.count_entry.ensures ∙ ap (λ n. one_more_at (made_place n c.args.client) c.self.inside.totals.items) c.self.invariant.1 in (
      IsLocked-made _ _ _ c.args.client _ c.self.invariant.0 c.requires.client c.begin_anew.ensures.same c.draw.ensures.drawn c.draw.ensures.stored quiet-restart stands totals,
      c.self.invariant.1 ∙ sym (ap (λ (s : Setup). s.conits) c.begin_anew.ensures.same.0),
      c.self.invariant.2 ∙ sym (ap (λ (s : Setup). replicate s.replicas 0) c.begin_anew.ensures.same.0),
      c.self.invariant.3 ∙ sym c.begin_anew.ensures.same.0,
    )

pub returns-clause-kept : goal.returns-clause-kept
returns-clause-kept c =
    let is = sym c.self.view_is in
    let stands = made-stands _ c.begin_anew.new.replica.core c.args.moment act.Restart _ _ c.self.invariant.0 c.begin_anew.ensures.goes_on
    (c.replica_number-replica.ensures ∙ ap (λ (v : LockedView). v.core.replica) is)
    (c.moment_after-at.ensures ∙ ap (λ (v : LockedView). moment_at (part_in v) c.args.moment) is) in
    let totals = c.count_entry.ensures ∙ ap (λ n. one_more_at (made_place n c.args.client) c.self.inside.totals.items) c.self.invariant.1 in
    IsLocked-made _ _ _ c.args.client _ c.self.invariant.0 c.requires.client c.begin_anew.ensures.same c.draw.ensures.drawn c.draw.ensures.stored quiet-restart stands totals

pub returns-clause-entered : goal.returns-clause-entered
returns-clause-entered c =
    let is = sym c.self.view_is in
    let before : LockedView = Rattle.locked_replica.specs.declared.locked.Locked.TheView.view c.self.inside in
    let same = made-spelled before c.begin_anew.new.replica.core c.args.moment act.Restart _ _ c.self.invariant.0 c.begin_anew.ensures.goes_on
    (c.replica_number-replica.ensures ∙ ap (λ (v : LockedView). v.core.replica) is)
    (c.moment_after-at.ensures ∙ ap (λ (v : LockedView). moment_at (part_in v) c.args.moment) is) in
    let after : LockedView = record {
      core = c.begin_anew.new.replica.core;
      clerk = c.draw.new.clerk;
      stored = c.draw.new.stored.items;
      totals = c.count_entry.new.totals.items;
      spare = c.begin_anew.new.replica.spare;
      beside = c.begin_anew.new.replica.beside;
      room = c.draw.new.stored.room;
    } in
    let entered = HasEntered-drawn before after _ c.args.client _ c.self.invariant.0 c.requires.client c.begin_anew.ensures.same c.draw.ensures.drawn c.draw.ensures.stored
    (c.replica_number-replica.ensures ∙ ap (λ (v : LockedView). v.core.replica) is) (sym c.requires.desk.1 ∙ ap (λ (v : LockedView). v.core.setup) is) in
    rw (← c.self.view_is) (subst (λ e. HasEntered before after c.self.inside.clerk.seen e) (sym same) entered)

pub returns-clause-grows : goal.returns-clause-grows
returns-clause-grows c = rw (← c.self.view_is) (drawn-grows _ _ _ _ c.draw.ensures.drawn)

pub returns-clause-rooms : goal.returns-clause-rooms
returns-clause-rooms c =
    let is = sym c.self.view_is in
    rw (← c.self.view_is) (made-room _ c.begin_anew.new.replica.core c.args.moment act.Restart _ _ c.self.invariant.0 c.begin_anew.ensures.goes_on
    (c.replica_number-replica.ensures ∙ ap (λ (v : LockedView). v.core.replica) is)
    (c.moment_after-at.ensures ∙ ap (λ (v : LockedView). moment_at (part_in v) c.args.moment) is)
    c.args.client c.requires.client)
