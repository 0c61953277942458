use Rattle.std.proofs.Common.{◌≡◌, false, replicate, sym, ap, ◌∙◌, subst}
use Rattle.tact_base.specs.Setup.{Setup}
use Rattle.run_model.specs.Histories.{moment_at}
use Rattle.run_model.specs.Runs.{IsRun}
use Rattle.run_model.specs.declared.entry.Act.TheVariants as act
use Rattle.replica_core.specs.States.{is_full}
use Rattle.locked_replica.specs.Locks.{HasEntered, LockedView, made_place, one_more_at, part_in}
use Rattle.locked_replica.specs.Parcels.{HasSending, ParcelView}
use Rattle.locked_replica.proofs.Entering.{HasEntered-drawn, drawn-grows}
use Rattle.locked_replica.proofs.Making.{IsLocked-made, fits-sent, made-due, made-room, made-spelled, made-stands, quiet-take}
use Rattle.locked_replica.proofs.locked.Locked.enter_take.Goals as goal

pub take_in-requires-clause-fits : goal.take_in-requires-clause-fits
take_in-requires-clause-fits c =
    let before = Rattle.locked_replica.specs.declared.locked.Locked.TheView.view c.self.inside in
    let is = sym c.self.view_is in
    fits-sent before _ c.parcel.inside.message c.self.invariant.0 (ap (λ (v : LockedView). v.core.setup) c.self.view_is ∙ c.requires.desk.1)
    (subst (λ (v : LockedView). IsRun c.args.desk.now.setup v.clerk.seen) is c.requires.run)
    (ap (λ (p : ParcelView). p.message.to) c.parcel.view_is ∙ c.requires.addressed ∙ ap (λ (v : LockedView). v.core.replica) is)
    (subst (λ (p : ParcelView). HasSending c.self.inside.clerk.seen p.message) (sym c.parcel.view_is)
    (subst (λ (v : LockedView). HasSending v.clerk.seen c.args.parcel.message) is c.requires.sent))
    (subst (λ (v : LockedView). is_full v.core ≡ false) is c.requires.free)

pub draw-requires-clause-due : goal.draw-requires-clause-due
draw-requires-clause-due c =
    let is = sym c.self.view_is in
    (made-due _ c.take_in.new.replica.core c.args.moment (act.Take c.parcel.inside.message) _ _ c.self.invariant.0 c.take_in.ensures.goes_on
    (c.replica_number-replica.ensures ∙ ap (λ (v : LockedView). v.core.replica) is)
    (c.moment_after-at.ensures ∙ ap (λ (v : LockedView). moment_at (part_in v) c.args.moment) is)
    _ (sym c.requires.desk.1 ∙ ap (λ (v : LockedView). v.core.setup) is ∙ sym c.take_in.ensures.same.0))

pub draw-requires-clause-sent : goal.draw-requires-clause-sent
draw-requires-clause-sent c =
    subst (λ (p : ParcelView). HasSending c.self.inside.clerk.seen p.message) (sym c.parcel.view_is)
    (subst (λ (v : LockedView). HasSending v.clerk.seen c.args.parcel.message) (sym c.self.view_is) c.requires.sent)

pub count_entry-requires-clause-made : goal.count_entry-requires-clause-made
count_entry-requires-clause-made c =
    let is = sym c.self.view_is in
    rw c.self.invariant.1 (made-room _ c.take_in.new.replica.core c.args.moment (act.Take c.parcel.inside.message) _ _ c.self.invariant.0 c.take_in.ensures.goes_on
    (c.replica_number-replica.ensures ∙ ap (λ (v : LockedView). v.core.replica) is)
    (c.moment_after-at.ensures ∙ ap (λ (v : LockedView). moment_at (part_in v) c.args.moment) is)
    c.args.client c.requires.client)

pub invariant_of-self : goal.invariant_of-self
invariant_of-self c =
    let is = sym c.self.view_is in
    let stands = made-stands _ c.take_in.new.replica.core c.args.moment (act.Take c.parcel.inside.message) _ _ c.self.invariant.0 c.take_in.ensures.goes_on
    (c.replica_number-replica.ensures ∙ ap (λ (v : LockedView). v.core.replica) is)
    (c.moment_after-at.ensures ∙ ap (λ (v : LockedView). moment_at (part_in v) c.args.moment) is) in
    let totals = c.count_entry.ensures ∙ ap (λ n. one_more_at (made_place n c.args.client) c.self.inside.totals.items) c.self.invariant.1 in (
      IsLocked-made _ _ _ c.args.client _ c.self.invariant.0 c.requires.client c.take_in.ensures.same c.draw.ensures.drawn c.draw.ensures.stored (quiet-take _) stands totals,
      c.self.invariant.1 ∙ sym (ap (λ (s : Setup). s.conits) c.take_in.ensures.same.0),
      c.self.invariant.2 ∙ sym (ap (λ (s : Setup). replicate s.replicas 0) c.take_in.ensures.same.0),
      c.self.invariant.3 ∙ sym c.take_in.ensures.same.0,
    )

pub returns-clause-kept : goal.returns-clause-kept
returns-clause-kept c =
    let is = sym c.self.view_is in
    let stands = made-stands _ c.take_in.new.replica.core c.args.moment (act.Take c.parcel.inside.message) _ _ c.self.invariant.0 c.take_in.ensures.goes_on
    (c.replica_number-replica.ensures ∙ ap (λ (v : LockedView). v.core.replica) is)
    (c.moment_after-at.ensures ∙ ap (λ (v : LockedView). moment_at (part_in v) c.args.moment) is) in
    let totals = c.count_entry.ensures ∙ ap (λ n. one_more_at (made_place n c.args.client) c.self.inside.totals.items) c.self.invariant.1 in
    IsLocked-made _ _ _ c.args.client _ c.self.invariant.0 c.requires.client c.take_in.ensures.same c.draw.ensures.drawn c.draw.ensures.stored (quiet-take _) stands totals

pub returns-clause-entered : goal.returns-clause-entered
returns-clause-entered c =
    let is = sym c.self.view_is in
    let before = Rattle.locked_replica.specs.declared.locked.Locked.TheView.view c.self.inside in
    let same = made-spelled before c.take_in.new.replica.core c.args.moment (act.Take c.parcel.inside.message) _ _ c.self.invariant.0 c.take_in.ensures.goes_on
    (c.replica_number-replica.ensures ∙ ap (λ (v : LockedView). v.core.replica) is)
    (c.moment_after-at.ensures ∙ ap (λ (v : LockedView). moment_at (part_in v) c.args.moment) is) in
    let after : LockedView = record {
      core = c.take_in.new.replica.core;
      clerk = c.draw.new.clerk;
      stored = c.draw.new.stored.items;
      totals = c.count_entry.new.totals.items;
      spare = c.take_in.new.replica.spare;
      beside = c.take_in.new.replica.beside;
      room = c.draw.new.stored.room;
    } in
    let entered = HasEntered-drawn before after _ c.args.client _ c.self.invariant.0 c.requires.client c.take_in.ensures.same c.draw.ensures.drawn c.draw.ensures.stored
    (c.replica_number-replica.ensures ∙ ap (λ (v : LockedView). v.core.replica) is) (sym c.requires.desk.1 ∙ ap (λ (v : LockedView). v.core.setup) is) in
    rw (← c.self.view_is, ← c.parcel.view_is) (subst (λ e. HasEntered before after c.self.inside.clerk.seen e) (sym same) entered)

pub returns-clause-grows : goal.returns-clause-grows
returns-clause-grows c = rw (← c.self.view_is) (drawn-grows _ _ _ _ c.draw.ensures.drawn)

pub returns-clause-rooms : goal.returns-clause-rooms
returns-clause-rooms c =
    let is = sym c.self.view_is in
    rw (← c.self.view_is) (made-room _ c.take_in.new.replica.core c.args.moment (act.Take c.parcel.inside.message) _ _ c.self.invariant.0 c.take_in.ensures.goes_on
    (c.replica_number-replica.ensures ∙ ap (λ (v : LockedView). v.core.replica) is)
    (c.moment_after-at.ensures ∙ ap (λ (v : LockedView). moment_at (part_in v) c.args.moment) is)
    c.args.client c.requires.client)
