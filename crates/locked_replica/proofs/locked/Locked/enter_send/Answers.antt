use Rattle.std.proofs.Common.{◌≡◌, ◌≢◌, ◌<◌, replicate, sym, ap, ◌∙◌, subst}
use Rattle.tact_base.specs.Setup.{Setup}
use Rattle.run_model.specs.Histories.{moment_at}
use Rattle.run_model.specs.Messages.{message_of}
use Rattle.run_model.specs.declared.entry.Act.TheVariants as act
use Rattle.locked_replica.specs.Locks.{HasEntered, LockedView, made_place, one_more_at, part_in}
use Rattle.locked_replica.specs.Parcels.{message_to}
use Rattle.locked_replica.proofs.Entering.{HasEntered-drawn, drawn-grows}
use Rattle.locked_replica.proofs.Making.{IsLocked-made, made-due, made-room, made-spelled, made-stands, no_firsts, one_message, quiet-send}
use Rattle.locked_replica.proofs.locked.Locked.enter_send.Goals as goal

pub enter_sending-requires-clause-due : goal.enter_sending-requires-clause-due
enter_sending-requires-clause-due c =
    let before : LockedView = Rattle.locked_replica.specs.declared.locked.Locked.TheView.view c.self.inside in
    let is : c.args.message ≡ message_to before.core.setup before.core.replica (part_in before) c.args.moment c.args.to =
    subst (λ (v : LockedView). c.args.message ≡ message_to v.core.setup v.core.replica (part_in v) c.args.moment c.args.to) (sym c.self.view_is) c.requires.message in
    let firsts = sym (no_firsts before.core.setup c.self.inside.firsts c.self.invariant.2) in
    let here = subst (λ (v : LockedView). (v.core.replica < v.core.setup.replicas) × (c.args.to < v.core.setup.replicas) × (c.args.to ≢ v.core.replica)) (sym c.self.view_is) (c.requires.sound.places.among, c.requires.to, c.requires.other) in
    λ part stands.
    is ∙ ap (message_of before.core.setup before.core.replica (part_in before) (moment_at (part_in before) c.args.moment) c.args.to) firsts
    ∙ one_message (part_in before) part before.core c.args.moment c.args.to c.self.inside.firsts c.self.invariant.0.stands stands here.0 here.1 here.2

pub draw_sending-parcel-requires-clause-due : goal.draw_sending-parcel-requires-clause-due
draw_sending-parcel-requires-clause-due c =
    let is = sym c.self.view_is in
    made-due _ c.enter_sending.new.self.core c.args.moment (act.Send c.args.message) _ _ c.self.invariant.0 c.enter_sending.ensures.goes_on
    (c.replica_number-replica.ensures ∙ ap (λ (v : LockedView). v.core.replica) is)
    (c.moment_after-at.ensures ∙ ap (λ (v : LockedView). moment_at (part_in v) c.args.moment) is)
    _ (sym c.requires.desk.1 ∙ ap (λ (v : LockedView). v.core.setup) is ∙ sym c.enter_sending.ensures.same.0)

pub count_entry-requires-clause-made : goal.count_entry-requires-clause-made
count_entry-requires-clause-made c =
    let is = sym c.self.view_is in
    rw c.self.invariant.1 (made-room _ c.enter_sending.new.self.core c.args.moment (act.Send c.args.message) _ _ c.self.invariant.0 c.enter_sending.ensures.goes_on
    (c.replica_number-replica.ensures ∙ ap (λ (v : LockedView). v.core.replica) is)
    (c.moment_after-at.ensures ∙ ap (λ (v : LockedView). moment_at (part_in v) c.args.moment) is)
    c.args.client c.requires.client)

pub invariant_of-self : goal.invariant_of-self
invariant_of-self c =
    let is = sym c.self.view_is in
    let stands = made-stands _ c.enter_sending.new.self.core c.args.moment (act.Send c.args.message) _ _ c.self.invariant.0 c.enter_sending.ensures.goes_on
    (c.replica_number-replica.ensures ∙ ap (λ (v : LockedView). v.core.replica) is)
    (c.moment_after-at.ensures ∙ ap (λ (v : LockedView). moment_at (part_in v) c.args.moment) is) in
    let totals = c.count_entry.ensures ∙ ap (λ n. one_more_at (made_place n c.args.client) c.self.inside.totals.items) c.self.invariant.1 in (
      IsLocked-made _ _ _ c.args.client _ c.self.invariant.0 c.requires.client c.enter_sending.ensures.same
          c.draw_sending-parcel.ensures.drawn c.draw_sending-parcel.ensures.stored (quiet-send _) stands totals,
      c.self.invariant.1 ∙ sym (ap (λ (s : Setup). s.conits) c.enter_sending.ensures.same.0),
      c.self.invariant.2 ∙ sym (ap (λ (s : Setup). replicate s.replicas 0) c.enter_sending.ensures.same.0),
      c.self.invariant.3 ∙ sym c.enter_sending.ensures.same.0,
    )

pub returns-clause-kept : goal.returns-clause-kept
returns-clause-kept c =
    let is = sym c.self.view_is in
    let stands = made-stands _ c.enter_sending.new.self.core c.args.moment (act.Send c.args.message) _ _ c.self.invariant.0 c.enter_sending.ensures.goes_on
    (c.replica_number-replica.ensures ∙ ap (λ (v : LockedView). v.core.replica) is)
    (c.moment_after-at.ensures ∙ ap (λ (v : LockedView). moment_at (part_in v) c.args.moment) is) in
    let totals = c.count_entry.ensures ∙ ap (λ n. one_more_at (made_place n c.args.client) c.self.inside.totals.items) c.self.invariant.1 in
    IsLocked-made _ _ _ c.args.client _ c.self.invariant.0 c.requires.client c.enter_sending.ensures.same
    c.draw_sending-parcel.ensures.drawn c.draw_sending-parcel.ensures.stored (quiet-send _) stands totals

pub returns-clause-entered : goal.returns-clause-entered
returns-clause-entered c =
    let is = sym c.self.view_is in
    let before = Rattle.locked_replica.specs.declared.locked.Locked.TheView.view c.self.inside in
    let same = made-spelled before c.enter_sending.new.self.core c.args.moment (act.Send c.args.message) _ _ c.self.invariant.0 c.enter_sending.ensures.goes_on
    (c.replica_number-replica.ensures ∙ ap (λ (v : LockedView). v.core.replica) is)
    (c.moment_after-at.ensures ∙ ap (λ (v : LockedView). moment_at (part_in v) c.args.moment) is) in
    let after : LockedView = record {
      core = c.enter_sending.new.self.core;
      clerk = c.draw_sending-parcel.new.clerk;
      stored = c.draw_sending-parcel.new.stored.items;
      totals = c.count_entry.new.totals.items;
      spare = c.enter_sending.new.self.spare;
      beside = c.enter_sending.new.self.beside;
      room = c.draw_sending-parcel.new.stored.room;
    } in
    let entered = HasEntered-drawn before after _ c.args.client _ c.self.invariant.0 c.requires.client
    c.enter_sending.ensures.same c.draw_sending-parcel.ensures.drawn c.draw_sending-parcel.ensures.stored
    (c.replica_number-replica.ensures ∙ ap (λ (v : LockedView). v.core.replica) is) (sym c.requires.desk.1 ∙ ap (λ (v : LockedView). v.core.setup) is) in
    rw (← c.self.view_is) (subst (λ e. HasEntered before after c.self.inside.clerk.seen e) (sym same) entered)

pub returns-clause-grows : goal.returns-clause-grows
returns-clause-grows c = rw (← c.self.view_is) (drawn-grows _ _ _ _ c.draw_sending-parcel.ensures.drawn)

pub returns-clause-rooms : goal.returns-clause-rooms
returns-clause-rooms c =
    let is = sym c.self.view_is in
    rw (← c.self.view_is) (made-room _ c.enter_sending.new.self.core c.args.moment (act.Send c.args.message) _ _ c.self.invariant.0 c.enter_sending.ensures.goes_on
    (c.replica_number-replica.ensures ∙ ap (λ (v : LockedView). v.core.replica) is)
    (c.moment_after-at.ensures ∙ ap (λ (v : LockedView). moment_at (part_in v) c.args.moment) is)
    c.args.client c.requires.client)
