use Rattle.std.proofs.Common.{rules, ◌≡◌, sym, subst}
use Rattle.run_model.specs.declared.entry.Act.TheVariants as act
use Rattle.run_model.specs.declared.entry.Entry.{Entry}
use Rattle.locked_replica.specs.Journals.{MayComeNext, send_in}
use Rattle.locked_replica.specs.Locks.{LockedView, part_in}
use Rattle.locked_replica.specs.Parcels.{message_to}
use Rattle.locked_replica.proofs.Journaling.{send-next}
use Rattle.locked_replica.proofs.Making.{message-firsts}
use Rattle.locked_replica.proofs.locked.Locked.next_send.Goals as goal

pub returns-clause-entry : goal.returns-clause-entry
returns-clause-entry c =
    let before : LockedView = Rattle.locked_replica.specs.declared.locked.Locked.TheView.view c.self.inside in
    let message : c.in_ok-message.message ≡ message_to c.args.self.now.core.setup c.args.self.now.core.replica (part_in c.args.self.now) c.args.moment c.args.to =
    subst (λ (v : LockedView). c.in_ok-message.message ≡ message_to v.core.setup v.core.replica (part_in v) c.args.moment c.args.to) c.self.view_is
    (message-firsts before c.self.inside.firsts c.args.moment c.args.to c.in_ok-message.message c.self.invariant.2
    (c.in_ok-message.ensures.due (part_in before) c.self.invariant.0.stands)) in
    search rules

pub returns-clause-next : goal.returns-clause-next
returns-clause-next c =
    let before : LockedView = Rattle.locked_replica.specs.declared.locked.Locked.TheView.view c.self.inside in
    let message : c.in_ok-message.message ≡ message_to c.args.self.now.core.setup c.args.self.now.core.replica (part_in c.args.self.now) c.args.moment c.args.to =
    subst (λ (v : LockedView). c.in_ok-message.message ≡ message_to v.core.setup v.core.replica (part_in v) c.args.moment c.args.to) c.self.view_is
    (message-firsts before c.self.inside.firsts c.args.moment c.args.to c.in_ok-message.message c.self.invariant.2
    (c.in_ok-message.ensures.due (part_in before) c.self.invariant.0.stands)) in
    let entry : Entry = record { replica = c.replica_number.result; moment = c.moment_after.result; act = act.Send c.in_ok-message.message } in
    let same : entry ≡ send_in c.args.self.now c.args.moment c.args.to = search rules in
    subst (MayComeNext c.args.self.now) (sym same)
    (send-next c.args.self.now c.requires.kept c.requires.sound c.requires.free c.args.moment c.requires.moment c.args.to c.requires.to c.requires.other)

pub returns-clause-put : goal.returns-clause-put
returns-clause-put c =
    let before : LockedView = Rattle.locked_replica.specs.declared.locked.Locked.TheView.view c.self.inside in
    let message : c.in_ok-message.message ≡ message_to c.args.self.now.core.setup c.args.self.now.core.replica (part_in c.args.self.now) c.args.moment c.args.to =
    subst (λ (v : LockedView). c.in_ok-message.message ≡ message_to v.core.setup v.core.replica (part_in v) c.args.moment c.args.to) c.self.view_is
    (message-firsts before c.self.inside.firsts c.args.moment c.args.to c.in_ok-message.message c.self.invariant.2
    (c.in_ok-message.ensures.due (part_in before) c.self.invariant.0.stands)) in
    let entry : Entry = record { replica = c.replica_number.result; moment = c.moment_after.result; act = act.Send c.in_ok-message.message } in
    let same : entry ≡ send_in c.args.self.now c.args.moment c.args.to = search rules in
    let next = subst (MayComeNext c.args.self.now) (sym same)
    (send-next c.args.self.now c.requires.kept c.requires.sound c.requires.free c.args.moment c.requires.moment c.args.to c.requires.to c.requires.other) in
    c.due_can_be_put.ensures _ _ _ c.requires.sound.setup next.due
