use Rattle.std.proofs.Common.{rules, ◌≡◌, sym, subst}
use Rattle.run_model.specs.declared.entry.Act.TheVariants as act
use Rattle.run_model.specs.declared.entry.Entry.{Entry}
use Rattle.locked_replica.specs.Journals.{MayComeNext}
use Rattle.locked_replica.specs.Locks.{entry_in}
use Rattle.locked_replica.proofs.Journaling.{take-next}
use Rattle.locked_replica.proofs.Making.{fits-sent}
use Rattle.locked_replica.proofs.locked.Locked.next_take.Goals as goal

pub returns-clause-next : goal.returns-clause-next
returns-clause-next c =
    let entry : Entry = record { replica = c.replica_number.result; moment = c.moment_after.result; act = act.Take c.in_ok-clone.field-0 } in
    let same : entry ≡ entry_in c.args.self.now c.args.moment (act.Take c.args.message.now) = search rules in
    let locked = c.args.self.now in
    subst (MayComeNext locked) (sym same)
    (take-next locked c.requires.kept c.requires.sound c.requires.free c.args.moment c.requires.moment c.args.message.now
    (fits-sent locked c.args.desk.now.setup c.args.message.now c.requires.kept c.requires.desk.1 c.requires.run c.requires.addressed c.requires.sent c.requires.free) c.requires.sent)

pub returns-clause-put : goal.returns-clause-put
returns-clause-put c =
    let entry : Entry = record { replica = c.replica_number.result; moment = c.moment_after.result; act = act.Take c.in_ok-clone.field-0 } in
    let same : entry ≡ entry_in c.args.self.now c.args.moment (act.Take c.args.message.now) = search rules in
    let locked = c.args.self.now in
    let next = subst (MayComeNext locked) (sym same)
    (take-next locked c.requires.kept c.requires.sound c.requires.free c.args.moment c.requires.moment c.args.message.now
    (fits-sent locked c.args.desk.now.setup c.args.message.now c.requires.kept c.requires.desk.1 c.requires.run c.requires.addressed c.requires.sent c.requires.free) c.requires.sent) in
    c.due_can_be_put.ensures _ _ _ c.requires.sound.setup next.due
