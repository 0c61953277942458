use Rattle.std.proofs.Common.{rules, ◌≡◌, sym, subst}
use Rattle.run_model.specs.declared.entry.Act.TheVariants as act
use Rattle.run_model.specs.declared.entry.Entry.{Entry}
use Rattle.locked_replica.specs.Journals.{MayComeNext}
use Rattle.locked_replica.specs.Locks.{entry_in}
use Rattle.locked_replica.proofs.Journaling.{restart-next}
use Rattle.locked_replica.proofs.locked.Locked.next_restart.Goals as goal

pub returns-clause-next : goal.returns-clause-next
returns-clause-next c =
    let entry : Entry = record { replica = c.replica_number.result; moment = c.moment_after.result; act = act.Restart } in
    let same : entry ≡ entry_in c.args.self.now c.args.moment act.Restart = search rules in
    subst (MayComeNext c.args.self.now) (sym same) (restart-next c.args.self.now c.requires.kept c.requires.sound c.requires.free c.args.moment c.requires.moment)

pub returns-clause-put : goal.returns-clause-put
returns-clause-put c =
    let entry : Entry = record { replica = c.replica_number.result; moment = c.moment_after.result; act = act.Restart } in
    let same : entry ≡ entry_in c.args.self.now c.args.moment act.Restart = search rules in
    let next = subst (MayComeNext c.args.self.now) (sym same) (restart-next c.args.self.now c.requires.kept c.requires.sound c.requires.free c.args.moment c.requires.moment) in
    c.due_can_be_put.ensures _ _ _ c.requires.sound.setup next.due
