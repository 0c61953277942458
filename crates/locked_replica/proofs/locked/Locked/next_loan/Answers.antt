use Rattle.std.proofs.Common.{rules, ◌≡◌, sym, subst}
use Rattle.run_model.specs.declared.entry.Entry.{Entry}
use Rattle.locked_replica.specs.Journals.{MayComeNext}
use Rattle.locked_replica.specs.Loans.{act_of}
use Rattle.locked_replica.specs.Locks.{entry_in}
use Rattle.locked_replica.proofs.Journaling.{loan-next}
use Rattle.locked_replica.proofs.locked.Locked.next_loan.Goals as goal

pub returns-clause-next : goal.returns-clause-next
returns-clause-next c =
    let entry : Entry = record { replica = c.replica_number.result; moment = c.moment_after.result; act = c.act_of.result } in
    let same : entry ≡ entry_in c.args.self.now c.args.moment (act_of c.args.loan) = search rules in
    subst (MayComeNext c.args.self.now) (sym same)
    (loan-next c.args.self.now c.requires.kept c.requires.sound c.requires.free c.args.moment c.requires.moment c.args.loan c.requires.loan c.requires.within)

pub returns-clause-put : goal.returns-clause-put
returns-clause-put c =
    let entry : Entry = record { replica = c.replica_number.result; moment = c.moment_after.result; act = c.act_of.result } in
    let same : entry ≡ entry_in c.args.self.now c.args.moment (act_of c.args.loan) = search rules in
    let next = subst (MayComeNext c.args.self.now) (sym same)
    (loan-next c.args.self.now c.requires.kept c.requires.sound c.requires.free c.args.moment c.requires.moment c.args.loan c.requires.loan c.requires.within) in
    c.due_can_be_put.ensures _ _ _ c.requires.sound.setup next.due
