use Rattle.std.proofs.Common.{rules, ◌≡◌, sym, subst}
use Rattle.run_model.specs.declared.entry.Act.TheVariants as act
use Rattle.run_model.specs.declared.entry.Entry.{Entry}
use Rattle.locked_replica.specs.Journals.{MayComeNext, call_in}
use Rattle.locked_replica.proofs.Journaling.{call-next}
use Rattle.locked_replica.proofs.locked.Locked.next_call.Goals as goal

pub returns-clause-next : goal.returns-clause-next
returns-clause-next c =
    let entry : Entry = record { replica = c.replica_number-replica.result; moment = c.moment_after-at.result; act = act.Call c.args.client c.calls_of-number.result c.args.request c.reply-reply.result } in
    let same : entry ≡ call_in c.args.self.now c.args.moment c.args.client c.args.request = search rules in
    subst (MayComeNext c.args.self.now) (sym same)
    (call-next c.args.self.now c.requires.kept c.requires.sound c.requires.free c.args.moment c.requires.moment c.args.client c.args.request c.requires.client c.requires.in_range)

pub returns-clause-put : goal.returns-clause-put
returns-clause-put c =
    let entry : Entry = record { replica = c.replica_number-replica.result; moment = c.moment_after-at.result; act = act.Call c.args.client c.calls_of-number.result c.args.request c.reply-reply.result } in
    let same : entry ≡ call_in c.args.self.now c.args.moment c.args.client c.args.request = search rules in
    let next = subst (MayComeNext c.args.self.now) (sym same)
    (call-next c.args.self.now c.requires.kept c.requires.sound c.requires.free c.args.moment c.requires.moment c.args.client c.args.request c.requires.client c.requires.in_range) in
    c.due_can_be_put.ensures _ _ _ c.requires.sound.setup next.due
