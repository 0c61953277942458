use Rattle.std.proofs.Common.{refl}
use Rattle.run_model.specs.declared.entry.Act.TheVariants as act
use Rattle.run_record.specs.declared.short.ShortAct.TheVariants as short
use Rattle.restart_journal.specs.declared.parts.Told.TheVariants as told
use Rattle.restart_journal.proofs.Following.{made_and_put}
use Rattle.restart_journal.proofs.recovered.Recovered.lend.Goals as goal

pub returns-in-Ok-clause-ok : goal.returns-in-Ok-clause-ok
returns-in-Ok-clause-ok c =
    let done = act.Lend c.args.to c.args.conit c.args.amount in
    made_and_put c.args.self.now (record c.args.self.now { replica = c.lend.new.self }) c.store.new.self c.requires.in_step c.args.replica c.args.moment c.requires.replica c.requires.in_time
    done (λ part. done) refl c.in-Ok.ensures.goes_on c.in-Ok.ensures.same refl c.store.ensures.same (told.Step (short.Lend c.args.to c.args.conit c.args.amount)) refl c.store.result c.store.ensures.ok
