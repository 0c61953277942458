use Rattle.std.proofs.Common.{refl}
use Rattle.run_model.specs.declared.entry.Act.TheVariants as act
use Rattle.restart_journal.specs.declared.parts.Told.TheVariants as told
use Rattle.restart_journal.specs.PieceAt.{a_piece}
use Rattle.restart_journal.proofs.Following.{made_and_put, stored_or_none}
use Rattle.restart_journal.proofs.recovered.Recovered.take.Goals as goal

pub returns-clause-ok : goal.returns-clause-ok
returns-clause-ok c =
    made_and_put c.args.self.now (record c.args.self.now { replica = c.take.new.self }) c.store.new.self c.requires.in_step c.args.replica c.args.moment c.requires.replica c.requires.in_time
    (act.Take c.args.message) (λ part. act.Take c.args.message) refl c.in_ok-take.ensures.goes_on c.in_ok-take.ensures.same refl c.store.ensures.same (told.Take c.args.message) refl c.store.result c.store.ensures.ok

pub returns-clause-err : goal.returns-clause-err
returns-clause-err c = stored_or_none c.args.self.now (a_piece c.args.replica c.args.moment (told.Take c.args.message)) c.store.result c.store.ensures.err
