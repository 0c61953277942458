use Rattle.std.proofs.Common.{refl}
use Rattle.std.proofs.lemmas.Result.{err_from_is_err_and}
use Rattle.run_model.specs.declared.entry.Act.TheVariants as act
use Rattle.run_record.specs.declared.short.ShortAct.TheVariants as short
use Rattle.restart_journal.specs.declared.parts.Told.TheVariants as told
use Rattle.restart_journal.specs.PieceAt.{a_piece}
use Rattle.restart_journal.proofs.Following.{full_is_none, made_and_put, stored_or_none}
use Rattle.restart_journal.proofs.recovered.Recovered.restart.Goals as goal

pub returns-clause-ok : goal.returns-clause-ok
returns-clause-ok c =
    made_and_put c.args.self.now (record c.args.self.now { replica = c.restart.new.self }) c.store.new.self c.requires.in_step c.args.replica c.args.moment c.requires.replica c.requires.in_time
    act.Restart (λ part. act.Restart) refl c.in_ok-restart.ensures.goes_on c.in_ok-restart.ensures.same refl c.store.ensures.same (told.Step short.Restart) refl c.store.result c.store.ensures.ok

pub returns-in_err-restart-clause-err : goal.returns-in_err-restart-clause-err
returns-in_err-restart-clause-err c =
    let given = err_from_is_err_and c.from_residual.result c.from_residual.ensures.1 in
    rw (given.1, given.2, c.in_err-restart.ensures.full.1)
    (full_is_none c.args.self.now (a_piece c.args.replica c.args.moment (told.Step short.Restart)) c.requires.in_step c.in_err-restart.ensures.full.0)

pub returns-clause-err : goal.returns-clause-err
returns-clause-err c = stored_or_none c.args.self.now (a_piece c.args.replica c.args.moment (told.Step short.Restart)) c.store.result c.store.ensures.err
