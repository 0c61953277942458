use Rattle.std.proofs.Common.{◌≡◌, ◌≢◌, Err}
use Rattle.restart_journal.specs.declared.fault.RecoverFault.TheVariants as fault
use Rattle.restart_journal.proofs.Journals.{good_is_told, foreign_is_told, full_is_told}
use Rattle.restart_journal.proofs.recovering.recover.Goals as goal

pub returns-clause-good : goal.returns-clause-good
returns-clause-good g c = λ tells still entries is.
    good_is_told c.args.config.now c.replicas-replicas.ensures.sound c.args.replica (g.J.Journal.pieces c.args.journal.now) c.read_all.result entries
    (c.read_all.ensures.told tells) (λ e. still (c.read_all.ensures.failed e)) is

pub returns-clause-foreign : goal.returns-clause-foreign
returns-clause-foreign g c = λ tells still place is enough.
    foreign_is_told c.args.config.now c.replicas-replicas.ensures.sound c.args.replica (g.J.Journal.pieces c.args.journal.now) c.read_all.result place
    (c.read_all.ensures.told tells) (λ e. still (c.read_all.ensures.failed e)) is enough

pub returns-clause-full : goal.returns-clause-full
returns-clause-full g c = λ tells still place is enough.
    full_is_told c.args.config.now c.replicas-replicas.ensures.sound c.args.replica (g.J.Journal.pieces c.args.journal.now) c.read_all.result place
    (c.read_all.ensures.told tells) (λ e. still (c.read_all.ensures.failed e)) is enough
