use Rattle.std.proofs.Common.{◌*◌, ap, ◌∙◌}
use Rattle.tact_base.specs.Setup.{Setup}
use Rattle.replica_core.proofs.Loans.{IsHome-told}
use Rattle.replica_core.proofs.replica.Replica.home.Goals as goal

pub returns-clause-home : goal.returns-clause-home
returns-clause-home c =
    let conit_in = rw (← c.self.view_is) at c.requires in
    rw (← c.self.view_is) (IsHome-told _ c.args.conit c.home.result c.self.invariant.0.budgets conit_in c.home.ensures.home)

pub returns-clause-places : goal.returns-clause-places
returns-clause-places c =
    rw (← c.self.view_is) (c.home.ensures.kept.lent ∙ ap (λ (s : Setup). s.replicas * s.conits) c.self.invariant.0.budgets.setup)
