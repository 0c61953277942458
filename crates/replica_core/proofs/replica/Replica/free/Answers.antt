use Rattle.std.proofs.Common.{◌*◌, ap, ◌∙◌}
use Rattle.tact_base.specs.Setup.{Setup}
use Rattle.replica_core.proofs.Loans.{IsFree-told}
use Rattle.replica_core.proofs.replica.Replica.free.Goals as goal

pub returns-clause-free : goal.returns-clause-free
returns-clause-free c =
    let owner_in = rw (← c.self.view_is) at c.requires.owner in
    let other = rw (← c.self.view_is) at c.requires.other in
    let conit_in = rw (← c.self.view_is) at c.requires.conit in
    rw (← c.self.view_is) (IsFree-told _ c.args.owner c.args.conit c.free.result c.self.invariant.0.budgets owner_in other conit_in c.free.ensures.free)

pub returns-clause-places : goal.returns-clause-places
returns-clause-places c =
    rw (← c.self.view_is) (c.free.ensures.kept.returned ∙ ap (λ (s : Setup). s.replicas * s.conits) c.self.invariant.0.budgets.setup)
