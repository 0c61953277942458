use Rattle.std.proofs.Common.{ℕ, length, ap, arith, sym, subst}
use Rattle.std.proofs.lemmas.List.{length-replicate}
use Rattle.tact_base.specs.Setup.{IsSetup}
use Rattle.tact_base.proofs.SetupLemmas.{HasCounts-from_IsSetup}
use Rattle.locked_replica.specs.Locks.{LockedView}
use Rattle.locked_replica.proofs.locked.Locked.replicas.Goals as goal

pub overflow_cast-result : goal.overflow_cast-result
overflow_cast-result c =
    let counts = HasCounts-from_IsSetup c.self.inside.replica.core.setup (subst (λ (v : LockedView). IsSetup v.core.setup) (sym c.self.view_is) c.requires) in
    omega (arith, c.len.ensures, ap length c.self.invariant.2, length-replicate {A = ℕ} c.self.inside.replica.core.setup.replicas 0, counts.replicas_high)
