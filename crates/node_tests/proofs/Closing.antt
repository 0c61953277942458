-- The clerks of two replicas.
use Rattle.std.proofs.Common.{◌≡◌, ℕ, zero, suc, ◌∷◌, [], arith}
use Rattle.run_history.specs.Closing.{AreAllThere}
use Rattle.run_history.specs.Seats.{ClerkView}

-- two clerks are all where there are two replicas
pub two_there : (replicas : ℕ) (first second : ClerkView) → replicas ≡ 2 → first.replica ≡ 0
    → second.replica ≡ 1 → AreAllThere replicas (first ∷ second ∷ [])
two_there replicas first second two is_first is_second zero below = (0, omega arith, is_first)
two_there replicas first second two is_first is_second (suc zero) below = (1, omega arith, is_second)
two_there replicas first second two is_first is_second (suc (suc n)) below = absurd (omega arith)
