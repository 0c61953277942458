-- What the budgets of a replica keep whatever is called (this project's own rule).
use Rattle.std.specs.Prelude.{◌≡◌, ℕ, ◌+◌, ◌*◌, ◌^◌, ◌<◌, ◌≤◌, All, length, slice_index}
use Rattle.tact_base.specs.Setup.{IsSetup, alpha_of}
use Rattle.tact_base.specs.declared.limits.TheConstants.{LENT_MAX}
use Rattle.split_budget.specs.OwnWrites.{OwnState}
use Rattle.split_budget.specs.Budgets.{BudgetState, IsPeer, reserved_on, lent_to, returned_by, lent_by, returned_to, share, all_out, missing_plus, missing_minus}

-- Of a peer on a conit: no more is given back than was lent, on either side; and what the peer may miss, of either
-- sign, with what is reserved, is within the share.
pub record KeepsPeer (s : BudgetState) (peer conit : ℕ) : Type 0 where
  pub plus : missing_plus s peer conit + reserved_on s conit ≤ share s peer conit
  pub minus : missing_minus s peer conit + reserved_on s conit ≤ share s peer conit
  pub returned : returned_to s peer conit ≤ lent_by s peer conit
  pub returned_known : returned_by s peer conit ≤ lent_to s peer conit
  pub lent : lent_to s peer conit ≤ LENT_MAX

-- The setup is one, and the replica is one of it; there are as many numbers as its counts ask for, and what owners told
-- they lent fits in 64 bits; each peer is known to have what is given up; each peer on each conit is kept, and what all
-- peers have of the replica's own bound is within its alpha.
pub record KeepsBudgets (s : BudgetState) : Type 0 where
  pub setup : IsSetup s.setup
  pub replica : s.replica < s.setup.replicas
  pub known : length s.known ≡ s.setup.replicas
  pub reserved : length s.reserved ≡ s.setup.conits
  pub lent : length s.lent ≡ s.setup.replicas * s.setup.conits
  pub lent_known : length s.lent_known ≡ s.setup.replicas * s.setup.conits
  pub returned : length s.returned ≡ s.setup.replicas * s.setup.conits
  pub returned_known : length s.returned_known ≡ s.setup.replicas * s.setup.conits
  pub told : All (λ told. told < 2 ^ 64) s.lent_known
  pub given_up : (peer : ℕ) → IsPeer s peer → s.given_up ≤ slice_index s.known peer
  pub peers : (peer conit : ℕ) → IsPeer s peer → conit < s.setup.conits → KeepsPeer s peer conit
  pub home : (conit : ℕ) → conit < s.setup.conits → all_out s conit ≤ alpha_of s.setup s.replica conit

-- The same of the budgets with their own writes, which are those of the same replica, on as many conits.
pub record KeepsOwn (s : BudgetState) (own : OwnState) : Type 0 where
  pub keeps : KeepsBudgets s
  pub replica : own.replica ≡ s.replica
  pub conits : own.conits ≡ s.setup.conits
