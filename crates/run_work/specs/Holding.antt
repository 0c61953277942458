-- What a client of a node holds, and what its session has seen further on.
use Rattle.std.specs.Prelude.{◌≡◌, ℕ, ◌<◌, ◌≤◌, List, length, get_or, sum_by}
use Rattle.run_model.specs.Missing.{granted_by, used_by, reserved}
use Rattle.run_model.specs.declared.entry.Entry.{Entry}
use Rattle.replica_lock.specs.Allowances.{AllowanceView, allowance_of}
use Rattle.replica_lock.specs.Sessions.{NodeView, SessionView, own_calls}
use Rattle.steady_node.specs.Going.{GoesOn}

-- what calls were granted on a conit, and what they used of it
abbrev pub granted : List Entry → ℕ → ℕ
granted calls conit = sum_by (λ entry. granted_by conit entry.act) calls

abbrev pub used : List Entry → ℕ → ℕ
used calls conit = sum_by (λ entry. used_by conit entry.act) calls

-- By conit, the allowances that a client of a node has after its calls: on each conit what these reserved there, of which
-- no more was used than was granted.
pub record Holds (node : NodeView) (calls : List Entry) (allowances : List AllowanceView) : Type 0 where
  pub conits : length allowances ≡ node.desk.setup.conits
  pub amounts : (conit : ℕ) (none : AllowanceView) → conit < length allowances
      → get_or allowances conit none ≡ allowance_of node conit (reserved calls conit)
  pub covered : (conit : ℕ) → used calls conit ≤ granted calls conit

-- a session has gone on without a call
pub record IsQuiet (most : ℕ) (before after : SessionView) : Type 0 where
  pub later : GoesOn most before after
  pub calls : own_calls after ≡ own_calls before
  pub doubt : after.doubt ≡ before.doubt
