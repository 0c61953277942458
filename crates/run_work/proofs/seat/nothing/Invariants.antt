use Rattle.std.proofs.Common.{◌≡◌, ℕ, ◌<◌, get_or, length}
use Rattle.replica_lock.specs.Allowances.{AllowanceView, allowance_of}
use Rattle.run_work.proofs.seat.nothing.Given as goal

abbrev pub invariant-loop-conit : goal.invariant-loop-conit
invariant-loop-conit g l = record {
  same : l.session ≡ l.initial.session;
  count : length l.allowances.items ≡ l.conit;
  empty : (conit : ℕ) (none : AllowanceView) → conit < l.conit → get_or l.allowances.items conit none ≡ allowance_of l.node conit 0;
}
