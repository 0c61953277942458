use Rattle.std.proofs.Common.{◌≡◌, ◌≢◌, ℕ, ◌<◌, ◌≤◌, length, get_or}
use Rattle.tact_base.specs.declared.limits.TheConstants.{ALPHA_MAX}
use Rattle.split_budget.specs.Budgets.{all_out}
use Rattle.replica_core.specs.Reading.{out_at}
use Rattle.replica_core.proofs.replica.Replica.outs.Given as goal

abbrev pub invariant-loop-holder : goal.invariant-loop-holder
invariant-loop-holder l = record {
  sized : length l.outs ≡ 8;
  few : (peer : ℕ) → peer < l.holder → peer ≢ l.self.core.replica → all_out l.self.core.budgets l.conit ≤ ALPHA_MAX;
  filled : (k : ℕ) → k < l.holder → get_or l.outs k 0 ≡ out_at l.self.core l.conit k;
}
