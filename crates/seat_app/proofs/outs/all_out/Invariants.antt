use Rattle.std.proofs.Common.{◌≡◌, ◌≤◌, sum_by}
use Rattle.tact_base.specs.declared.limits.TheConstants.{ALPHA_MAX}
use Rattle.split_budget.specs.Budgets.{out}
use Rattle.split_budget.proofs.PeersBelow.{peers_below}
use Rattle.seat_app.proofs.outs.all_out.Given as goal

-- what the peers so far have
abbrev pub invariant-loop-peer : goal.invariant-loop-peer
invariant-loop-peer l = record {
  so_far : l.out ≡ sum_by (λ peer. out l.budgets peer l.conit) (peers_below l.budgets.replica l.peer);
  few : l.out ≤ ALPHA_MAX;
}
