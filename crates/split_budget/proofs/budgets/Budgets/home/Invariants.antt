use Rattle.std.proofs.Common.{◌≡◌, ◌+◌, sum_by}
use Rattle.tact_base.specs.Setup.{alpha_of}
use Rattle.split_budget.specs.Budgets.{out}
use Rattle.split_budget.proofs.PeersBelow.{peers_below}
use Rattle.split_budget.proofs.budgets.Budgets.home.Given as goal

-- what is left, with what the peers so far have
abbrev pub invariant-loop-peer : goal.invariant-loop-peer
invariant-loop-peer l =
    l.home + sum_by (λ peer. out l.self peer l.conit) (peers_below l.self.replica l.peer) ≡ alpha_of l.self.setup l.self.replica l.conit
