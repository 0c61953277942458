use Rattle.std.proofs.Common.{◌≡◌, []}
use Rattle.split_budget.specs.Answers.{fit_by, missing_on}
use Rattle.split_budget.proofs.PeersBelow.{peers_below}
use Rattle.split_budget.proofs.Refusals.{refusals}
use Rattle.split_budget.proofs.budgets.Budgets.answer.Given as goal

-- no peer so far refuses the amount
abbrev pub invariant-loop-peer : goal.invariant-loop-peer
invariant-loop-peer l =
    refusals (λ peer. fit_by l.self l.conit l.amount peer (missing_on l.side l.self l.conit peer)) (peers_below l.self.replica l.peer) ≡ []
