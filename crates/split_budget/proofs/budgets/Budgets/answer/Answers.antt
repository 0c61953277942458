use Rattle.std.proofs.Common.{◌≡◌, ℕ, arith, ◌∙◌, ap, sym}
use Rattle.tact_base.specs.declared.fit.Fit.{Fit}
use Rattle.tact_base.specs.Setup.{peers_of}
use Rattle.split_budget.specs.Budgets.{BudgetState}
use Rattle.split_budget.specs.Answers.{fit_by, missing_on}
use Rattle.split_budget.proofs.PeersBelow.{peers_below, peers_after, peers_below-split, peers_below-own, peers_below-peer}
use Rattle.split_budget.proofs.Refusals.{refusals, refusals-more, first_refusal-at}
use Rattle.split_budget.proofs.budgets.Budgets.answer.Goals as goal
use Rattle.split_budget.proofs.budgets.Budgets.answer.Goals.{then-peer-self+in-Fits, else-peer-self}

pub returns-in_default : goal.returns-in_default
returns-in_default c =
    let s = c.args.self.now in
    let f : ℕ → Fit = λ peer. fit_by s c.args.conit c.args.amount peer (missing_on c.args.side s c.args.conit peer) in
    let peer = c.loop-peer.peer in
    let replica : c.self.inside.config.replica ≡ s.replica = ap (λ (t : BudgetState). t.replica) c.self.view_is in
    let replicas : c.self.inside.config.replicas ≡ s.setup.replicas = ap (λ (t : BudgetState). t.setup.replicas) c.self.view_is in
    let split = peers_below-split s.replica peer s.setup.replicas (omega (arith, replicas)) (λ same. c.if-peer-self.true (same ∙ sym replica)) in
    let first = first_refusal-at f (peers_of s.setup s.replica) (peers_below s.replica peer) (peers_after s.replica peer s.setup.replicas) peer split c.loop-peer.invariant
    (λ fits. c.in_default.not-Fits (c.fit_by.ensures ∙ fits)) in
    record {
      answer = c.fit_by.ensures ∙ sym first;
      kept = rw (← c.self.view_is) c.self.invariant.keeps;
    }

pub loop-peer-preserved : goal.loop-peer-preserved
loop-peer-preserved c =
    let s = c.args.self.now in
    let f : ℕ → Fit = λ peer. fit_by s c.args.conit c.args.amount peer (missing_on c.args.side s c.args.conit peer) in
    let peer = c.loop-peer.peer in
    let replica : c.self.inside.config.replica ≡ s.replica = ap (λ (t : BudgetState). t.replica) c.self.view_is in
    elim c.if-peer-self.branch [
      | then-peer-self+in-Fits w ↦
          ap (refusals f) (peers_below-peer s.replica peer (λ same. w.if-peer-self.true (same ∙ sym replica)))
          ∙ refusals-more f (peers_below s.replica peer) peer c.loop-peer.invariant (sym w.fit_by.ensures ∙ w.in-Fits.is)
      | else-peer-self w ↦
          ap (refusals f) (peers_below-own s.replica peer (w.if-peer-self.false ∙ replica)) ∙ c.loop-peer.invariant
    ]
