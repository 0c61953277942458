use Rattle.std.proofs.Common.{◌≡◌, ◌+◌, ◌≤◌, sum_by, sym, ap, ◌∙◌, arith}
use Rattle.tact_base.specs.Setup.{Setup}
use Rattle.tact_base.specs.declared.limits.TheConstants.{ALPHA_MAX}
use Rattle.split_budget.specs.Budgets.{BudgetState, all_out, out}
use Rattle.split_budget.proofs.PeersBelow.{peers_below}
use Rattle.seat_app.proofs.PeerOuts.{all_out-part, outs-all, outs-own, outs-peer, outs-within}
use Rattle.seat_app.proofs.outs.all_out.Goals as goal
use Rattle.seat_app.proofs.outs.all_out.Goals.{After-out-out, then-peer-own, else-peer-own}

-- with one peer more it is within the limit
within : (c : After-out-out)
    → sum_by (λ peer. out c.budgets-budgets.result.now peer c.args.conit) (peers_below c.budgets-budgets.result.now.replica c.loop-peer.peer)
    + out c.budgets-budgets.result.now c.loop-peer.peer c.args.conit ≤ ALPHA_MAX
within c =
    let setup = c.budgets-budgets.ensures.setup in
    outs-within c.budgets-budgets.result.now c.args.conit c.loop-peer.peer c.out-out.ensures.kept
    (omega (arith, c.requires, ap (λ (s : Setup). s.conits) setup)) (omega (arith, c.replicas-peer-end.ensures.count, ap (λ (s : Setup). s.replicas) setup, c.loop-peer-test.true))
    (λ same. c.if-peer-own.true (same ∙ c.budgets-budgets.ensures.replica ∙ sym c.number-own.ensures))

pub overflow_add-out : goal.overflow_add-out
overflow_add-out c = omega (arith, within c, c.loop-peer.invariant.so_far, c.out-out.ensures.out)

pub loop-peer-preserved : goal.loop-peer-preserved
loop-peer-preserved c =
    let budgets = c.budgets-budgets.result.now in
    let setup = c.budgets-budgets.ensures.setup in
    let peer = c.loop-peer.peer in
    let own : c.number-own.result ≡ budgets.replica = c.number-own.ensures ∙ sym c.budgets-budgets.ensures.replica in
    elim c.if-peer-own.branch [
      | then-peer-own w ↦
          let other : peer ≡ budgets.replica → ⊥ = λ same. w.if-peer-own.true (same ∙ sym own) in
          let all = outs-within budgets c.args.conit peer w.out-out.ensures.kept
          (omega (arith, c.requires, ap (λ (s : Setup). s.conits) setup)) (omega (arith, c.replicas-peer-end.ensures.count, ap (λ (s : Setup). s.replicas) setup, c.loop-peer-test.true)) other in
          record {
            so_far = omega (arith, outs-peer budgets c.args.conit peer other, c.loop-peer.invariant.so_far, w.out-out.ensures.out, w.out-is);
            few = omega (arith, all, c.loop-peer.invariant.so_far, w.out-out.ensures.out, w.out-is);
          }
      | else-peer-own w ↦
          record {
            so_far = omega (arith, outs-own budgets c.args.conit peer (w.if-peer-own.false ∙ own), c.loop-peer.invariant.so_far, w.out-is);
            few = omega (arith, c.loop-peer.invariant.few, w.out-is);
          }
    ]

pub returns-clause-all : goal.returns-clause-all
returns-clause-all c =
    let budgets = c.budgets-budgets.result.now in
    let last : c.loop-peer.peer ≡ budgets.setup.replicas =
    omega (arith, c.replicas-peer-end.ensures.count, ap (λ (s : Setup). s.replicas) c.budgets-budgets.ensures.setup, c.loop-peer-test.false, c.loop-peer.auto.peer-end) in
    c.loop-peer.invariant.so_far
    ∙ outs-all budgets c.args.conit c.loop-peer.peer last
    ∙ ap (λ (b : BudgetState). all_out b c.args.conit) (sym c.budgets-budgets.ensures.budgets)

pub returns-clause-of_part : goal.returns-clause-of_part
returns-clause-of_part c = λ part stands.
    let budgets = c.budgets-budgets.ensures in
    returns-clause-all c
    ∙ all_out-part c.args.replica.now.core part c.args.conit stands (ap (λ (b : BudgetState). b.setup) budgets.budgets ∙ budgets.setup)
    (ap (λ (b : BudgetState). b.replica) budgets.budgets ∙ budgets.replica) c.requires
