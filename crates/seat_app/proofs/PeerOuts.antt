-- What a replica's peers have of its bound, peer by peer.
use Rattle.std.proofs.Common.{◌≡◌, ℕ, ◌+◌, ◌<◌, ◌≤◌, List, ◌∷◌, map, sum, sum_by, sym, ap, ap₂, ◌∙◌, arith}
use Rattle.std.proofs.lemmas.List.Sums.{sum-map, sum_by-append, sum_by-cons, sum_by_push}
use Rattle.tact_base.proofs.ListLemmas.{map_agree}
use Rattle.tact_base.proofs.Peers.{All-peers}
use Rattle.tact_base.proofs.SetupLemmas.{HasRow-from_IsSetup}
use Rattle.tact_base.specs.Setup.{Setup, peers_of}
use Rattle.tact_base.specs.declared.limits.TheConstants.{ALPHA_MAX}
use Rattle.split_budget.specs.Budgets.{BudgetState, all_out, out}
use Rattle.split_budget.specs.Kept.{KeepsBudgets}
use Rattle.split_budget.proofs.PeersBelow.{peers_after, peers_below, peers_below-own, peers_below-peer, peers_below-split}
use Rattle.run_model.specs.Loans as model
use Rattle.run_model.specs.declared.entry.Entry.{Entry}
use Rattle.replica_core.specs.Stands.{Stands}
use Rattle.replica_core.specs.States.{Core}
use Rattle.replica_core.proofs.BudgetViews.{out-part}
use Rattle.seat_app.specs.Seats.{out_of}

module _ (budgets : BudgetState) (conit : ℕ) where
  abbrev out_at : ℕ → ℕ
  out_at peer = out budgets peer conit

  -- one peer more
  pub outs-peer : (peer : ℕ)
      → (peer ≡ budgets.replica → ⊥)
      → sum_by out_at (peers_below budgets.replica (peer + 1)) ≡ sum_by out_at (peers_below budgets.replica peer) + out_at peer
  outs-peer peer other = ap (sum_by out_at) (peers_below-peer budgets.replica peer other) ∙ sum_by_push out_at (peers_below budgets.replica peer) peer

  pub outs-own : (peer : ℕ)
      → peer ≡ budgets.replica
      → sum_by out_at (peers_below budgets.replica (peer + 1)) ≡ sum_by out_at (peers_below budgets.replica peer)
  outs-own peer same = ap (sum_by out_at) (peers_below-own budgets.replica peer same)

  -- which all are within a limit
  pub outs-within : (peer : ℕ)
      → KeepsBudgets budgets
      → conit < budgets.setup.conits
      → peer < budgets.setup.replicas
      → (peer ≡ budgets.replica → ⊥)
      → sum_by out_at (peers_below budgets.replica peer) + out_at peer ≤ ALPHA_MAX
  outs-within peer keeps conit_in peer_in other =
      let split = ap (sum_by out_at) (peers_below-split budgets.replica peer budgets.setup.replicas peer_in other) in
      omega (
        arith,
        split,
        sum_by-append out_at (peers_below budgets.replica peer) (peer ∷ peers_after budgets.replica peer budgets.setup.replicas),
        sum_by-cons out_at peer (peers_after budgets.replica peer budgets.setup.replicas),
        sum-map out_at (peers_below budgets.replica budgets.setup.replicas),
        keeps.home conit conit_in,
        (HasRow-from_IsSetup budgets.setup keeps.setup budgets.replica conit keeps.replica conit_in).alpha,
      )

  -- all of them
  pub outs-all : (peer : ℕ)
      → peer ≡ budgets.setup.replicas
      → sum_by out_at (peers_below budgets.replica peer) ≡ all_out budgets conit
  outs-all peer last =
      ap (λ n. sum_by out_at (peers_below budgets.replica n)) last ∙ sym (sum-map out_at (peers_below budgets.replica budgets.setup.replicas))

-- what the definitions say of a part that the replica stands for
pub all_out-part : (core : Core) (part : List Entry) (conit : ℕ)
    → Stands part core
    → core.budgets.setup ≡ core.setup
    → core.budgets.replica ≡ core.replica
    → conit < core.setup.conits
    → all_out core.budgets conit ≡ out_of core.setup core.replica part conit
all_out-part core part conit stands setup replica conit_in =
    ap₂ (λ (s : Setup) (r : ℕ). sum (map (λ peer. out core.budgets peer conit) (peers_of s r))) setup replica
    ∙ ap sum (map_agree (λ peer. out core.budgets peer conit) (λ peer. model.out core.setup core.replica part peer conit) (peers_of core.setup core.replica)
    (All-peers core.setup core.replica (λ peer. out core.budgets peer conit ≡ model.out core.setup core.replica part peer conit)
    (λ peer peer_in other. out-part core.setup core.replica part core.budgets stands.budgets setup replica peer conit peer_in other conit_in)))
