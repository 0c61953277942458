use Rattle.std.proofs.Common.{◌≡◌, ℕ, ◌<◌, length, arith, ◌∙◌, ap, sym}
use Rattle.std.proofs.lemmas.List.Sums.{sum-map}
use Rattle.tact_base.proofs.SetupLemmas.{HasCounts-from_IsSetup, place_in, places_are_few}
use Rattle.tact_base.specs.Setup.{alpha_of, peers_of}
use Rattle.split_budget.specs.Budgets.{BudgetState, setup_of, out}
use Rattle.split_budget.proofs.PeersBelow.{peer-within, left-peer, left-own}
use Rattle.split_budget.proofs.budgets.Budgets.home.Goals as goal
use Rattle.split_budget.proofs.budgets.Budgets.home.Goals.{After-items, then-peer-self, else-peer-self}

-- the place is one of the alphas
within : (c : After-items) → c.place_of-place.result < length c.self.inside.config.alphas
within c =
    let s = setup_of c.self.inside.config in
    let counts = HasCounts-from_IsSetup s c.self.invariant.keeps.setup in
    rw (c.place_of-place.ensures, counts.alphas) (place_in s c.self.inside.config.replica c.args.conit c.self.invariant.keeps.replica (rw (← c.self.view_is) at c.requires))

pub bounds-items-place : goal.bounds-items-place
bounds-items-place c = rw c.items.ensures (within (goal.at.bounds-items-place c).After-items)

pub offset_bounds-items-place : goal.offset_bounds-items-place
offset_bounds-items-place c =
    let s = setup_of c.self.inside.config in
    let counts = HasCounts-from_IsSetup s c.self.invariant.keeps.setup in
    omega (arith, within c, counts.alphas, places_are_few s counts)

pub overflow_sub-home : goal.overflow_sub-home
overflow_sub-home c =
    let s = c.args.self.now in
    let f : ℕ → ℕ = λ peer. out s peer c.args.conit in
    let replica : c.self.inside.config.replica ≡ s.replica = ap (λ (t : BudgetState). t.replica) c.self.view_is in
    let replicas : c.self.inside.config.replicas ≡ s.setup.replicas = ap (λ (t : BudgetState). t.setup.replicas) c.self.view_is in
    let within = peer-within f s.replica s.setup.replicas (alpha_of s.setup s.replica c.args.conit) c.loop-peer.home c.loop-peer.peer c.loop-peer.invariant
    (omega (arith, replicas)) (λ same. c.if-peer-self.true (same ∙ sym replica)) (c.out-home.ensures.kept.home c.args.conit c.requires) in
    omega (arith, within, c.out-home.ensures.out)

pub loop-peer-preserved : goal.loop-peer-preserved
loop-peer-preserved c =
    let s = c.args.self.now in
    let f : ℕ → ℕ = λ peer. out s peer c.args.conit in
    let peer = c.loop-peer.peer in
    let alpha = alpha_of s.setup s.replica c.args.conit in
    let replica : c.self.inside.config.replica ≡ s.replica = ap (λ (t : BudgetState). t.replica) c.self.view_is in
    let replicas : c.self.inside.config.replicas ≡ s.setup.replicas = ap (λ (t : BudgetState). t.setup.replicas) c.self.view_is in
    elim c.if-peer-self.branch [
      | then-peer-self w ↦
          let other : peer ≡ s.replica → ⊥ = λ same. w.if-peer-self.true (same ∙ sym replica) in
          let within = peer-within f s.replica s.setup.replicas alpha c.loop-peer.home peer c.loop-peer.invariant (omega (arith, replicas)) other
          (w.out-home.ensures.kept.home c.args.conit c.requires) in
          omega (arith, left-peer f s.replica s.setup.replicas alpha c.loop-peer.home peer c.loop-peer.invariant other within, w.out-home.ensures.out)
      | else-peer-self w ↦
          omega (arith, left-own f s.replica s.setup.replicas alpha c.loop-peer.home peer c.loop-peer.invariant (w.if-peer-self.false ∙ replica))
    ]

pub returns-clause-home : goal.returns-clause-home
returns-clause-home c =
    let s = c.args.self.now in
    let f : ℕ → ℕ = λ peer. out s peer c.args.conit in
    let replicas : c.self.inside.config.replicas ≡ s.setup.replicas = ap (λ (t : BudgetState). t.setup.replicas) c.self.view_is in
    let all : c.loop-peer.peer ≡ s.setup.replicas = omega (arith, replicas) in
    let kept = rw all at c.loop-peer.invariant in
    omega (arith, kept, sum-map f (peers_of s.setup s.replica))
