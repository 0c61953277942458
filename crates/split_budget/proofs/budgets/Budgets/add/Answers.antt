use Rattle.std.proofs.Common.{refl}
use Rattle.tact_base.proofs.ConitListLemmas.{IsWeights}
use Rattle.split_budget.proofs.KeptLemmas.{peer_of_other}
use Rattle.split_budget.proofs.WritesKept.{added-fits, KeepsBudgets-added}
use Rattle.split_budget.proofs.budgets.Budgets.add.Goals as goal

pub add-requires-clause-plus : goal.add-requires-clause-plus
add-requires-clause-plus c = λ peer conit is on.
    let fits = rw (← c.self.view_is) at c.requires.fits in
    let good : IsWeights c.args.weights.now = c.items.ensures.kept in
    let is_peer = peer_of_other _ c.self.inside.own c.self.invariant refl peer is in
    rw c.items.ensures.items (added-fits _ c.self.invariant.keeps c.args.weights.now 0 good fits peer conit is_peer (rw c.self.invariant.conits at on)).0

pub add-requires-clause-minus : goal.add-requires-clause-minus
add-requires-clause-minus c = λ peer conit is on.
    let fits = rw (← c.self.view_is) at c.requires.fits in
    let good : IsWeights c.args.weights.now = c.items.ensures.kept in
    let is_peer = peer_of_other _ c.self.inside.own c.self.invariant refl peer is in
    rw c.items.ensures.items (added-fits _ c.self.invariant.keeps c.args.weights.now 0 good fits peer conit is_peer (rw c.self.invariant.conits at on)).1

pub invariant_of-self : goal.invariant_of-self
invariant_of-self c =
    let fits = rw (← c.self.view_is) at c.requires.fits in
    let good : IsWeights c.args.weights.now = c.items.ensures.kept in
    rw (c.add.ensures.added, c.items.ensures.items) (record {
      keeps = KeepsBudgets-added _ c.self.invariant.keeps c.args.weights.now c.add.new.self.room good fits;
      replica = c.self.invariant.replica;
      conits = c.self.invariant.conits;
    })
